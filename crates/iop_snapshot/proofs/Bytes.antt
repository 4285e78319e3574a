-- Numbers and the bytes that hold them, as memory has them and as byteorder does.
use Rattle.std.proofs.Common.{◌≡◌, ℕ, zero, suc, ◌+◌, ◌*◌, ◌/◌, ◌%◌, ◌^◌, ◌<◌, List, ◌++◌, length, get_or, refl, sym, ap, subst, ◌∙◌, arith, inl, inr}
use Rattle.std.proofs.Math.Nat.{pow-suc, div-div-eq-div-mul}
use Rattle.std.specs.Int.{byte_at, bytes_low_first}
use Rattle.std.specs.List.{All}
use Rattle.std.proofs.lemmas.Bool.{cases_lt}
use Rattle.std.proofs.lemmas.List.{get_or_past}
use Rattle.byteorder.specs.Endian.{little_from}
use Rattle.byteorder.specs.Numbers.{little_from-lt, little_number-reads_back}
use Rattle.iop_base.specs.Numbers.{IsByte, number_at, bytes_of}

pub little_from-number_at : (place n : ℕ) (bytes : List ℕ)
    → little_from place n bytes ≡ number_at bytes place n
little_from-number_at place zero bytes = refl
little_from-number_at place (suc n) bytes =
    let next : suc place ≡ place + 1 = omega arith in
    ap (λ rest. get_or bytes place 0 + 256 * rest)
    (little_from-number_at (suc place) n bytes ∙ ap (λ p. number_at bytes p n) next)

byte_at-quotient : (i value : ℕ) → byte_at i value ≡ value / 256 ^ i % 256
byte_at-quotient zero value = omega arith
byte_at-quotient (suc i) value = refl

bytes_from : (i n value : ℕ) → bytes_low_first i n value ≡ bytes_of n (value / 256 ^ i)
bytes_from i zero value = refl
bytes_from i (suc n) value =
    let next : value / 256 ^ suc i ≡ value / 256 ^ i / 256 =
    ap (λ d. value / d) (pow-suc 256 i) ∙ sym (div-div-eq-div-mul value (256 ^ i) 256) in
    rw (byte_at-quotient i value, bytes_from (suc i) n value, next) refl

pub bytes_low_first-bytes_of : (n value : ℕ) → bytes_low_first 0 n value ≡ bytes_of n value
bytes_low_first-bytes_of n value =
    let all : value / 256 ^ 0 ≡ value = omega arith in bytes_from 0 n value ∙ ap (bytes_of n) all

-- a number is read back
pub number_at-bytes_of : (n value : ℕ) (rest : List ℕ) → value < 256 ^ n
    → number_at (bytes_of n value ++ rest) 0 n ≡ value
number_at-bytes_of n value rest fits =
    sym (little_from-number_at 0 n (bytes_of n value ++ rest))
    ∙ ap (λ bytes. little_from 0 n (bytes ++ rest)) (sym (bytes_low_first-bytes_of n value))
    ∙ little_number-reads_back n value rest fits

byte_below : (bytes : List ℕ) → All IsByte bytes → (k : ℕ) → get_or bytes k 0 < 256
byte_below bytes all k =
    elim (cases_lt k (length bytes)) [
      | inl inside ↦ all k 0 inside
      | inr past ↦ rw (get_or_past bytes k 0 past) (omega arith)
    ]

-- what bytes hold has room in as many
pub number_at-below : (bytes : List ℕ) (place n : ℕ) → All IsByte bytes
    → number_at bytes place n < 256 ^ n
number_at-below bytes place n all =
    subst (λ number. number < 256 ^ n) (little_from-number_at place n bytes)
    (little_from-lt place n bytes (byte_below bytes all))
