-- The two digits of each byte are those that the crate hex writes.
use Rattle.std.proofs.Common.{◌≡◌, ℕ, zero, suc, ◌+◌, ◌/◌, ◌%◌, ◌<◌, ◌==◌, Bool, true, ◌&&◌, List, [], ◌∷◌, ◌++◌, refl, ap, sym, ◌∙◌, arith, inl, inr, slice_index, Result, Ok, Err, is_ok}
use Rattle.std.specs.List.{flat_map}
use Rattle.std.specs.Result.{OnOk}
use Rattle.std.proofs.lemmas.Bool.{and_parts, cases_lt, eqb-true}
use Rattle.hex.specs.Hex.{IsBytes, encode_lower, encode_with, lower_digits}
use Rattle.iop_base.specs.Text.{hex_digit, hex_digits}

-- whether the first of the crate's digits are those that are wanted
abbrev are_digits : ℕ → Bool
are_digits zero = true
are_digits (suc n) = (slice_index lower_digits n == hex_digit n) && are_digits n

are_digits-at : (n d : ℕ) → are_digits n ≡ true → d < n → hex_digit d ≡ slice_index lower_digits d
are_digits-at zero d all below = absurd (omega arith)
are_digits-at (suc n) d all below =
    let parts = and_parts (slice_index lower_digits n == hex_digit n) (are_digits n) all in
    elim (cases_lt d n) [
      | inl before ↦ are_digits-at n d parts.1 before
      | inr last ↦
          let here : d ≡ n = omega arith in
          rw here (sym (eqb-true (slice_index lower_digits n) (hex_digit n) parts.0))
    ]

digit_is : (d : ℕ) → d < 16 → hex_digit d ≡ slice_index lower_digits d
digit_is d below = are_digits-at 16 d refl below

byte_digits : (b : ℕ) → b < 256
    → hex_digits 2 b
    ≡ slice_index lower_digits (b / 16) ∷ slice_index lower_digits (b % 16) ∷ []
byte_digits b small =
    let high : b / 16 % 16 ≡ b / 16 = omega arith in
    ap (λ d. hex_digit d ∷ hex_digit (b % 16) ∷ []) high
    ∙ ap (λ c. c ∷ hex_digit (b % 16) ∷ []) (digit_is (b / 16) (omega arith))
    ∙ ap (λ c. slice_index lower_digits (b / 16) ∷ c ∷ []) (digit_is (b % 16) (omega arith))

pub bytes_digits : (bytes : List ℕ) → IsBytes bytes
    → flat_map (hex_digits 2) bytes ≡ encode_lower bytes
unfolding encode_with
bytes_digits [] small = refl
bytes_digits (b ∷ rest) small =
    ap (λ digits. digits ++ flat_map (hex_digits 2) rest) (byte_digits b (small 0))
    ∙ ap (λ t. slice_index lower_digits (b / 16) ∷ slice_index lower_digits (b % 16) ∷ t)
    (bytes_digits rest (λ i. small (suc i)))

pub when_ok : {T E P : Type 0} (r : Result T E) → is_ok r ≡ true → OnOk r P → P
when_ok (Ok x) is h = h
when_ok (Err e) is h = absurd (cc)
