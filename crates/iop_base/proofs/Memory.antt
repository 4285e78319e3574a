-- Numbers read from memory into which bytes were put.
use Rattle.std.proofs.Common.{Some, ◌/◌, ◌%◌, ◌≡◌, ℕ, zero, suc, ◌+◌, ◌-◌, ◌*◌, ◌<◌, ◌≤◌, List, ◌++◌, length, take, drop, get_or, refl, ap, ◌∙◌, arith}
use Rattle.std.proofs.lemmas.List.{get_or_append_left, get_or-append_right, length-take-le, length-append, length-drop, get_or-take}
use Rattle.std.proofs.lemmas.Bool.{lt-ltb, le-leb}
use Rattle.iop_base.specs.Numbers.{number_at, with_bytes}
use Rattle.iop_base.specs.Places.{load_at}
use Rattle.iop_base.specs.declared.width.Width.TheVariants.{Word}

module _ (memory : List ℕ) (p : ℕ) (bytes : List ℕ)
    (inside : p + length bytes ≤ length memory) where
  -- what lies behind the bytes
  abbrev rest : List ℕ
  rest = drop (p + length bytes) memory

  front_length : length (take p memory) ≡ p
  front_length = length-take-le p memory (omega arith)

  both_length : length (take p memory ++ bytes) ≡ p + length bytes
  both_length = length-append (take p memory) bytes ∙ ap (λ n. n + length bytes) front_length

  pub length-with_bytes : length (with_bytes memory p bytes) ≡ length memory
  length-with_bytes =
      let all = length-append (take p memory ++ bytes) rest in
      omega (arith, all, both_length, length-drop (p + length bytes) memory)

  byte_inside : (k : ℕ) → k < length bytes
      → get_or (with_bytes memory p bytes) (p + k) 0 ≡ get_or bytes k 0
  byte_inside k below =
      get_or_append_left (take p memory ++ bytes) rest 0 (p + k) (omega (arith, both_length))
      ∙ get_or-append_right (take p memory) bytes p (p + k) 0 front_length (omega arith)
      ∙ (let e : p + k - p ≡ k = omega arith in ap (λ n. get_or bytes n 0) e)

  byte_before : (q : ℕ) → q < p → get_or (with_bytes memory p bytes) q 0 ≡ get_or memory q 0
  byte_before q below =
      get_or_append_left (take p memory ++ bytes) rest 0 q (omega (arith, both_length))
      ∙ get_or_append_left (take p memory) bytes 0 q (omega (arith, front_length))
      ∙ get_or-take p memory q 0 below

  -- a number among the bytes that were put
  pub number_at_inside : (k n : ℕ) → k + n ≤ length bytes
      → number_at (with_bytes memory p bytes) (p + k) n ≡ number_at bytes k n
  number_at_inside k zero fits = refl
  number_at_inside k (suc n) fits =
      let next : p + k + 1 ≡ p + (k + 1) = omega arith in
      let low = byte_inside k (omega arith) in
      let same = ap (λ q. number_at (with_bytes memory p bytes) q n) next in
      let high = same ∙ number_at_inside (k + 1) n (omega arith) in
      ap (λ b. b + 256 * number_at (with_bytes memory p bytes) (p + k + 1) n) low
      ∙ ap (λ h. get_or bytes k 0 + 256 * h) high

  -- a number before them
  pub number_at_before : (q n : ℕ) → q + n ≤ p
      → number_at (with_bytes memory p bytes) q n ≡ number_at memory q n
  number_at_before q zero fits = refl
  number_at_before q (suc n) fits =
      let low = byte_before q (omega arith) in
      ap (λ b. b + 256 * number_at (with_bytes memory p bytes) (q + 1) n) low
      ∙ ap (λ h. get_or memory q 0 + 256 * h) (number_at_before (q + 1) n (omega arith))

-- an aligned word in the first 512 MiB of the address space, KUSEG's part of RAM
pub load_at-low_word : (memory : List ℕ) (p : ℕ) → p % 4 ≡ 0 → p + 4 ≤ length memory
    → p < 0x20000000 → load_at memory p Word ≡ Some (number_at memory p 4)
load_at-low_word memory p aligned inside low =
    let segment : p / 0x20000000 ≡ 0 = omega arith in
    let place : p % 0x20000000 ≡ p = omega arith in
    let below = lt-ltb p (length memory) (omega arith) in
    let fits = le-leb (p + 4) (length memory) inside in
    rw (aligned, segment, place, below, fits) refl
