-- Numbers read back from their bytes, and from the bytes behind others.
use Rattle.std.proofs.Common.{◌≡◌, ℕ, zero, suc, ◌+◌, ◌*◌, ◌^◌, ◌<◌, List, ◌++◌, length, get_or, refl, ap, ◌∙◌, arith}
use Rattle.std.proofs.lemmas.List.{get_or-append-add}
use Rattle.iop_base.specs.Numbers.{number_at, bytes_of, word_at}
use Rattle.iop_base.proofs.Lists.{number_at-word}

pub half_again : (n : ℕ) → n < 2 ^ 16 → number_at (bytes_of 2 n) 0 2 ≡ n
half_again n small = omega arith

pub word_again : (n : ℕ) → n < 2 ^ 32 → number_at (bytes_of 4 n) 0 4 ≡ n
word_again n small = number_at-word (bytes_of 4 n) 0 n small refl

module _ (front rest : List ℕ) where
  number_at-behind : (n k p : ℕ) → p ≡ length front + k
      → number_at (front ++ rest) p n ≡ number_at rest k n
  number_at-behind zero k p place = refl
  number_at-behind (suc n) k p place =
      let next : p + 1 ≡ length front + (k + 1) = omega arith in
      ap (λ b. b + 256 * number_at (front ++ rest) (p + 1) n)
      (ap (λ q. get_or (front ++ rest) q 0) place ∙ get_or-append-add front rest k 0)
      ∙ ap (λ h. get_or rest k 0 + 256 * h) (number_at-behind n (k + 1) (p + 1) next)

  pub word_at-behind : (k p : ℕ) → p ≡ length front + k
      → word_at (front ++ rest) p ≡ word_at rest k
  unfolding word_at
  word_at-behind k p place = number_at-behind 4 k p place
