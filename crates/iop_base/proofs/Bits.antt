-- Sets of numbers in the bits of a word.
use Rattle.std.proofs.Common.{◌≡◌, ◌≢◌, ◌∙◌, ℕ, zero, suc, ◌*◌, ◌/◌, ◌%◌, ◌^◌, ◌<◌, ◌≤◌, ◌==◌, ◌&&◌, min, true, false, ⊎_elim, refl, ap, arith}
use mir.Val.{bits}
use Rattle.std.specs.Prelude.{bit_and, bit_or}
use Rattle.std.specs.Int.{Width, bit_at, bit_not, trailing_zeros}
use Rattle.std.proofs.lemmas.Bool.{cases_lt}
use Rattle.std.proofs.lemmas.Bool.Decides.{nat_tests}
use Rattle.std.proofs.lemmas.Nat.Bits.{bit_at-lt, bit_at-zero, bit_at-trailing_zeros, bit_at_above, bit_at_and, bit_at_set_same, bit_at_set_other, bit_at_clear_same, bit_at_clear_other, shr_and_one}
use Rattle.iop_base.specs.Bits.{has, ChangesOnly, IsLeast}

-- the empty set
pub has-none : (n : ℕ) → has 0 n ≡ false
unfolding has
has-none n = ap (λ (bit : ℕ). bit == 1) (bit_at-zero n)

-- the test of a bit
pub tested : (word n : ℕ) → (bit_and (word / 2 ^ n) 1 == 1) ≡ has word n
unfolding has
tested word n = ap (λ (bit : ℕ). bit == 1) (shr_and_one word n)

both : (x y : ℕ) → x < 2 → y < 2 → (min x y == 1) ≡ ((x == 1) && (y == 1))
both zero y h g = grind (arith, nat_tests)
both (suc zero) y h g = grind (arith, nat_tests)
both (suc (suc x)) y h g = absurd (omega arith)

-- what is in two sets
pub has-and : (a b n : ℕ) → has (bit_and a b) n ≡ (has a n && has b n)
unfolding has
has-and a b n =
    ap (λ (bit : ℕ). bit == 1) (bit_at_and a b n)
    ∙ both (bit_at a n) (bit_at b n) (bit_at-lt a n) (bit_at-lt b n)

-- a word of so many bits
module _ (w : Width) (word : ℕ) (fits : word < 2 ^ bits w) where
  -- it has nothing beyond its bits
  has-beyond : (n : ℕ) → bits w ≤ n → has word n ≡ false
  unfolding has
  has-beyond n beyond = ap (λ (bit : ℕ). bit == 1) (bit_at_above word (bits w) n fits beyond)

  -- the place of its lowest 1
  pub least_is : 0 < word → IsLeast word (trailing_zeros w word)
  unfolding has
  least_is some =
      let found = bit_at-trailing_zeros w word some fits in
      record {
        in_set = ap (λ (bit : ℕ). bit == 1) found.1;
        lower = λ k h. ap (λ (bit : ℕ). bit == 1) (found.2 k h);
      }

  module _ (n : ℕ) (within : n < bits w) where
    abbrev without : ℕ
    without = bit_and word (bit_not w (1 * 2 ^ n % 2 ^ bits w))

    kept_within : (k : ℕ) → k ≢ n → k < bits w → has without k ≡ has word k
    unfolding has
    kept_within k other h =
        ap (λ (bit : ℕ). bit == 1) (bit_at_clear_other w word n within k h other)

    kept_beyond : (k : ℕ) → bits w ≤ k → has without k ≡ has word k
    kept_beyond k beyond =
        has-and word (bit_not w (1 * 2 ^ n % 2 ^ bits w)) k ∙ rw (has-beyond k beyond) refl

    -- one number taken out
    pub removed : ChangesOnly word without n false
    unfolding has
    removed = record {
      changed = ap (λ (bit : ℕ). bit == 1) (bit_at_clear_same w word n within);
      others = λ k other. ⊎_elim (kept_within k other) (kept_beyond k) (cases_lt k (bits w));
    }

-- one number put in
pub inserted : (w : Width) (word n : ℕ) → n < bits w
    → ChangesOnly word (bit_or word (1 * 2 ^ n % 2 ^ bits w)) n true
unfolding has
inserted w word n within = record {
  changed = ap (λ (bit : ℕ). bit == 1) (bit_at_set_same w word n within);
  others = λ k other. ap (λ (bit : ℕ). bit == 1) (bit_at_set_other w word n within k other);
}
