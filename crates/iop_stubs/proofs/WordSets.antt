-- Sets of words in the bits of many numbers.
use Rattle.std.proofs.Common.{◌≡◌, ◌≢◌, ℕ, zero, suc, ◌/◌, ◌%◌, ◌^◌, ◌==◌, ◌⊎◌, inl, inr, Bool, false, List, get_or, set, replicate, refl, ap, sym, ◌∙◌, arith}
use Rattle.std.specs.Prelude.{bit_and}
use Rattle.std.proofs.lemmas.Bool.{cases_eq}
use Rattle.std.proofs.lemmas.List.{length-set, get_or-set_same, get_or-set_other, get_or_read}
use Rattle.iop_base.specs.Bits.{has as has_bit, ChangesOnly as ChangesOnlyBit}
use Rattle.iop_base.proofs.Bits.{has-none, tested}
use Rattle.iop_stubs.specs.WordSets.{has, HasRoom, ChangesOnly}

zeros_at : (n k : ℕ) → get_or (replicate {A = ℕ} n 0) k 0 ≡ 0
zeros_at zero k = refl
zeros_at (suc n) zero = refl
zeros_at (suc n) (suc k) = zeros_at n k

pub has-zeros : (count n : ℕ) → has (replicate {A = ℕ} count 0) n ≡ false
unfolding has
has-zeros count n =
    ap (λ b. has_bit b (n % 64)) (zeros_at count (n / 64)) ∙ has-none (n % 64)

-- was : the number that tells of word n
module _ (bits : List ℕ) (n was : ℕ) (room : HasRoom bits n) (read : was ≡ get_or bits (n / 64) was)
  where
    pub tested_in : (bit_and (was / 2 ^ (n % 64)) 1 == 1) ≡ has bits n
    unfolding has
    tested_in =
        tested was (n % 64)
        ∙ ap (λ b. has_bit b (n % 64)) (get_or_read bits (n / 64) was room read 0)

    -- one bit of the number changes
    module _ (now : ℕ) (is_in : Bool) (change : ChangesOnlyBit was now (n % 64) is_in) where
      abbrev new : List ℕ
      new = set bits (n / 64) now

      other_by : (k : ℕ) → k ≢ n → (k / 64 ≡ n / 64) ⊎ (k / 64 ≢ n / 64) → has new k ≡ has bits k
      unfolding has
      other_by k ne (inl here) =
          let apart : k % 64 ≢ n % 64 = λ e. ne (omega (arith, e, here)) in
          ap (λ b. has_bit b (k % 64))
          (ap (λ j. get_or new j 0) here ∙ get_or-set_same bits (n / 64) now 0 room)
          ∙ change.others (k % 64) apart
          ∙ ap (λ b. has_bit b (k % 64))
          (get_or_read bits (n / 64) was room read 0 ∙ ap (λ j. get_or bits j 0) (sym here))
      other_by k ne (inr other) =
          ap (λ b. has_bit b (k % 64)) (get_or-set_other bits (n / 64) (k / 64) now 0 other)

      pub changes : ChangesOnly bits new n is_in
      unfolding has
      changes = record {
        room = length-set bits (n / 64) now;
        changed =
            ap (λ b. has_bit b (n % 64)) (get_or-set_same bits (n / 64) now 0 room)
            ∙ change.changed;
        others = λ k ne. other_by k ne (cases_eq (k / 64) (n / 64));
      }
