-- Where a size does not fit it does not fit either once more is out.
use Rattle.std.proofs.Common.{◌≡◌, ℕ, ◌+◌, ◌*◌, ◌==◌, nat_le, nat_lt, Bool, true, false, ◌&&◌, cond, if◌then◌else◌, Some, None, find, List, [], ◌∷◌, map, refl}
use Rattle.std.specs.List.{list_all, range_with_len}
use Rattle.iop_pools.specs.Pools.{Pool, units_of, length_for, place_for}
use Rattle.iop_pools.specs.Ranges.{with_range, is_apart, is_free}
use Rattle.iop_pools.specs.VariablePools.{place_of}
use Rattle.iop_pools.specs.declared.range.Range.{Range}

-- what is found nowhere is found nowhere by a test that fails more often
pub none_found : (p q : ℕ → Bool) → ((n : ℕ) → p n ≡ false → q n ≡ false) → (xs : List ℕ)
    → find p xs ≡ None → find q xs ≡ None
none_found p q fails [] none = refl
none_found p q fails (x ∷ xs) none =
    by (p x) (q x) (fails x) (none_found p q fails xs) none
  where
    by : (b d : Bool) → (b ≡ false → d ≡ false) → (find p xs ≡ None → find q xs ≡ None)
        → cond b (Some x) (find p xs) ≡ None → cond d (Some x) (find q xs) ≡ None
    by true d fail rest none = cc
    by false true fail rest none = absurd (cc (fail refl))
    by false false fail rest none = rest none

-- not all meet a test where one more is there
all_with : (p : Range → Bool) (r : Range) (rs : List Range) → list_all p rs ≡ false
    → list_all p (with_range r rs) ≡ false
all_with p r [] fails = cc
all_with p r (x ∷ xs) fails = by (nat_lt x.start r.start) fails (all_with p r xs)
  where
    both : (a b : Bool) → b ≡ false → (a && b) ≡ false
    both true b fails = fails
    both false b fails = refl

    later : (px : Bool) → (px && list_all p xs) ≡ false
        → (list_all p xs ≡ false → list_all p (with_range r xs) ≡ false)
        → (px && list_all p (with_range r xs)) ≡ false
    later true fails rest = rest fails
    later false fails rest = refl

    by : (less : Bool) → (p x && list_all p xs) ≡ false
        → (list_all p xs ≡ false → list_all p (with_range r xs) ≡ false)
        → list_all p (if less then x ∷ with_range r xs else r ∷ x ∷ xs) ≡ false
    by true fails rest = later (p x) fails rest
    by false fails rest = both (p r) (p x && list_all p xs) fails

module _ (x : Pool) (r : Range) where
  -- one range more is out
  abbrev pub fuller : Pool
  fuller = record x { ranges = with_range r x.ranges }

  free_nowhere : (end len place : ℕ) → is_free end len x.ranges place ≡ false
      → is_free end len fuller.ranges place ≡ false
  free_nowhere end len place =
      by (nat_le (place + len) end) (all_with (is_apart place len) r x.ranges)
    where
      by : (b : Bool)
          → (list_all (is_apart place len) x.ranges ≡ false
          → list_all (is_apart place len) fuller.ranges ≡ false)
          → (b && list_all (is_apart place len) x.ranges) ≡ false
          → (b && list_all (is_apart place len) fuller.ranges) ≡ false
      by true rest fails = rest fails
      by false rest fails = refl

  pub fuller_none : (size : ℕ) → place_for x size ≡ None → place_for fuller size ≡ None
  fuller_none size =
      let end = x.base + units_of x * x.unit in
      let len = length_for x size in
      none_found (is_free end len x.ranges) (is_free end len fuller.ranges)
      (free_nowhere end len) (map (λ k. x.base + k * x.unit) (range_with_len 0 (units_of x)))

  pub fuller_unplaced : (size : ℕ) → place_of x size ≡ None → place_of fuller size ≡ None
  fuller_unplaced size = by (size == 0) (fuller_none size)
    where
      by : (b : Bool) → (place_for x size ≡ None → place_for fuller size ≡ None)
          → (if b then None else place_for x size) ≡ None
          → (if b then None else place_for fuller size) ≡ None
      by true rest none = refl
      by false rest none = rest none
