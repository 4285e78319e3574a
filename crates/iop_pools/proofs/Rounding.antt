-- Sizes that are rounded up to units, and what that leaves of the places where they fit.
use Rattle.std.proofs.Common.{◌≡◌, ℕ, zero, suc, ◌+◌, ◌*◌, ◌<◌, ◌≤◌, ◌==◌, nat_le, Bool, true, false, ◌&&◌, ◌||◌, if◌then◌else◌, None, List, [], ◌∷◌, map, refl, ap, sym, ◌∙◌, subst, arith}
use Rattle.std.specs.Int.{div_ceil}
use Rattle.std.specs.List.{list_all, range_with_len}
use Rattle.std.proofs.lemmas.Bool.Decides.{nat_tests}
use Rattle.std.proofs.lemmas.Grind.{div_ceil_times}
use Rattle.iop_pools.specs.Pools.{Pool, units_of, length_for, place_for}
use Rattle.iop_pools.specs.Ranges.{rounded, end_of, is_apart, is_free, first_free}
use Rattle.iop_pools.specs.VariablePools.{pool_length, place_of}
use Rattle.iop_pools.specs.declared.range.Range.{Range}
use Rattle.iop_pools.specs.declared.variable_pool.TheConstants.{VARIABLE_UNIT}
use Rattle.iop_pools.proofs.Fuller.{none_found}

module _ (unit : ℕ) (some : 0 < unit) where
  by_products : (a b : ℕ) → a * unit < b * unit → a < b
  by_products a b less = grind (arith, less, some)

  longer : (a b : ℕ) → a ≤ b → a * unit ≤ b * unit
  longer a b le = grind (arith, le)

  pub rounded_up : (size : ℕ) → size ≤ rounded unit size
  rounded_up size = (div_ceil_times size unit some).0

  -- no units that are as many bytes are fewer
  pub rounded_least : (size k : ℕ) → size ≤ k * unit → rounded unit size ≤ k * unit
  rounded_least size k le =
      let near : rounded unit size < size + unit = (div_ceil_times size unit some).1 in
      let more : (k + 1) * unit ≡ k * unit + unit = omega arith in
      let fewer = by_products (div_ceil size unit) (k + 1) (omega (arith, near, more, le)) in
      longer (div_ceil size unit) k (omega (arith, fewer))

  pub rounded_units : (k : ℕ) → rounded unit (k * unit) ≡ k * unit
  rounded_units k =
      let up = rounded_up (k * unit) in
      omega (arith, up, rounded_least (k * unit) k (omega arith))

  pub one_unit : rounded unit unit ≡ unit
  one_unit = subst (λ n. rounded unit n ≡ n) (omega arith) (rounded_units 1)

  pub rounded_more : (a b : ℕ) → a ≤ b → rounded unit a ≤ rounded unit b
  rounded_more a b le = rounded_least a (div_ceil b unit) (omega (arith, le, rounded_up b))

-- where so many bytes are not free more are not
longer_apart : (place len more : ℕ) → len ≤ more → (r : Range) → is_apart place len r ≡ false
    → is_apart place more r ≡ false
longer_apart place len more le r fails =
    by (nat_le (end_of r) place) (nat_le (place + len) r.start) (nat_le (place + more) r.start)
    (λ no. grind (arith, nat_tests, le, no)) fails
  where
    by : (b d e : Bool) → (d ≡ false → e ≡ false) → (b || d) ≡ false → (b || e) ≡ false
    by true d e rest fails = cc
    by false d e rest fails = rest fails

longer_all : (place len more : ℕ) → len ≤ more → (rs : List Range)
    → list_all (is_apart place len) rs ≡ false → list_all (is_apart place more) rs ≡ false
longer_all place len more le [] fails = cc
longer_all place len more le (r ∷ rs) fails =
    by (is_apart place len r) (is_apart place more r) (longer_apart place len more le r)
    (longer_all place len more le rs) fails
  where
    by : (b d : Bool) → (b ≡ false → d ≡ false)
        → (list_all (is_apart place len) rs ≡ false → list_all (is_apart place more) rs ≡ false)
        → (b && list_all (is_apart place len) rs) ≡ false
        → (d && list_all (is_apart place more) rs) ≡ false
    by b false here rest fails = refl
    by true true here rest fails = rest fails
    by false true here rest fails = absurd (cc (here refl))

longer_free : (end len more : ℕ) → len ≤ more → (rs : List Range) (place : ℕ)
    → is_free end len rs place ≡ false → is_free end more rs place ≡ false
longer_free end len more le rs place fails =
    by (nat_le (place + len) end) (nat_le (place + more) end)
    (λ no. grind (arith, nat_tests, le, no)) (longer_all place len more le rs) fails
  where
    by : (b d : Bool) → (b ≡ false → d ≡ false)
        → (list_all (is_apart place len) rs ≡ false → list_all (is_apart place more) rs ≡ false)
        → (b && list_all (is_apart place len) rs) ≡ false
        → (d && list_all (is_apart place more) rs) ≡ false
    by b false here rest fails = refl
    by true true here rest fails = rest fails
    by false true here rest fails = absurd (cc (here refl))

module _ (x : Pool) where
  -- a greater size has no place where a smaller one has none
  longer_none : (size more : ℕ) → length_for x size ≤ length_for x more
      → place_for x size ≡ None → place_for x more ≡ None
  longer_none size more le =
      let end = x.base + units_of x * x.unit in
      none_found (is_free end (length_for x size) x.ranges)
      (is_free end (length_for x more) x.ranges)
      (longer_free end (length_for x size) (length_for x more) le x.ranges)
      (map (λ k. x.base + k * x.unit) (range_with_len 0 (units_of x)))

  some_length : (unit size : ℕ) → rounded unit size ≤ rounded unit (pool_length size)
  some_length zero size = omega arith
  some_length (suc n) size =
      rounded_more (suc n) (omega arith) size (pool_length size)
      (rounded_up VARIABLE_UNIT (omega arith) size)

  -- so where it is rounded up
  pub rounded_unplaced : (size : ℕ) → place_of x size ≡ None → place_of x (pool_length size) ≡ None
  rounded_unplaced size =
      by (size == 0) (pool_length size == 0)
      (λ none. grind (arith, nat_tests, none))
      (longer_none size (pool_length size) (some_length x.unit size))
    where
      by : (b d : Bool) → (b ≡ true → d ≡ true)
          → (place_for x size ≡ None → place_for x (pool_length size) ≡ None)
          → (if b then None else place_for x size) ≡ None
          → (if d then None else place_for x (pool_length size)) ≡ None
      by b true both rest none = refl
      by false false both rest none = rest none
      by true false both rest none = absurd (cc (both refl))

  -- it has the same place, and as many bytes
  module _ (unit : x.unit ≡ VARIABLE_UNIT) where
    pub rounded_length : (size : ℕ) → length_for x (pool_length size) ≡ length_for x size
    rounded_length size =
        let some : 0 < x.unit = omega (arith, unit) in
        ap (λ n. length_for x (div_ceil size n * n)) (sym unit)
        ∙ rounded_units x.unit some (div_ceil size x.unit)

    pub rounded_place : (size : ℕ) → place_of x (pool_length size) ≡ place_of x size
    rounded_place size =
        by (size == 0) (pool_length size == 0)
        (grind (arith, nat_tests, rounded_up VARIABLE_UNIT (omega arith) size))
      where
        by : (b d : Bool) → d ≡ b
            → (if d then None else place_for x (pool_length size))
            ≡ (if b then None else place_for x size)
        by true true same = refl
        by true false same = cc
        by false true same = cc
        by false false same =
            ap (λ len. first_free x.base x.unit (units_of x) len x.ranges) (rounded_length size)
