-- What the layout of a pool tells.
use Rattle.std.proofs.Common.{◌≡◌, ℕ, ◌/◌, ◌<◌, ◌≤◌, ◌∙◌, Option, Some, None, option_map, unwrap_or, length, refl, ap, subst, arith, mul-div_cancel}
use Rattle.iop_objects.specs.Objects.{state_of}
use Rattle.iop_pools.specs.FixedPools.{FixedPools}
use Rattle.iop_pools.specs.FixedRestoring.{block_size}
use Rattle.iop_pools.specs.Pools.{Pool}
use Rattle.iop_pools.specs.Standing.{layout_of, IsPool}
use Rattle.iop_pools.specs.declared.layout.Layout.{Layout}
use Rattle.iop_pools.proofs.Capacity.{units_count}

module _ (most : ℕ) where
  abbrev AreSound : Option Pool → Type 0
  AreSound o = (x : Pool) → o ≡ Some x → IsPool most x

  pub layout_unit : (o : Option Pool) (l : Layout) → Some l ≡ option_map layout_of o
      → AreSound o → 0 < l.unit
  layout_unit None l is sound = cc
  layout_unit (Some x) l is sound =
      let same : layout_of x ≡ l = cc in
      subst (λ (l : Layout). 0 < l.unit) same (sound x refl).unit

  pub layout_count : (o : Option Pool) (l : Layout) (n : ℕ) → Some l ≡ option_map layout_of o
      → Some n ≡ option_map (λ x. length x.ranges) o → AreSound o
      → (n ≤ l.size / l.unit) × (n ≤ most)
  layout_count None l n is count sound = cc
  layout_count (Some x) l n is count sound =
      let same : layout_of x ≡ l = cc in
      let n_is : length x.ranges ≡ n = cc in
      let pool = sound x refl in
      let units : x.size / x.unit ≡ pool.units =
      ap (λ n. n / x.unit) pool.size ∙ mul-div_cancel pool.units pool.unit in
      let few = units_count most x pool in
      subst (λ (l : Layout). (n ≤ l.size / l.unit) × (n ≤ most)) same
      (omega (arith, few, units, n_is), omega (arith, few, pool.few, n_is))

-- how many bytes a block has
pub block_size-is : (s : FixedPools) (id : ℕ) (l : Layout)
    → Some l ≡ option_map layout_of (state_of s id) → block_size s id ≡ l.unit
block_size-is s id l known = by (state_of s id) known
  where
    by : (o : Option Pool) → Some l ≡ option_map layout_of o
        → unwrap_or (option_map (λ x. x.unit) o) 0 ≡ l.unit
    by None e = cc
    by (Some x) e = let same : layout_of x ≡ l = cc in ap (λ (m : Layout). m.unit) same
