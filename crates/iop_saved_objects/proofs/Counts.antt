-- How much is out of a pool.
use Rattle.std.proofs.Common.{◌≡◌, ℕ, ◌≤◌, Some, option_map, List, length, ap, sym, arith}
use Rattle.std.proofs.lemmas.List.{length-map}
use Rattle.iop_objects.specs.Objects.{state_of}
use Rattle.iop_snapshot.proofs.Combining.{map_some}
use Rattle.iop_pools.specs.FixedRestoring.{blocks_in}
use Rattle.iop_pools.specs.Pools.{Pool, Pools}
use Rattle.iop_pools.specs.Standing.{IsPool, ArePools}
use Rattle.iop_pools.specs.declared.range.Range.{Range}
use Rattle.iop_pools.proofs.Capacity.{units_count}
use Rattle.iop_pools.proofs.Tables.{state_holds}

module _ {W : Type 0} (most : ℕ) (s : Pools W) (id : ℕ) (pools : ArePools most s) where
  few_of : (x : Pool) → state_of s id ≡ Some x → length x.ranges ≤ most
  few_of x known =
      let sound = state_holds (IsPool most) id s.live x known pools in
      omega (arith, units_count most x sound, sound.few)

  pub few_ranges : (ranges : List Range)
      → Some ranges ≡ option_map (λ (x : Pool). x.ranges) (state_of s id)
      → length ranges ≤ most
  few_ranges ranges e =
      let one = map_some (state_of s id) (λ (x : Pool). x.ranges) ranges (sym e) in
      omega (arith, few_of one.0 one.1, ap length one.2)

  pub few_blocks : (blocks : List ℕ)
      → Some blocks ≡ option_map (λ (x : Pool). blocks_in x.ranges) (state_of s id)
      → length blocks ≤ most
  few_blocks blocks e =
      let one = map_some (state_of s id) (λ (x : Pool). blocks_in x.ranges) blocks (sym e) in
      omega (
        arith,
        few_of one.0 one.1,
        ap length one.2,
        length-map one.0.ranges (λ (r : Range). r.start),
      )
