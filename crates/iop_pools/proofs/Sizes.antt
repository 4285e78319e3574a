-- How many units a pool has that can be made.
use Rattle.std.proofs.Common.{◌≡◌, ℕ, ◌+◌, ◌*◌, ◌/◌, ◌%◌, ◌^◌, ◌<◌, ◌≤◌, ◌==◌, nat_lt, nat_le, Bool, true, false, not, ◌||◌, if◌then◌else◌, Ok, Err, Some, None, [], subst, refl, arith, mul-pos, mul_comm, div-add-mod'}
use Rattle.std.specs.Int.{div_ceil}
use Rattle.std.proofs.lemmas.Bool.{and_parts, leb-true, ltb-true, eqb-true}
use Rattle.std.proofs.lemmas.Bool.Decides.{nat_tests}
use Rattle.iop_base.specs.declared.code.TheConstants.Code.{ILLEGAL_ATTRIBUTE, ILLEGAL_SIZE}
use Rattle.iop_pools.specs.FixedPools as fixed
use Rattle.iop_pools.specs.FixedPools.{block_for}
use Rattle.iop_pools.specs.FixedRestoring as restoring_fixed
use Rattle.iop_pools.specs.Pools.{is_attribute}
use Rattle.iop_pools.specs.Standing.{pool_with, IsPool}
use Rattle.iop_pools.specs.VariablePools as variable
use Rattle.iop_pools.specs.VariablePools.{pool_length}
use Rattle.iop_pools.specs.VariableRestoring as restoring_variable
use Rattle.iop_pools.specs.declared.fixed_layout.FixedLayout.{FixedLayout}
use Rattle.iop_pools.specs.declared.layout.Layout.{Layout}
use Rattle.iop_pools.specs.declared.variable_layout.VariableLayout.{VariableLayout}
use Rattle.iop_pools.specs.declared.fixed_pool.TheConstants.{FIXED_UNIT, MOST_BLOCK_BYTES, MOST_BLOCKS}
use Rattle.iop_pools.specs.declared.variable_pool.TheConstants.{VARIABLE_UNIT, LEAST_BYTES, MOST_BYTES, MOST_RANGES}
use Rattle.iop_pools.proofs.Taking.{ceil_some}

-- it has so many bytes, which are so many units
pub record IsSized (unit most length bytes : ℕ) : Type 0 where
  pub same : length ≡ bytes
  pub some : 0 < unit
  pub units : ℕ
  pub size : length ≡ units * unit
  pub few : units ≤ most

few_units : (size : ℕ) → size ≤ MOST_BYTES → div_ceil size VARIABLE_UNIT ≤ MOST_RANGES
few_units size most = omega (arith, most, div-add-mod' size VARIABLE_UNIT)

pub variable_units : (attr size bytes : ℕ) → variable.bytes attr size ≡ Ok bytes
    → IsSized VARIABLE_UNIT MOST_RANGES (pool_length size) bytes
variable_units attr size bytes =
    by (not (is_attribute attr)) (nat_lt size LEAST_BYTES || nat_lt MOST_BYTES size) refl
  where
    by : (illegal bad : Bool) → (nat_lt size LEAST_BYTES || nat_lt MOST_BYTES size) ≡ bad
        → (if illegal then Err ILLEGAL_ATTRIBUTE
        else if bad then Err ILLEGAL_SIZE else Ok (pool_length size)) ≡ Ok bytes
        → IsSized VARIABLE_UNIT MOST_RANGES (pool_length size) bytes
    by true bad is e = cc
    by false true is e = cc
    by false false is e = record {
      same = cc;
      some = omega arith;
      units = div_ceil size VARIABLE_UNIT;
      size = refl;
      few = few_units size (grind (arith, nat_tests, is));
    }

pub fixed_units : (attr size count bytes : ℕ) → fixed.bytes attr size count ≡ Ok bytes
    → IsSized (block_for size) MOST_BLOCKS (block_for size * count) bytes
fixed_units attr size count bytes =
    by (not (is_attribute attr)) (outside size count) refl
  where
    outside : (size count : ℕ) → Bool
    outside size count =
        size == 0 || nat_lt MOST_BLOCK_BYTES size || (count == 0 || nat_lt MOST_BLOCKS count)

    by : (illegal bad : Bool) → outside size count ≡ bad
        → (if illegal then Err ILLEGAL_ATTRIBUTE
        else if bad then Err ILLEGAL_SIZE else Ok (block_for size * count)) ≡ Ok bytes
        → IsSized (block_for size) MOST_BLOCKS (block_for size * count) bytes
    by true bad is e = cc
    by false true is e = cc
    by false false is e = record {
      same = cc;
      some = mul-pos (ceil_some size FIXED_UNIT (grind (arith, nat_tests, is))) (omega arith);
      units = count;
      size = mul_comm (block_for size) count;
      few = grind (arith, nat_tests, is);
    }

-- a pool that may stand is one, of which nothing is out
pub variable_stands : (x : VariableLayout) (units : Layout)
    → Some units ≡ (if restoring_variable.may_stand x
    then Some (restoring_variable.layout_for x) else None)
    → IsPool MOST_RANGES (pool_with units [])
variable_stands x units = by (restoring_variable.may_stand x) refl
  where
    by : (b : Bool) → restoring_variable.may_stand x ≡ b
        → Some units ≡ (if b then Some (restoring_variable.layout_for x) else None)
        → IsPool MOST_RANGES (pool_with units [])
    by false may is = cc
    by true may is =
        let same : restoring_variable.layout_for x ≡ units = cc in
        let inside = and_parts _ (nat_lt (x.base + x.size) (2 ^ 32)) may in
        let whole = and_parts _ (x.size % VARIABLE_UNIT == 0) inside.0 in
        let most = and_parts _ (nat_le x.size MOST_BYTES) whole.0 in
        let size_most = leb-true _ _ most.1 in
        let size_whole = eqb-true _ _ whole.1 in
        let parts = div-add-mod' x.size VARIABLE_UNIT in
        let end = ltb-true _ _ inside.1 in
        subst (λ (l : Layout). IsPool MOST_RANGES (pool_with l [])) same (record {
          unit = omega arith;
          units = x.size / VARIABLE_UNIT;
          size = omega (arith, size_whole, parts);
          few = omega (arith, size_most);
          inside = end;
          order = omega arith;
          placed = tt;
        })

pub fixed_stands : (x : FixedLayout) (units : Layout)
    → Some units ≡ (if restoring_fixed.may_stand x
    then Some (restoring_fixed.layout_for x) else None)
    → IsPool MOST_BLOCKS (pool_with units [])
fixed_stands x units = by (restoring_fixed.may_stand x) refl
  where
    by : (b : Bool) → restoring_fixed.may_stand x ≡ b
        → Some units ≡ (if b then Some (restoring_fixed.layout_for x) else None)
        → IsPool MOST_BLOCKS (pool_with units [])
    by false may is = cc
    by true may is =
        let same : restoring_fixed.layout_for x ≡ units = cc in
        let inside = and_parts _ (nat_lt (x.base + x.size * x.count) (2 ^ 32)) may in
        let most = and_parts _ (nat_le x.count MOST_BLOCKS) inside.0 in
        let count = and_parts _ (nat_lt 0 x.count) most.0 in
        let whole = and_parts _ (x.size % FIXED_UNIT == 0) count.0 in
        let size_most = and_parts _ (nat_le x.size MOST_BLOCK_BYTES) whole.0 in
        let some = and_parts _ (nat_lt 0 x.size) size_most.0 in
        subst (λ (l : Layout). IsPool MOST_BLOCKS (pool_with l [])) same (record {
          unit = ltb-true _ _ some.1;
          units = x.count;
          size = mul_comm x.size x.count;
          few = leb-true _ _ most.1;
          inside = ltb-true _ _ inside.1;
          order = omega arith;
          placed = tt;
        })
