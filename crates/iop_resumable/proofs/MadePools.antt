-- Pools are sound when they are made, and so is a size for which a thread waits.
use Rattle.std.proofs.Common.{◌≡◌, ℕ, ◌+◌, ◌*◌, ◌%◌, ◌^◌, ◌<◌, ◌≤◌, ◌||◌, not, nat_lt, Bool, true, false, if◌then◌else◌, Ok, Err, [], refl, subst, arith}
use Rattle.std.specs.Int.{div_ceil}
use Rattle.std.proofs.Math.Nat.{mul-mod_left}
use Rattle.std.proofs.lemmas.Bool.{and_from, eq-eqb, le-leb, lt-ltb}
use Rattle.std.proofs.lemmas.Bool.Decides.{nat_tests}
use Rattle.std.proofs.lemmas.List.Elements.{All-nil}
use Rattle.iop_base.specs.declared.code.TheConstants.Code.{ILLEGAL_ATTRIBUTE, ILLEGAL_SIZE}
use Rattle.iop_pools.specs.FixedPools as fixed
use Rattle.iop_pools.specs.FixedPools.{block_for}
use Rattle.iop_pools.specs.Pools.{Pool, is_attribute}
use Rattle.iop_pools.specs.Restoring.{may_be_base}
use Rattle.iop_pools.specs.Standing.{IsPool}
use Rattle.iop_pools.specs.VariablePools as variable
use Rattle.iop_pools.specs.VariablePools.{pool_length}
use Rattle.iop_pools.specs.VariableRestoring.{may_be_wanted}
use Rattle.iop_pools.specs.declared.range.Range.{Range}
use Rattle.iop_pools.specs.declared.variable_pool.TheConstants.{VARIABLE_UNIT, LEAST_BYTES, MOST_BYTES, MOST_RANGES}
use Rattle.iop_pools.proofs.FixedRegular.{made_so}
use Rattle.iop_pools.proofs.Rounding.{rounded_up, rounded_least}
use Rattle.iop_pools.proofs.Sizes.{variable_units}
use Rattle.iop_pools.proofs.Taking.{ceil_some}
use Rattle.iop_thread.specs.declared.kind.Kind.TheVariants.{VariablePool, FixedPool}
use Rattle.iop_resumable.proofs.Sound.{Sound}

-- a variable pool is made of a size that one can have
variable_can : (attr size length : ℕ) → variable.bytes attr size ≡ Ok length
    → (is_attribute attr ≡ true) × ((LEAST_BYTES ≤ size) × (size ≤ MOST_BYTES))
variable_can attr size length =
    by (is_attribute attr) (nat_lt size LEAST_BYTES || nat_lt MOST_BYTES size) refl refl
  where
    by : (a b : Bool) → is_attribute attr ≡ a
        → (nat_lt size LEAST_BYTES || nat_lt MOST_BYTES size) ≡ b
        → (if not a then Err ILLEGAL_ATTRIBUTE
        else if b then Err ILLEGAL_SIZE else Ok (pool_length size)) ≡ Ok length
        → (is_attribute attr ≡ true) × ((LEAST_BYTES ≤ size) × (size ≤ MOST_BYTES))
    by false b is bad e = cc
    by true true is bad e = cc
    by true false is bad e = (is, (grind (arith, nat_tests, bad), grind (arith, nat_tests, bad)))

whole_units : (size : ℕ) → pool_length size % VARIABLE_UNIT ≡ 0
whole_units size = mul-mod_left (div_ceil size VARIABLE_UNIT) VARIABLE_UNIT

pub variable_made : (attr option size length base : ℕ) → variable.bytes attr size ≡ Ok length
    → may_be_base base ≡ true → base + length < 2 ^ 32
    → Sound VariablePool (record {
      attr = attr;
      option = option;
      base = base;
      size = pool_length size;
      unit = VARIABLE_UNIT;
      ranges = [];
    }) []
variable_made attr option size length base sized starts ends =
    let can = variable_can attr size length sized in
    let units = variable_units attr size length sized in
    let up = rounded_up VARIABLE_UNIT (omega arith) size in
    let most = rounded_least VARIABLE_UNIT (omega arith) size MOST_RANGES
    (omega (arith, can.1.1)) in
    let end : base + pool_length size < 2 ^ 32 = omega (arith, units.same, ends) in
    let made : Pool = record {
      attr = attr;
      option = option;
      base = base;
      size = pool_length size;
      unit = VARIABLE_UNIT;
      ranges = [];
    } in
    record {
      sound = record {
        unit = units.some;
        units = units.units;
        size = units.size;
        few = units.few;
        inside = end;
        order = omega arith;
        placed = tt;
      };
      unit = refl;
      layout = and_from _ _ (and_from _ _ (and_from _ _ (and_from _ _ (and_from _ _ can.0 starts)
          (le-leb LEAST_BYTES (pool_length size) (omega (arith, up, can.1.0))))
          (le-leb (pool_length size) MOST_BYTES (omega (arith, most))))
          (eq-eqb _ _ (whole_units size)))
          (lt-ltb (base + pool_length size) (2 ^ 32) end);
      waiters = All-nil (λ w. may_be_wanted w.item.wants made ≡ true);
    }

-- a size for which a thread may wait
pub may_want : (x : Pool) (size : ℕ) → IsPool MOST_RANGES x → x.unit ≡ VARIABLE_UNIT → 0 < size
    → size ≤ x.size → may_be_wanted (pool_length size) x ≡ true
may_want x size sound unit some within =
    let many : 1 ≤ div_ceil size VARIABLE_UNIT = ceil_some size VARIABLE_UNIT some in
    let whole : x.size ≡ sound.units * VARIABLE_UNIT =
    subst (λ n. x.size ≡ sound.units * n) unit sound.size in
    let most = rounded_least VARIABLE_UNIT (omega arith) size sound.units
    (omega (arith, within, whole)) in
    and_from _ _ (and_from _ _ (le-leb VARIABLE_UNIT (pool_length size) (omega (arith, many)))
    (eq-eqb _ _ (whole_units size)))
    (le-leb (pool_length size) x.size (omega (arith, most, whole)))

pub fixed_made : (attr option size count length base : ℕ)
    → fixed.bytes attr size count ≡ Ok length → may_be_base base ≡ true → base + length < 2 ^ 32
    → Sound FixedPool (record {
      attr = attr;
      option = option;
      base = base;
      size = block_for size * count;
      unit = block_for size;
      ranges = [];
    }) []
fixed_made attr option size count length base sized starts ends =
    let made = made_so attr option size count length base sized starts ends in
    record {
      sound = made.sound;
      layout = made.layout;
      blocks = All-nil (λ (r : Range). r.size ≡ block_for size);
    }
