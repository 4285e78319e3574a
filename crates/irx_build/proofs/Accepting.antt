-- What holds of a unit that is not refused.
use Rattle.std.proofs.Common.{◌≡◌, ◌||◌, Bool, true, false, cond, Option, Some, None, refl, arith}
use Rattle.std.specs.Prelude.{is_some}
use Rattle.std.proofs.lemmas.Bool.{ltb-false}
use Rattle.iop_base.specs.Strings.{first_zero}
use Rattle.iop_asm.specs.Units.{ModuleUnit}
use Rattle.irx_build.specs.declared.build_fault.BuildFault.TheVariants.{Empty, Name, TooLong}
use Rattle.irx_build.specs.Building.{refusal, greater_size, IsAccepted}

-- no reason holds
all_false : {X : Type 0} (a b c d : Bool) (x y z : X)
    → cond a (Some x) (cond (b || c) (Some y) (cond d (Some z) None)) ≡ None
    → (a ≡ false) × (b ≡ false) × (c ≡ false) × (d ≡ false)
all_false false false false false x y z h = (refl, refl, refl, refl)
all_false true b c d x y z h = absurd (cc)
all_false false true c d x y z h = absurd (cc)
all_false false false true d x y z h = absurd (cc)
all_false false false false true x y z h = absurd (cc)

none : {X : Type 0} (o : Option X) → is_some o ≡ false → o ≡ None
none None h = refl
none (Some x) h = absurd (cc)

pub not_refused : (unit : ModuleUnit) → refusal unit ≡ None → IsAccepted unit
unfolding refusal
not_refused unit h =
    let facts = all_false _ _ _ _ Empty Name (TooLong (greater_size unit)) h in
    let text = ltb-false _ _ facts.0 in
    let name = ltb-false _ _ facts.2 in
    let sizes = ltb-false _ _ facts.3 in
    record {
      text = text;
      no_zero = none (first_zero unit.name) facts.1;
      name = name;
      image = omega (arith, sizes);
      entries = omega (arith, sizes);
    }
