-- The whole law: kernels that agree are sound.
use Rattle.iop_saved_checks.specs.Laws.{AgreeingKernelsAreSound}
use Rattle.iop_saved_checks.proofs.Agreeing.{all_agree, placed, overdue, loaded, awake, places}
use Rattle.iop_saved_checks.proofs.Settled.{settled}

pub agreeing_are_sound : AgreeingKernelsAreSound
agreeing_are_sound memory k sound h =
    let all = all_agree memory k h in record {
      placed = placed memory k sound all;
      overdue = overdue memory k sound all;
      loaded = loaded memory k sound all;
      awake = awake memory k sound all;
      places = places memory k sound all;
      settled = λ cpu. settled memory k sound all cpu;
      made = all.made;
    }
