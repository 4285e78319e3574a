use Rattle.std.proofs.Common.{◌≡◌, ◌-◌, ◌^◌, min, take}
use Rattle.iop_script.specs.Texts.{value_of}
use Rattle.iop_script.proofs.texts.value_of.Given as goal

abbrev pub invariant-loop-digit : goal.invariant-loop-digit
invariant-loop-digit l =
    l.value ≡ min (2 ^ 64 - 1) (value_of (take l.digit-index l.digits))
