use Rattle.std.proofs.Common.{◌≡◌, take}
use Rattle.iop_printf.specs.Conversions.{value_of}
use Rattle.iop_printf.proofs.reading.value_of.Given as goal

abbrev pub invariant-loop-digit : goal.invariant-loop-digit
invariant-loop-digit l = l.value ≡ value_of (take l.digit-index l.digits)
