use Rattle.std.proofs.Common.{◌≡◌, take}
use Rattle.std.specs.Option.{option_map}
use Rattle.iop_asm.specs.CellFields.{reference}
use Rattle.iop_asm.specs.Operands.{reference_in}
use Rattle.iop_asm.specs.Values.{arguments}
use Rattle.iop_asm.proofs.encoding.reference_in.Given as goal

abbrev pub invariant-loop-argument : goal.invariant-loop-argument
invariant-loop-argument l =
    option_map reference l.found ≡ reference_in l.line (arguments (take l.argument-index l.read))
