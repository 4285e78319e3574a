use Rattle.std.proofs.Common.{◌≡◌, take}
use Rattle.iop_asm.specs.Operands.{fields_with}
use Rattle.iop_asm.specs.Values.{arguments}
use Rattle.iop_asm.proofs.encoding.fields_with.Given as goal

abbrev pub invariant-loop-argument : goal.invariant-loop-argument
invariant-loop-argument l = l.fields ≡ fields_with (arguments (take l.argument-index l.read))
