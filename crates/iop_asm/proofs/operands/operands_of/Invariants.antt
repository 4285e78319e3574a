use Rattle.std.proofs.Common.{◌≡◌}
use Rattle.iop_asm.specs.Operands.{operands_of}
use Rattle.iop_asm.specs.Values.{arguments}
use Rattle.iop_asm.proofs.ReadLemmas.{read_on}
use Rattle.iop_asm.proofs.OperandLemmas.{texts, operands_from}
use Rattle.iop_asm.proofs.operands.operands_of.Given as goal

abbrev pub invariant-loop-index : goal.invariant-loop-index
invariant-loop-index l =
    read_on (arguments l.read.items) (operands_from l.left l.words l.index)
    ≡ operands_of l.operands (texts l.words)
