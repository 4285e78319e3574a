use Rattle.iop_asm.proofs.InstructionLaws.{instructions_made}
use Rattle.iop_asm.proofs.laws.instructions_are_made.Goals as goal

pub returns : goal.returns
returns c = instructions_made
