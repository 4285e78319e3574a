use Rattle.iop_asm.proofs.AddressLaws as law
use Rattle.iop_asm.proofs.laws.branches_arrive.Goals as goal

pub returns : goal.returns
returns c = law.branches_arrive
