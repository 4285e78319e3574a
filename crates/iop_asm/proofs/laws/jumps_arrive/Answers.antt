use Rattle.iop_asm.proofs.AddressLaws as law
use Rattle.iop_asm.proofs.laws.jumps_arrive.Goals as goal

pub returns : goal.returns
returns c = law.jumps_arrive
