use Rattle.iop_asm.proofs.AddressLaws as law
use Rattle.iop_asm.proofs.laws.halves_make_addresses.Goals as goal

pub returns : goal.returns
returns c = law.halves_make_addresses
