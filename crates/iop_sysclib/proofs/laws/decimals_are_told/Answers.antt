use Rattle.iop_sysclib.proofs.NumeralLaws.{decimals_are_told}
use Rattle.iop_sysclib.proofs.laws.decimals_are_told.Goals as goal

pub returns : goal.returns
returns c = decimals_are_told
