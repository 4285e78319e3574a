use Rattle.iop_sysclib.proofs.NumeralLaws.{octals_are_told}
use Rattle.iop_sysclib.proofs.laws.octals_are_told.Goals as goal

pub returns : goal.returns
returns c = octals_are_told
