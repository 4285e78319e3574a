use Rattle.iop_sysclib.proofs.NumeralLaws.{numerals_are_read}
use Rattle.iop_sysclib.proofs.laws.numerals_are_read.Goals as goal

pub returns : goal.returns
returns c = numerals_are_read
