use Rattle.iop_sysclib.proofs.NothingLaws.{no_digits_read_nothing}
use Rattle.iop_sysclib.proofs.laws.no_digits_read_nothing.Goals as goal

pub returns : goal.returns
returns c = no_digits_read_nothing
