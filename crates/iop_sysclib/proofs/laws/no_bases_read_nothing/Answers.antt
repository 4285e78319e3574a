use Rattle.iop_sysclib.proofs.NothingLaws.{no_bases_read_nothing}
use Rattle.iop_sysclib.proofs.laws.no_bases_read_nothing.Goals as goal

pub returns : goal.returns
returns c = no_bases_read_nothing
