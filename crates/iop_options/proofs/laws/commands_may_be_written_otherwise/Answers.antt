use Rattle.iop_options.proofs.WritingLemmas.{may_be_written_otherwise}
use Rattle.iop_options.proofs.laws.commands_may_be_written_otherwise.Goals as goal

pub returns : goal.returns
returns c = may_be_written_otherwise
