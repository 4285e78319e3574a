use Rattle.iop_script.proofs.Written.{written_are_read}
use Rattle.iop_script.proofs.laws.written_scripts_are_read.Goals as goal

pub returns : goal.returns
returns c = written_are_read
