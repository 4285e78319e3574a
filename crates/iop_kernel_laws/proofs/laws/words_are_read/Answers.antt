use Rattle.iop_kernel_laws.proofs.Readings.Words.{words_are_read}
use Rattle.iop_kernel_laws.proofs.laws.words_are_read.Goals as goal

pub returns : goal.returns
returns c = words_are_read
