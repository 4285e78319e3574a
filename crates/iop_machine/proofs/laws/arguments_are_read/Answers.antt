use Rattle.iop_machine.proofs.ArgumentReading.{arguments_are_read}
use Rattle.iop_machine.proofs.laws.arguments_are_read.Goals as goal

pub returns : goal.returns
returns c = arguments_are_read
