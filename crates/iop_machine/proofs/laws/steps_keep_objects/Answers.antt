use Rattle.iop_machine.proofs.ObjectsLeft.{steps_keep_objects}
use Rattle.iop_machine.proofs.laws.steps_keep_objects.Goals as goal

pub returns : goal.returns
returns c = steps_keep_objects
