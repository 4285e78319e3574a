use Rattle.iop_queues.proofs.Choosing.{queues_chosen}
use Rattle.iop_queues.proofs.laws.queues_are_chosen.Goals as goal

pub returns : goal.returns
returns g c = queues_chosen
