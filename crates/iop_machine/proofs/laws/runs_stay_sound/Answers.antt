use Rattle.iop_machine.proofs.Landing.{runs_stay_sound}
use Rattle.iop_machine.proofs.laws.runs_stay_sound.Goals as goal

pub returns : goal.returns
returns c = runs_stay_sound
