use Rattle.iop_saved_checks.proofs.Cores.{cores_sound}
use Rattle.iop_saved_checks.proofs.laws.agreeing_cores_are_sound.Goals as goal

pub returns : goal.returns
returns c = cores_sound
