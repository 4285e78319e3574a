use Rattle.iop_saved_checks.proofs.Sound.{agreeing_are_sound}
use Rattle.iop_saved_checks.proofs.laws.agreeing_kernels_are_sound.Goals as goal

pub returns : goal.returns
returns c = agreeing_are_sound
