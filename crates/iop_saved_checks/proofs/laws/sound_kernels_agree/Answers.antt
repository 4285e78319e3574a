use Rattle.iop_saved_checks.proofs.Passing.{sound_agree}
use Rattle.iop_saved_checks.proofs.laws.sound_kernels_agree.Goals as goal

pub returns : goal.returns
returns c = sound_agree
