use Rattle.iop_saved_script.proofs.Shortness.{fitting_short}
use Rattle.iop_saved_script.proofs.laws.fitting_is_short.Goals as goal

pub returns : goal.returns
returns c = fitting_short
