use Rattle.iop_sysclib.proofs.HeldNumbers.{magnitudes_are_held}
use Rattle.iop_sysclib.proofs.laws.magnitudes_are_held.Goals as goal

pub returns : goal.returns
returns c = magnitudes_are_held
