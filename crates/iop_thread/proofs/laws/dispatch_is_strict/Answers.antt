use Rattle.iop_thread.proofs.Strict.{dispatch_is_strict}
use Rattle.iop_thread.proofs.laws.dispatch_is_strict.Goals as goal

pub returns : goal.returns
returns c = dispatch_is_strict
