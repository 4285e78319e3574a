use Rattle.iop_ready.proofs.Agreeing.{agree}
use Rattle.iop_ready.proofs.laws.ready_lists_agree.Goals as goal

pub returns : goal.returns
returns c = agree
