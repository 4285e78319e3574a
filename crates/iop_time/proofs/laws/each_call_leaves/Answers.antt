use Rattle.iop_time.proofs.Leaving.{each_call_leaves}
use Rattle.iop_time.proofs.laws.each_call_leaves.Goals as goal

pub returns : goal.returns
returns c = each_call_leaves
