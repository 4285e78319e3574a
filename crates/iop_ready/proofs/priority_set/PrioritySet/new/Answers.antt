use Rattle.iop_base.proofs.Bits.{has-none}
use Rattle.iop_ready.proofs.PrioritySets.{none_are}
use Rattle.iop_ready.proofs.priority_set.PrioritySet.new.Goals as goal

pub invariant_of-result : goal.invariant_of-result
invariant_of-result c = none_are

pub returns : goal.returns
returns c = has-none
