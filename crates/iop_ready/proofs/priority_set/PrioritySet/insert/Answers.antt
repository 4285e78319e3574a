use Rattle.std.proofs.Common.{true, arith}
use mir.Syntax.{w128}
use Rattle.iop_base.proofs.Bits.{inserted}
use Rattle.iop_ready.proofs.PrioritySets.{still_are}
use Rattle.iop_ready.proofs.priority_set.PrioritySet.insert.Goals as goal

pub invariant_of-self : goal.invariant_of-self
invariant_of-self c =
    let is = c.number.ensures.inside in
    still_are c.self.inside.bits _ c.number.result true is c.self.invariant
    (inserted w128 c.self.inside.bits c.number.result (omega (arith, is.1)))

pub returns : goal.returns
returns c =
    let is = c.number.ensures.inside in
    rw (← c.self.view_is, ← c.number.ensures.same)
    (inserted w128 c.self.inside.bits c.number.result (omega (arith, is.1)))
