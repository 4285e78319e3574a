use Rattle.std.proofs.Common.{◌<◌, ◌^◌, false, rules, arith}
use mir.Syntax.{w128}
use Rattle.iop_base.proofs.Bits.{removed}
use Rattle.iop_ready.proofs.PrioritySets.{still_are}
use Rattle.iop_ready.proofs.priority_set.PrioritySet.remove.Goals as goal

pub invariant_of-self : goal.invariant_of-self
invariant_of-self c =
    let is = c.number.ensures.inside in
    let fits : c.self.inside.bits < 2 ^ 128 = search rules in
    still_are c.self.inside.bits _ c.number.result false is c.self.invariant
    (removed w128 c.self.inside.bits fits c.number.result (omega (arith, is.1)))

pub returns : goal.returns
returns c =
    let is = c.number.ensures.inside in
    let fits : c.self.inside.bits < 2 ^ 128 = search rules in
    rw (← c.self.view_is, ← c.number.ensures.same)
    (removed w128 c.self.inside.bits fits c.number.result (omega (arith, is.1)))
