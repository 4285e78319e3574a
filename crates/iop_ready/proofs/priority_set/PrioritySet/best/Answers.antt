use Rattle.std.proofs.Common.{◌<◌, ◌^◌, rules, arith}
use mir.Syntax.{w128}
use Rattle.iop_base.proofs.Bits.{has-none, least_is}
use Rattle.iop_ready.proofs.priority_set.PrioritySet.best.Goals as goal

pub returns-then-self-eq0 : goal.returns-then-self-eq0
returns-then-self-eq0 c n = rw (← c.self.view_is, c.if-self-eq0.true) (has-none n)

pub new-requires : goal.new-requires
new-requires c =
    let some : 0 < c.self.inside.bits = omega (arith, c.if-self-eq0.false) in
    let fits : c.self.inside.bits < 2 ^ 128 = search rules in
    c.self.invariant _ (least_is w128 c.self.inside.bits fits some).in_set

pub returns : goal.returns
returns c =
    let some : 0 < c.self.inside.bits = omega (arith, c.if-self-eq0.false) in
    let fits : c.self.inside.bits < 2 ^ 128 = search rules in
    rw (c.new.ensures, ← c.self.view_is) (least_is w128 c.self.inside.bits fits some)
