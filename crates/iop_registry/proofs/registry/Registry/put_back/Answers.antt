use Rattle.std.proofs.Common.{sym, subst, arith}
use Rattle.iop_registry.specs.Entries.{IsRegistry}
use Rattle.iop_registry.proofs.PuttingBack.{follows, asked, one_behind}
use Rattle.iop_registry.proofs.registry.Registry.put_back.Goals as goal

-- there is room for one more
pub push_reserved-requires : goal.push_reserved-requires
push_reserved-requires c =
    let may = asked c.args.entry c.self.view_is c.may_follow-may.ensures c.if-may.true in
    let follows = follows c.self.inside.entries.items c.args.entry may in
    omega (arith, follows.room, c.self.invariant.1, c.self.inside.entries.ok)

sound : (c : goal.After-push_reserved) → IsRegistry c.push_reserved.new.self.items
sound c =
    let may = asked c.args.entry c.self.view_is c.may_follow-may.ensures c.if-may.true in
    subst IsRegistry (sym c.push_reserved.ensures.items)
    (one_behind c.self.inside.entries.items c.args.entry c.self.invariant.0 may)

pub invariant_of-self : goal.invariant_of-self
invariant_of-self c = (sound c, omega (arith, c.self.invariant.1, c.push_reserved.ensures.capacity))

pub returns-then-may-clause-sound : goal.returns-then-may-clause-sound
returns-then-may-clause-sound c = sound c
