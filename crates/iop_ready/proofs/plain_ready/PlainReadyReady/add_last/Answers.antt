use Rattle.std.proofs.Common.{arith, rules}
use Rattle.iop_ready.proofs.Agreeing.{can_enter-own, length-lt_from_can_enter, sound_last, stands_last}
use Rattle.iop_ready.proofs.plain_ready.PlainReadyReady.add_last.Goals as goal

pub push_reserved-requires : goal.push_reserved-requires
push_reserved-requires c =
    let own = c.args.self.now in
    let can =
    can_enter-own c.args.slot c.args.priority own (search rules) (search rules) c.requires in
    let few = length-lt_from_can_enter _ _ _ c.self.view_is c.requires.1.left can in
    omega (arith, few, c.self.invariant.1)

pub invariant_of-self : goal.invariant_of-self
invariant_of-self c =
    let own = c.args.self.now in
    let can =
    can_enter-own c.args.slot c.args.priority own (search rules) (search rules) c.requires in (
      rw (c.push_reserved.ensures.items, c.self.view_is) (sound_last _ _ c.requires.1.left can),
      omega (arith, c.push_reserved.ensures.capacity, c.self.invariant.1),
    )

pub returns : goal.returns
returns c xs h =
    let own = c.args.self.now in
    let can =
    can_enter-own c.args.slot c.args.priority own (search rules) (search rules) c.requires in
    rw (c.push_reserved.ensures.items, c.self.view_is) (stands_last _ h can)
