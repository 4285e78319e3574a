use Rattle.std.proofs.Common.{◌≡◌, ◌<◌, ◌∷◌, arith, rules, vec_len, vec_capacity}
use Rattle.iop_ready.specs.ReadyList.{CanEnter, entry_of}
use Rattle.iop_ready.proofs.Agreeing.{can_enter-own, length-lt_from_can_enter, sound_first, stands_first}
use Rattle.iop_ready.proofs.plain_ready.PlainReadyReady.add_first.Goals.{After-insert}
use Rattle.iop_ready.proofs.plain_ready.PlainReadyReady.add_first.Goals as goal

can_enter : (c : goal.After-insert)
    → CanEnter (entry_of c.args.slot c.args.priority) c.args.self.now
can_enter c =
    let own = c.args.self.now in
    can_enter-own c.args.slot c.args.priority own (search rules) (search rules) c.requires

has_room : (c : goal.After-insert)
    → vec_len c.self.inside.entries < vec_capacity c.self.inside.entries
has_room c =
    let few = length-lt_from_can_enter _ _ _ c.self.view_is c.requires.1.left (can_enter c) in
    omega (arith, few, c.self.invariant.1)

items_are : (c : goal.After-insert)
    → c.insert.new.self.items ≡ entry_of c.args.slot c.args.priority ∷ c.self.inside.entries.items
items_are c = let ok = c.insert.ensures.succeeds (has_room c) in search rules

pub invariant_of-self : goal.invariant_of-self
invariant_of-self c = (
  rw (items_are c, c.self.view_is) (sound_first _ _ c.requires.1.left (can_enter c)),
  omega (arith, c.insert.ensures.capacity, c.self.invariant.1),
)

pub returns : goal.returns
returns c xs h = rw (items_are c, c.self.view_is) (stands_first _ h (can_enter c))
