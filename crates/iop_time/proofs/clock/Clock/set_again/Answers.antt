use Rattle.std.proofs.Common.{◌≡◌, ◌∙◌, length, map, ap}
use Rattle.std.specs.Vec.{with_items}
use Rattle.std.proofs.lemmas.List.{length-map, with_items_is}
use Rattle.iop_time.specs.Timers.{Timers, AreTimers, later}
use Rattle.iop_time.specs.Turns.{first_turn}
use Rattle.iop_time.proofs.Keeping.{sets_again-keeps}
use Rattle.iop_time.proofs.clock.Clock.set_again.Goals as goal

is_left : (c : goal.After-self-2-1)
    → (with_items c.self.inside.alarms c.put_off.new.alarms).items
    ≡ map (later c.args.number c.args.ticks) c.self.inside.alarms.items
is_left c =
    let put = later c.args.number c.args.ticks in
    let count = ap length c.put_off.ensures ∙ length-map c.deref_mut.result.now put in
    with_items_is c.self.inside.alarms c.put_off.new.alarms (count ∙ c.deref_mut.ensures.len)
    ∙ c.put_off.ensures
    ∙ ap (map put) c.deref_mut.ensures.value

sound : (c : goal.After-self-2-1) → AreTimers (record {
  next = c.self.inside.next;
  alarms = (with_items c.self.inside.alarms c.put_off.new.alarms).items;
  delays = c.self.inside.delays.items;
})
sound c =
    let old : Timers = record {
      next = c.self.inside.next;
      alarms = c.self.inside.alarms.items;
      delays = c.self.inside.delays.items;
    } in
    rw (is_left c) (sets_again-keeps old c.args.number c.args.ticks c.self.invariant.0)

first_is : (c : goal.After-self-2-1)
    → c.first_turn-self-inside.result
    ≡ first_turn (with_items c.self.inside.alarms c.put_off.new.alarms).items
    c.self.inside.delays.items
first_is c =
    rw (c.deref.ensures.value, c.deref-2.ensures.value) at c.first_turn-self-inside.ensures

pub invariant_of-self : goal.invariant_of-self
invariant_of-self c = (sound c, first_is c, c.self.invariant.2, c.self.invariant.3)

pub returns-clause-sound : goal.returns-clause-sound
returns-clause-sound c = sound c
