use Rattle.std.proofs.Common.{◌≡◌, ◌+◌, ◌∙◌, ap, arith, sym}
use Rattle.iop_time.specs.Timers.{Timers, AreTimers}
use Rattle.iop_time.specs.Turns.{first_turn, first_with}
use Rattle.iop_time.specs.declared.delay.Delay.{Delay}
use Rattle.iop_time.proofs.Keeping.{with_delay-keeps}
use Rattle.iop_time.proofs.Firsts.{with_delay-first}
use Rattle.iop_time.proofs.clock.Clock.delay.Goals as goal

sound : (c : goal.After-self-2-1) → AreTimers (record {
  next = c.self.inside.next + 1;
  alarms = c.self.inside.alarms.items;
  delays = c.push_reserved.new.self.items;
})
sound c =
    let old : Timers = record {
      next = c.self.inside.next;
      alarms = c.self.inside.alarms.items;
      delays = c.self.inside.delays.items;
    } in
    rw (c.push_reserved.ensures.items, c.min.ensures)
    (with_delay-keeps old c.args.moment c.args.thread c.self.invariant.0
    (rw (← c.self.view_is) at c.requires.free) (rw (← c.self.view_is) at c.requires.room))

first_is : (c : goal.After-self-2-1)
    → c.first_with-self-inside.result
    ≡ first_turn c.self.inside.alarms.items c.push_reserved.new.self.items
first_is c =
    let alarms = c.self.inside.alarms.items in
    let delays = c.self.inside.delays.items in
    let delay : Delay = record {
      number = c.self.inside.next;
      moment = c.min.result;
      thread = c.args.thread;
    } in
    c.first_with-self-inside.ensures
    ∙ ap (λ o. first_with o c.turn.result) c.self.invariant.1
    ∙ ap (first_with (first_turn alarms delays)) c.turn.ensures
    ∙ sym (with_delay-first alarms delays delay)
    ∙ ap (first_turn alarms) (sym c.push_reserved.ensures.items)

pub invariant_of-self : goal.invariant_of-self
invariant_of-self c =
    (sound c, first_is c, omega arith, omega (arith, c.push_reserved.ensures.capacity))

pub returns-clause-sound : goal.returns-clause-sound
returns-clause-sound c = sound c
