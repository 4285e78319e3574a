use Rattle.std.proofs.Common.{◌≡◌, ◌∙◌, true, ap, arith, sym}
use Rattle.iop_time.specs.Timers.{Timers, AreTimers}
use Rattle.iop_time.specs.Turns.{first_turn, first_with}
use Rattle.iop_time.specs.Restoring.{delay_may_follow}
use Rattle.iop_time.proofs.Firsts.{with_delay-first}
use Rattle.iop_time.proofs.PuttingBack.{last_delay-keeps}
use Rattle.iop_time.proofs.clock.Clock.put_delay.Goals as goal

module _ (c : goal.After-self-2-1) where
  abbrev old : Timers
  old = record {
    next = c.self.inside.next;
    alarms = c.self.inside.alarms.items;
    delays = c.self.inside.delays.items;
  }

  may : delay_may_follow old.alarms old.delays c.args.delay ≡ true
  may =
      rw (c.deref.ensures.value, c.deref-2.ensures.value)
      at (sym c.delay_may_follow.ensures ∙ c.if-not-delay_may_follow.false)

  sound : AreTimers (record {
    next = c.max-self-inside.result;
    alarms = c.self.inside.alarms.items;
    delays = c.push_reserved.new.self.items;
  })
  sound =
      rw (c.push_reserved.ensures.items, c.max-self-inside.ensures)
      (last_delay-keeps old c.args.delay c.self.invariant.0 may)

  first_is : c.first_with-self-inside.result
      ≡ first_turn c.self.inside.alarms.items c.push_reserved.new.self.items
  first_is =
      c.first_with-self-inside.ensures
      ∙ ap (λ o. first_with o c.turn.result) c.self.invariant.1
      ∙ ap (first_with (first_turn old.alarms old.delays)) c.turn.ensures
      ∙ sym (with_delay-first old.alarms old.delays c.args.delay)
      ∙ ap (first_turn old.alarms) (sym c.push_reserved.ensures.items)

pub invariant_of-self : goal.invariant_of-self
invariant_of-self c =
    (sound c, first_is c, omega arith, omega (arith, c.push_reserved.ensures.capacity))

pub returns-clause-sound : goal.returns-clause-sound
returns-clause-sound c = sound c
