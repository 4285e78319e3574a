use Rattle.std.proofs.Common.{◌≡◌, ◌∙◌, true, ap, arith, sym}
use Rattle.iop_time.specs.Timers.{Timers, AreTimers}
use Rattle.iop_time.specs.Turns.{first_turn, first_with}
use Rattle.iop_time.specs.Restoring.{alarm_may_follow}
use Rattle.iop_time.proofs.Firsts.{with_alarm-first}
use Rattle.iop_time.proofs.PuttingBack.{last_alarm-keeps}
use Rattle.iop_time.proofs.clock.Clock.put_alarm.Goals as goal

module _ (c : goal.After-self-2-1) where
  abbrev old : Timers
  old = record {
    next = c.self.inside.next;
    alarms = c.self.inside.alarms.items;
    delays = c.self.inside.delays.items;
  }

  may : alarm_may_follow old.alarms old.delays c.args.alarm ≡ true
  may =
      rw (c.deref.ensures.value, c.deref-2.ensures.value)
      at (sym c.alarm_may_follow.ensures ∙ c.if-not-alarm_may_follow.false)

  sound : AreTimers (record {
    next = c.max-self-inside.result;
    alarms = c.push_reserved.new.self.items;
    delays = c.self.inside.delays.items;
  })
  sound =
      rw (c.push_reserved.ensures.items, c.max-self-inside.ensures)
      (last_alarm-keeps old c.args.alarm c.self.invariant.0 may)

  first_is : c.first_with-self-inside.result
      ≡ first_turn c.push_reserved.new.self.items c.self.inside.delays.items
  first_is =
      c.first_with-self-inside.ensures
      ∙ ap (λ o. first_with o c.turn.result) c.self.invariant.1
      ∙ ap (first_with (first_turn old.alarms old.delays)) c.turn.ensures
      ∙ sym (with_alarm-first old.alarms c.args.alarm old.delays)
      ∙ ap (λ l. first_turn l old.delays) (sym c.push_reserved.ensures.items)

pub invariant_of-self : goal.invariant_of-self
invariant_of-self c =
    (sound c, first_is c, omega (arith, c.push_reserved.ensures.capacity), omega arith)

pub returns-clause-sound : goal.returns-clause-sound
returns-clause-sound c = sound c
