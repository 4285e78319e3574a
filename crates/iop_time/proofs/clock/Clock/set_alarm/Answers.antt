use Rattle.std.proofs.Common.{◌≡◌, ◌+◌, ◌∙◌, ap, arith, sym}
use Rattle.iop_time.specs.Timers.{Timers, AreTimers}
use Rattle.iop_time.specs.Turns.{first_turn, first_with}
use Rattle.iop_time.specs.declared.alarm.Alarm.{Alarm}
use Rattle.iop_time.proofs.Keeping.{with_alarm-keeps}
use Rattle.iop_time.proofs.Firsts.{with_alarm-first}
use Rattle.iop_time.proofs.clock.Clock.set_alarm.Goals as goal

sound : (c : goal.After-self-2-1) → AreTimers (record {
  next = c.self.inside.next + 1;
  alarms = c.push_reserved.new.self.items;
  delays = c.self.inside.delays.items;
})
sound c =
    let old : Timers = record {
      next = c.self.inside.next;
      alarms = c.self.inside.alarms.items;
      delays = c.self.inside.delays.items;
    } in
    let none =
    rw (← c.self.view_is) at (sym c.has_alarm.ensures.stands ∙ c.if-has_alarm.false) in
    rw (c.push_reserved.ensures.items, c.min.ensures)
    (with_alarm-keeps old c.args.moment c.args.handler c.args.arg c.args.gp c.self.invariant.0 none
    (omega arith))

first_is : (c : goal.After-self-2-1)
    → c.first_with-self-inside.result
    ≡ first_turn c.push_reserved.new.self.items c.self.inside.delays.items
first_is c =
    let alarms = c.self.inside.alarms.items in
    let delays = c.self.inside.delays.items in
    let alarm : Alarm = record {
      number = c.self.inside.next;
      moment = c.min.result;
      handler = c.args.handler;
      arg = c.args.arg;
      gp = c.args.gp;
    } in
    c.first_with-self-inside.ensures
    ∙ ap (λ o. first_with o c.turn.result) c.self.invariant.1
    ∙ ap (first_with (first_turn alarms delays)) c.turn.ensures
    ∙ sym (with_alarm-first alarms alarm delays)
    ∙ ap (λ l. first_turn l delays) (sym c.push_reserved.ensures.items)

pub invariant_of-self : goal.invariant_of-self
invariant_of-self c =
    (sound c, first_is c, omega (arith, c.push_reserved.ensures.capacity), omega arith)

pub returns-clause-sound : goal.returns-clause-sound
returns-clause-sound c = sound c
