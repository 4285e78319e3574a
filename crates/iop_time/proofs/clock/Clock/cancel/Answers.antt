use Rattle.std.proofs.Common.{◌≡◌, not, filter, refl, rules, arith}
use Rattle.std.proofs.lemmas.Fn.{filter_same}
use Rattle.iop_time.specs.Timers.{Timers, AreTimers, is_alarm_of}
use Rattle.iop_time.specs.Turns.{first_turn}
use Rattle.iop_time.proofs.Keeping.{without_alarms-keeps}
use Rattle.iop_time.proofs.clock.Clock.cancel.Goals as goal

is_left : (c : goal.After-self-1)
    → c.retain.new.self.items
    ≡ filter (λ alarm. not (is_alarm_of c.args.handler c.args.arg alarm)) c.self.inside.alarms.items
is_left c = filter_same _ _ _ (λ x b f' k. search rules) _ _ c.retain.ensures.filtered

sound : (c : goal.After-self-1) → AreTimers (record {
  next = c.self.inside.next;
  alarms = c.retain.new.self.items;
  delays = c.self.inside.delays.items;
})
sound c =
    let old : Timers = record {
      next = c.self.inside.next;
      alarms = c.self.inside.alarms.items;
      delays = c.self.inside.delays.items;
    } in
    rw (is_left c)
    (without_alarms-keeps old (λ alarm. not (is_alarm_of c.args.handler c.args.arg alarm))
    c.self.invariant.0)

first_is : (c : goal.After-self-1)
    → c.first_turn-self-inside.result
    ≡ first_turn c.retain.new.self.items c.self.inside.delays.items
first_is c =
    rw (c.deref.ensures.value, c.deref-2.ensures.value) at c.first_turn-self-inside.ensures

pub invariant_of-self : goal.invariant_of-self
invariant_of-self c = (
  sound c,
  first_is c,
  omega (arith, c.retain.ensures.capacity),
  c.self.invariant.3,
)

pub returns-clause-timers : goal.returns-clause-timers
returns-clause-timers c =
    rw (← c.has_alarm.ensures.stands, c.if-not-has_alarm.false, ← c.self.view_is, is_left c) refl

pub returns-clause-code : goal.returns-clause-code
returns-clause-code c = rw (← c.has_alarm.ensures.stands, c.if-not-has_alarm.false) refl

pub returns-clause-sound : goal.returns-clause-sound
returns-clause-sound c = sound c
