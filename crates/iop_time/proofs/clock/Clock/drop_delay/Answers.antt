use Rattle.std.proofs.Common.{◌≡◌, not, arith, filter, refl, rules}
use Rattle.std.proofs.lemmas.Fn.{filter_same}
use Rattle.iop_time.specs.Timers.{Timers, AreTimers, is_delay_of}
use Rattle.iop_time.specs.Turns.{first_turn}
use Rattle.iop_time.proofs.Keeping.{without_delays-keeps}
use Rattle.iop_time.proofs.clock.Clock.drop_delay.Goals as goal

is_left : (c : goal.After-self-1)
    → c.retain.new.self.items
    ≡ filter (λ delay. not (is_delay_of c.args.thread delay)) c.self.inside.delays.items
is_left c = filter_same _ _ _ (λ x b f' k. search rules) _ _ c.retain.ensures.filtered

sound : (c : goal.After-self-1) → AreTimers (record {
  next = c.self.inside.next;
  alarms = c.self.inside.alarms.items;
  delays = c.retain.new.self.items;
})
sound c =
    let old : Timers = record {
      next = c.self.inside.next;
      alarms = c.self.inside.alarms.items;
      delays = c.self.inside.delays.items;
    } in
    rw (is_left c)
    (without_delays-keeps old (λ delay. not (is_delay_of c.args.thread delay)) c.self.invariant.0)

first_is : (c : goal.After-self-1)
    → c.first_turn-self-inside.result
    ≡ first_turn c.self.inside.alarms.items c.retain.new.self.items
first_is c =
    rw (c.deref.ensures.value, c.deref-2.ensures.value) at c.first_turn-self-inside.ensures

pub invariant_of-self : goal.invariant_of-self
invariant_of-self c = (
  sound c,
  first_is c,
  c.self.invariant.2,
  omega (arith, c.retain.ensures.capacity),
)

pub returns-clause-timers : goal.returns-clause-timers
returns-clause-timers c = rw (← c.self.view_is, is_left c) refl

pub returns-clause-sound : goal.returns-clause-sound
returns-clause-sound c = sound c
