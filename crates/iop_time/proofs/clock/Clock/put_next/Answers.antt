use Rattle.std.proofs.Common.{arith}
use Rattle.iop_time.specs.Timers.{Timers, AreTimers}
use Rattle.iop_time.proofs.PuttingBack.{next-keeps}
use Rattle.iop_time.proofs.clock.Clock.put_next.Goals as goal

sound : (c : goal.After-self-1) → AreTimers (record {
  next = c.args.number;
  alarms = c.self.inside.alarms.items;
  delays = c.self.inside.delays.items;
})
sound c =
    let old : Timers = record {
      next = c.self.inside.next;
      alarms = c.self.inside.alarms.items;
      delays = c.self.inside.delays.items;
    } in
    next-keeps old c.args.number c.self.invariant.0 (omega arith)

pub invariant_of-self : goal.invariant_of-self
invariant_of-self c =
    (sound c, c.self.invariant.1, c.self.invariant.2, c.self.invariant.3)

pub returns-clause-sound : goal.returns-clause-sound
returns-clause-sound c = sound c
