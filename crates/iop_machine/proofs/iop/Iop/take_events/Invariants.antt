use Rattle.std.proofs.Common.{◌≡◌, length}
use Rattle.iop_machine.specs.Iop.{Iop}
use Rattle.iop_machine.specs.Looking.{takes_events}
use Rattle.iop_machine.specs.Standing.{Stands}
use Rattle.iop_machine.proofs.iop.Iop.take_events.Given as goal

-- the events that are due are those of before, but for those that were taken
abbrev pub invariant-loop-event : goal.invariant-loop-event
invariant-loop-event l = record {
  moment : l.self.kernel.clock ≡ l.now;
  taken : (s : Iop) → Stands l.fn.self s
      → (v : Iop) × Stands l.self v × (takes_events v ≡ takes_events s);
}

abbrev pub decreases-loop-event : goal.decreases-loop-event
decreases-loop-event l = length l.self.events
