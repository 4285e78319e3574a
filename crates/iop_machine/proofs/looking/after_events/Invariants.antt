use Rattle.std.proofs.Common.{◌≡◌, drop}
use Rattle.iop_machine.specs.Looking.{after_events}
use Rattle.iop_machine.proofs.looking.after_events.Given as goal

-- the events that are left leave the same lines
abbrev pub invariant-loop-event : goal.invariant-loop-event
invariant-loop-event l =
    after_events l.irqs (drop l.event-index l.events) ≡ after_events l.initial.irqs l.events
