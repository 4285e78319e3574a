use Rattle.std.proofs.Common.{◌≡◌, drop}
use Rattle.iop_machine.specs.Restoring.{may_come_behind}
use Rattle.iop_machine.proofs.restoring.events_may_come.Given as goal

abbrev pub invariant-loop-event : goal.invariant-loop-event
invariant-loop-event l =
    may_come_behind 0 l.events ≡ may_come_behind l.last (drop l.event-index l.events)
