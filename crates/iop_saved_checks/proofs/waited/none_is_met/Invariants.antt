use Rattle.std.proofs.Common.{◌≡◌, length}
use Rattle.std.specs.Prelude.{not}
use Rattle.std.specs.List.{list_all}
use Rattle.iop_event.specs.WakeConditions.{is_met}
use Rattle.iop_saved_checks.specs.Waiters.{walked}
use Rattle.iop_saved_checks.proofs.waited.none_is_met.Given as goal

abbrev pub invariant-loop-queued : goal.invariant-loop-queued
invariant-loop-queued l =
    list_all (λ x. not (is_met l.pattern x.item)) l.walk
    ≡ list_all (λ x. not (is_met l.pattern x.item)) (walked l.fn.waiters)

abbrev pub decreases-loop-queued : goal.decreases-loop-queued
decreases-loop-queued l = length l.walk
