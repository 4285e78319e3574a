use Rattle.std.proofs.Common.{◌≡◌, length}
use Rattle.std.specs.Prelude.{nat_lt}
use Rattle.std.specs.List.{list_all}
use Rattle.iop_saved_checks.specs.Waiters.{walked}
use Rattle.iop_saved_checks.proofs.waited.all_want_more.Given as goal

abbrev pub invariant-loop-queued : goal.invariant-loop-queued
invariant-loop-queued l =
    list_all (λ x. nat_lt l.most x.item.wants) l.walk
    ≡ list_all (λ x. nat_lt l.most x.item.wants) (walked l.fn.waiters)

abbrev pub decreases-loop-queued : goal.decreases-loop-queued
decreases-loop-queued l = length l.walk
