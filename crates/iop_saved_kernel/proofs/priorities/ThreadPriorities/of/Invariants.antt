use Rattle.std.proofs.Common.{◌≡◌, length}
use Rattle.iop_thread.specs.Standing.{Stands}
use Rattle.iop_thread.specs.ThreadTable.{ThreadTable}
use Rattle.iop_saved_kernel.proofs.PriorityLemmas.{HaveFound}
use Rattle.iop_saved_kernel.proofs.priorities.ThreadPriorities.of.Given as goal

abbrev pub invariant-loop : goal.invariant-loop
invariant-loop g l =
    (length l.threads.items ≡ l.counter)
    × ((s : ThreadTable) → Stands g.R.Ready.stands l.fn.table s
    → HaveFound s l.threads.items l.last)
