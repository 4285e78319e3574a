use Rattle.std.proofs.Common.{◌≡◌, ◌+◌, ◌≤◌, length}
use Rattle.std.specs.List.{list_all}
use Rattle.iop_ready.specs.declared.slot.TheConstants.{MOST_THREADS}
use Rattle.iop_saved_checks.specs.Made.{thread_can_be}
use Rattle.iop_saved_threads.specs.Tables.{above}
use Rattle.iop_thread.specs.Standing.{Stands}
use Rattle.iop_thread.specs.ThreadTable.{ThreadTable}
use Rattle.iop_saved_checks.proofs.made.each_can_be.Given as goal

abbrev pub invariant-loop : goal.invariant-loop
invariant-loop g l =
    (s : ThreadTable) → Stands g.R.Ready.stands l.threads s
    → (list_all (thread_can_be (length l.ram)) (above l.last s.live)
    ≡ list_all (thread_can_be (length l.ram)) s.live)
    × (length (above l.last s.live) + l.counter ≤ MOST_THREADS)
