use Rattle.std.proofs.Common.{◌≡◌, ◌+◌, ◌≤◌, length}
use Rattle.std.specs.List.{list_all}
use Rattle.iop_kernel.specs.Standing.{Holds}
use Rattle.iop_kernel.specs.System.{Kernel}
use Rattle.iop_ready.specs.declared.slot.TheConstants.{MOST_THREADS}
use Rattle.iop_saved_checks.specs.Threads.{thread_agrees, threads_agree}
use Rattle.iop_saved_threads.specs.Tables.{above}
use Rattle.iop_saved_checks.proofs.threads.threads_agree.Given as goal

abbrev pub invariant-loop : goal.invariant-loop
invariant-loop g l =
    (k : Kernel) → Holds g.R.Ready.stands l.kernel k
    → (list_all (thread_agrees k) (above l.last k.threads.live) ≡ threads_agree k)
    × (length (above l.last k.threads.live) + l.counter ≤ MOST_THREADS)
