use Rattle.std.proofs.Common.{◌≡◌, ◌≤◌, ◌++◌, length, take}
use Rattle.iop_thread.specs.Standing.{Stands}
use Rattle.iop_thread.specs.ThreadTable.{ThreadTable}
use Rattle.iop_saved_threads.specs.Tables.{ready_of}
use Rattle.iop_saved_threads.proofs.ready.push_ready.Given as goal

abbrev pub invariant-loop-place : goal.invariant-loop-place
invariant-loop-place g l =
    (s : ThreadTable) → Stands g.R.Ready.stands l.fn.threads s
    → (l.ids.items ≡ l.fn.ids.items ++ take l.place (ready_of s l.fn.priority))
    × (l.place ≤ length (ready_of s l.fn.priority))
