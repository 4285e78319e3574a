use Rattle.std.proofs.Common.{◌≡◌, ℕ, ◌<◌, true}
use Rattle.iop_thread.specs.Restored.{Restores}
use Rattle.iop_thread.specs.Restoring.{is_listed_in}
use Rattle.iop_thread.specs.ThreadPlaces.{thread_at}
use Rattle.iop_thread.specs.ThreadTable.{ThreadTable}
use Rattle.iop_thread.proofs.restored_threads.RestoredThreads.are_listed.Given as goal

-- the threads in the places so far are in the ready list if they are ready
abbrev pub invariant-loop-place : goal.invariant-loop-place
invariant-loop-place g l =
    (s : ThreadTable) → Restores g.R.Ready.stands l.self s → (slot : ℕ) → slot < l.place
    → is_listed_in s (thread_at l.self.threads.places slot) ≡ true
