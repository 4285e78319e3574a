use Rattle.std.proofs.Common.{◌≡◌, ℕ, ◌<◌, ◌≤◌, ◌==◌, false}
use Rattle.std.specs.List.{list_any}
use Rattle.iop_thread.specs.Restored.{Restores}
use Rattle.iop_thread.specs.ThreadTable.{ThreadTable, priority_of}
use Rattle.iop_thread.proofs.restored_threads.RestoredThreads.is_none_worse.Given as goal

-- none is ready of the worse priorities so far
abbrev pub invariant-loop-better : goal.invariant-loop-better
invariant-loop-better g l =
    (l.thread.priority ≤ l.better)
    × ((s : ThreadTable) → Restores g.R.Ready.stands l.self s
    → (worse : ℕ) → l.thread.priority < worse → worse ≤ l.better
    → list_any (λ id. priority_of s.live id == worse) s.ready ≡ false)
