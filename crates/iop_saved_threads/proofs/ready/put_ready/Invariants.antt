use Rattle.std.proofs.Common.{◌≡◌, drop}
use Rattle.iop_snapshot.specs.Putting.{put_all}
use Rattle.iop_thread.specs.Restored.{Restores}
use Rattle.iop_thread.specs.ThreadTable.{ThreadTable}
use Rattle.iop_saved_threads.specs.Tables.{put_ready}
use Rattle.iop_saved_threads.proofs.ready.put_ready.Given as goal

abbrev pub invariant-loop-id : goal.invariant-loop-id
invariant-loop-id g l =
    (s : ThreadTable) → Restores g.R.Ready.stands l.fn.threads s
    → (t : ThreadTable) × Restores g.R.Ready.stands l.threads t
    × (put_all put_ready s l.ids ≡ put_all put_ready t (drop l.id-index l.ids))
