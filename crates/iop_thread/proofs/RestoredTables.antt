-- When the table of threads that are put back is one of threads.
use Rattle.std.proofs.Common.{◌≡◌, true, List}
use Rattle.iop_ready.specs.declared.entry.Entry.{Entry}
use Rattle.iop_thread.specs.declared.restored_threads.RestoredThreads.{RestoredThreads}
use Rattle.iop_thread.specs.Restored.{Restores}
use Rattle.iop_thread.specs.Restoring.{are_listed}
use Rattle.iop_thread.specs.Standing.{Stands}
use Rattle.iop_thread.specs.ThreadTable.{ThreadTable}
use Rattle.iop_thread.proofs.PuttingBack.{all_placed}

-- it stands for the threads when each that is ready is in the ready list
pub complete : {R : Type 0} (stands_for : R → List Entry → Type 0) (r : RestoredThreads R)
    (s : ThreadTable) → Restores stands_for r s → are_listed s ≡ true
    → Stands stands_for r.threads s
complete stands_for r s h listed = record {
  place = h.place;
  holds = h.holds;
  placed = all_placed s h.placed listed;
}
