-- How the program's table of threads that are put back stands for the threads.
use Rattle.std.specs.Prelude.{ℕ, List}
use Rattle.iop_ready.specs.declared.entry.Entry.{Entry}
use Rattle.iop_thread.specs.declared.restored_threads.RestoredThreads.{RestoredThreads}
use Rattle.iop_thread.specs.Restoring.{ArePlacedSoFar}
use Rattle.iop_thread.specs.Standing.{Holds}
use Rattle.iop_thread.specs.ThreadTable.{ThreadTable}

module _ {R : Type 0} (stands_for : R → List Entry → Type 0) where
  -- the table stands for the threads, which are placed so far
  pub record Restores (r : RestoredThreads R) (s : ThreadTable) : Type 0 where
    pub place : ℕ → ℕ
    pub holds : Holds stands_for place r.threads s
    pub placed : ArePlacedSoFar s

  -- it stands for some threads
  abbrev pub IsRestored : RestoredThreads R → Type 0
  IsRestored r = (s : ThreadTable) × Restores r s
