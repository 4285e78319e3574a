-- The table stands for some threads.
use Rattle.iop_ready.specs.KernelReady.{KernelStands}
use Rattle.iop_thread.specs.Restored.{IsRestored}
use Rattle.iop_thread_tests.proofs.restoring.wrong_row.Given as goal

abbrev pub invariant-loop-place : goal.invariant-loop-place
invariant-loop-place l = IsRestored KernelStands l.restored
