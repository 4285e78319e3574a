-- The table stands for some threads.
use Rattle.iop_ready.specs.KernelReady.{KernelStands}
use Rattle.iop_thread.specs.Restored.{IsRestored}
use Rattle.iop_thread_tests.proofs.restoring.finished.Given as goal

abbrev pub invariant-loop-id : goal.invariant-loop-id
invariant-loop-id l = IsRestored KernelStands l.restored
