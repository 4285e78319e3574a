-- The threads stay sound.
use Rattle.iop_ready.specs.KernelReady.{KernelStands}
use Rattle.iop_thread.specs.Standing.{IsSound}
use Rattle.iop_thread_tests.proofs.tests.wrong_row.Given as goal

abbrev pub invariant-loop-place : goal.invariant-loop-place
invariant-loop-place l = IsSound KernelStands l.threads
