-- The threads stay sound.
use Rattle.iop_ready.specs.KernelReady.{KernelStands}
use Rattle.iop_thread.specs.Standing.{IsSound}
use Rattle.iop_thread_tests.proofs.tests.most_threads.Given as goal

abbrev pub invariant-loop : goal.invariant-loop
invariant-loop g l = IsSound KernelStands l.threads
