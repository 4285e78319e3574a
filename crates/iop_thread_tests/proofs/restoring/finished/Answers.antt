-- The table stands for some threads after each call.
use Rattle.iop_thread.specs.Restoring.{no_threads}
use Rattle.iop_thread_tests.proofs.restoring.finished.Goals as goal

pub loop-id-init : goal.loop-id-init
loop-id-init c =
    let first = c.put_back.ensures.put no_threads c.in_ok-restored.ensures in
    (_, c.put_back-2.ensures.put _ first)

pub loop-id-preserved : goal.loop-id-preserved
loop-id-preserved c = let (s, r) = c.loop-id.invariant in (_, c.put_ready.ensures.put s r)
