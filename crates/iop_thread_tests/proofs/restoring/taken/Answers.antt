-- The table stands for some threads after each call.
use Rattle.iop_thread_tests.proofs.restoring.taken.Goals as goal

pub returns-in-Thread : goal.returns-in-Thread
returns-in-Thread c = let (s, r) = c.requires in (_, c.put_back.ensures.put s r)

pub returns-in-Ready : goal.returns-in-Ready
returns-in-Ready c = let (s, r) = c.requires in (_, c.put_ready.ensures.put s r)
