-- The threads that are put back are some.
use Rattle.iop_saved_threads_tests.proofs.tables.restored.Goals as goal

pub returns-in-Some-finish : goal.returns-in-Some-finish
returns-in-Some-finish c =
    let live = c.in_ok-threads.ensures in
    let listed = c.in-Some.ensures live.1 live.2 in
    (_, c.in-Some-finish.ensures.table listed.0 listed.1)
