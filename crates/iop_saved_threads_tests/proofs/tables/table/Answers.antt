-- The table stands for some threads after each call.
use Rattle.iop_thread.specs.Operations.{opening}
use Rattle.iop_saved_threads_tests.proofs.tables.table.Goals as goal

pub create-requires-2 : goal.create-requires-2
create-requires-2 c =
    let first = c.create.ensures opening c.in_ok-threads.ensures in
    record { sound = (_, first.1) }

pub start-requires : goal.start-requires
start-requires c =
    let first = c.create.ensures opening c.in_ok-threads.ensures in
    record { sound = (_, (c.create-2.ensures _ first.1).1) }

pub start-requires-2 : goal.start-requires-2
start-requires-2 c =
    let first = c.create.ensures opening c.in_ok-threads.ensures in
    record { sound = (_, (c.start.ensures _ (c.create-2.ensures _ first.1).1).1) }

pub returns : goal.returns
returns c =
    let first = c.create.ensures opening c.in_ok-threads.ensures in
    let ready = c.start.ensures _ (c.create-2.ensures _ first.1).1 in
    (_, (c.start-2.ensures _ ready.1).1)
