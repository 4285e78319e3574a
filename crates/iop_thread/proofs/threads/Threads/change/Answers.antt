use Rattle.iop_thread.proofs.threads.Threads.change.Goals as goal

pub set_priority-requires-clause-there : goal.set_priority-requires-clause-there
set_priority-requires-clause-there g c =
    let (s, h) = c.requires.sound in (c.in-Some.ensures s h).1
