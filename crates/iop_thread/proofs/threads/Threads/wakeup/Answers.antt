use Rattle.iop_thread.proofs.threads.Threads.wakeup.Goals as goal

pub wake_up_found-requires-clause-there : goal.wake_up_found-requires-clause-there
wake_up_found-requires-clause-there g c =
    let (s, h) = c.requires.sound in (c.in-Some.ensures s h).1
