use Rattle.iop_thread.proofs.threads.Threads.resume.Goals as goal

pub resume_found-requires-clause-there : goal.resume_found-requires-clause-there
resume_found-requires-clause-there g c =
    let (s, h) = c.requires.sound in (c.in-Some.ensures s h).1
