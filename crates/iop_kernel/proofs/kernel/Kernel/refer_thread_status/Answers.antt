use Rattle.iop_kernel.specs.Standing.{system}
use Rattle.iop_kernel.proofs.Bodies.ThreadStatus.{refers_named}
use Rattle.iop_kernel.proofs.kernel.Kernel.refer_thread_status.Goals as goal

pub returns : goal.returns
returns g c = λ k blocks libraries h.
    let s = system k c.args.cpu.now c.args.guest.now blocks libraries in
    rw (← refers_named s c.in-Some.place c.in-Some-get.thread.now c.args.id c.args.at
    c.in-Some-named.id c.in-Some.ensures.place (c.in-Some-named.ensures k h)
    (c.in-Some-get.ensures k.threads h.threads)) (c.write_status.ensures k blocks libraries h)
