use Rattle.iop_objects.specs.Objects.{object_of}
use Rattle.iop_kernel.specs.Semaphores.{LiveSemaphore}
use Rattle.iop_kernel.proofs.Bodies.Reads.{one_read}
use Rattle.iop_kernel.proofs.Bodies.Standing.{over}
use Rattle.iop_kernel.proofs.kernel.Kernel.refer_sema_status.Goals as goal

pub returns : goal.returns
returns g c = over g.R.Ready.stands _ (λ t h.
    let object = object_of c.args.self.now.semaphores.live c.args.id in
    let found = one_read (λ (o : LiveSemaphore). o.state) object c.in-Some-get.ensures in
    let waiters = rw found.1 at c.waiters.ensures.count in
    rw (← c.in-Some.ensures.place, found.1, ← found.2, ← waiters) (c.answer_words_at.ensures _ h))
