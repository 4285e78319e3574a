use Rattle.std.proofs.Common.{◌≡◌, Some, ap, sym, ◌∙◌}
use Rattle.iop_thread.specs.declared.wait.Wait.TheVariants.{Object}
use Rattle.iop_kernel.specs.Waits.{requeues_at}
use Rattle.iop_kernel.proofs.kernel.Kernel.requeue.Goals as goal

pub returns-in-Some-Object : goal.returns-in-Some-Object
returns-in-Some-Object g c = λ k h.
    let arm = c.in-Some-Object in
    let object = rw arm.is at arm.field-0-is in
    let waits : c.args.wait ≡ Some (Object arm.kind arm.id) = arm.is ∙ ap Some object in
    rw (ap (requeues_at k c.args.thread c.args.priority) waits
    ∙ ap (λ p. requeues_at k c.args.thread p (Some (Object arm.kind arm.id)))
    (sym c.number-priority.ensures.same)) (c.requeue_waiter.ensures k h)
