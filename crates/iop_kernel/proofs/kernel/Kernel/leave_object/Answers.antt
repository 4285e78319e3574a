use Rattle.std.proofs.Common.{◌≡◌, Some, ap, ◌∙◌}
use Rattle.iop_thread.specs.declared.wait.Wait.TheVariants.{Object}
use Rattle.iop_kernel.specs.Waits.{leaves_object}
use Rattle.iop_kernel.proofs.kernel.Kernel.leave_object.Goals as goal

pub returns-in-Some-Object : goal.returns-in-Some-Object
returns-in-Some-Object g c = λ k h.
    let arm = c.in-Some-Object in
    let object = rw arm.is at arm.field-0-is in
    let waits : c.args.wait ≡ Some (Object arm.kind arm.id) = arm.is ∙ ap Some object in
    rw (ap (leaves_object k c.args.thread) waits) (c.drop_waiter.ensures k h)
