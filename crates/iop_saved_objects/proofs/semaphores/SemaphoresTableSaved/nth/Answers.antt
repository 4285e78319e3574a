use Rattle.std.proofs.Common.{refl}
use Rattle.iop_objects.specs.Objects.{waiters_of}
use Rattle.iop_saved_objects.specs.Semaphores.{saved_semaphore}
use Rattle.iop_saved_objects.specs.Waiters.{saved_waiters}
use Rattle.iop_saved_objects.proofs.Places.{told_at}
use Rattle.iop_saved_objects.proofs.semaphores.SemaphoresTableSaved.nth.Goals as goal

pub returns : goal.returns
returns c =
    let s = c.args.self.now in
    told_at saved_semaphore (λ y. y)
    (λ id state. (record { id = id; state = state }, saved_waiters (waiters_of s id)))
    s c.waiters.ensures.sound (λ o there. rw there refl) c.args.place c.nth.result c.nth.ensures
