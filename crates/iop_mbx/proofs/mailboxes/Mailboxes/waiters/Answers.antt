use Rattle.std.proofs.Common.{refl, subst}
use Rattle.iop_objects.specs.Objects.{AreObjects}
use Rattle.iop_objects.proofs.MappedObjects.{AreObjects-map}
use Rattle.iop_mbx.specs.Standing.{mailbox_in}
use Rattle.iop_mbx.proofs.mailboxes.Mailboxes.waiters.Goals as goal

pub returns-clause-sound : goal.returns-clause-sound
returns-clause-sound c =
    let objects = c.self.inside.objects in
    subst AreObjects c.self.view_is
    (AreObjects-map (mailbox_in c.self.inside.messages) (λ o. refl) objects.live objects.next
    c.waiters.ensures.sound)
