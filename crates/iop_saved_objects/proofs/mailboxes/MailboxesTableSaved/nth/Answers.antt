use Rattle.std.proofs.Common.{refl}
use Rattle.iop_mbx.specs.Mailboxes.{without_messages}
use Rattle.iop_objects.specs.Objects.{state_of, waiters_of}
use Rattle.iop_saved_objects.specs.Lists.{ahead_in}
use Rattle.iop_saved_objects.specs.Mailboxes.{saved_mailbox}
use Rattle.iop_saved_objects.specs.Waiters.{saved_waiters}
use Rattle.iop_saved_objects.proofs.Places.{told_at}
use Rattle.iop_saved_objects.proofs.mailboxes.MailboxesTableSaved.nth.Goals as goal

pub returns : goal.returns
returns c =
    let s = c.args.self.now in
    told_at saved_mailbox without_messages
    (λ id state. (
      (record { id = id; state = state }, saved_waiters (waiters_of s id)),
      ahead_in (λ x. x.messages) (state_of s id),
    ))
    s c.waiters.ensures.sound (λ o there. rw there refl) c.args.place c.nth.result c.nth.ensures
