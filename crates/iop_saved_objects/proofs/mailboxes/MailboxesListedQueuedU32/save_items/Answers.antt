use Rattle.std.proofs.Common.{arith}
use Rattle.iop_mbx.specs.Mailboxes.{Mailbox}
use Rattle.iop_objects.specs.Objects.{state_of}
use Rattle.iop_saved_objects.proofs.Ahead.{saved_as}
use Rattle.iop_saved_objects.proofs.Places.{content_ahead, content_counted}
use Rattle.iop_saved_objects.proofs.mailboxes.MailboxesListedQueuedU32.save_items.Goals as goal

pub save_records-requires : goal.save_records-requires
save_records-requires g c =
    let known = state_of c.args.self.now c.args.id in record {
      counted = content_counted (λ (x : Mailbox). x.messages) known c.messages.result c.walk_messages.result
          c.messages.ensures.count c.walk_messages.ensures;
      few = omega (arith, c.messages.ensures.few);
    }

pub returns : goal.returns
returns g c =
    let known = state_of c.args.self.now c.args.id in
    saved_as c.save_records.ensures
    (content_ahead (λ (x : Mailbox). x.messages) known c.walk_messages.result c.walk_messages.ensures)
