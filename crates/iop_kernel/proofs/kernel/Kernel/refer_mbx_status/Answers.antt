use Rattle.std.proofs.Common.{◌≡◌, ap, sym, ◌∙◌}
use Rattle.std.specs.Prelude.{unwrap_or}
use Rattle.iop_mbx.specs.Mailboxes.{without_messages}
use Rattle.iop_mbx.specs.declared.mailbox.Mailbox.{Mailbox}
use Rattle.iop_objects.specs.Objects.{object_of, state_of}
use Rattle.iop_kernel.specs.Mailboxes.{LiveMailbox, next_word}
use Rattle.iop_kernel.proofs.Bodies.Reads.{one_read}
use Rattle.iop_kernel.proofs.Bodies.Standing.{over}
use Rattle.iop_kernel.proofs.kernel.Kernel.refer_mbx_status.Goals as goal

pub returns : goal.returns
returns g c = over g.R.Ready.stands _ (λ t h.
    let was = c.args.self.now.mailboxes in
    let state = one_read without_messages (state_of was c.args.id) c.in-Some-get.ensures in
    let object = object_of was.live c.args.id in
    let found = one_read (λ (o : LiveMailbox). o.state) object (sym state.1) in
    let read = state.2 ∙ ap without_messages found.2 in
    let waiters = rw found.1 at c.waiters.ensures.count in
    let messages = rw found.1 at c.messages.ensures.count in
    let next : c.unwrap_or.result ≡ next_word found.0.state = c.unwrap_or.ensures
    ∙ ap (λ o. unwrap_or o 0) (rw found.1 at c.next_message.ensures) in
    rw (
      ← c.in-Some.ensures.place,
      found.1,
      ← next,
      ← messages,
      ← waiters,
      ← ap (λ (m : Mailbox). m.attr) read,
      ← ap (λ (m : Mailbox). m.option) read,
    )
    (c.answer_words_at.ensures _ h))
