-- So many messages stand in the mailboxes as in all queues.
use Rattle.std.proofs.Common.{◌≡◌, ℕ, List, length, sum, ap, sym, ◌∙◌}
use Rattle.std.proofs.lemmas.Simd.{map-map}
use Rattle.iop_objects.specs.Objects.{Object, Objects}
use Rattle.iop_objects.specs.declared.objects.TheConstants.{MOST_OBJECTS}
use Rattle.iop_queues.specs.Numbers.{AreAssigned}
use Rattle.iop_queues.specs.Queues.{total}
use Rattle.iop_queues.specs.declared.queued.Queued.{Queued}
use Rattle.iop_queues.proofs.Assigned.{total-assigned}
use Rattle.iop_mbx.specs.Mailboxes as mailboxes
use Rattle.iop_mbx.specs.Mailboxes.{message_count}
use Rattle.iop_mbx.specs.Standing.{mailbox_in, mailboxes_in, queues_of}
use Rattle.iop_mbx.specs.declared.mailboxes.Numbered.{Numbered}

pub total-messages : (objects : Objects Numbered ℕ) {free : List ℕ}
    {messages : List (List (Queued ℕ))}
    → AreAssigned MOST_OBJECTS (queues_of objects) free messages
    → total messages ≡ message_count (mailboxes_in objects messages)
total-messages objects {messages = messages} assigned =
    total-assigned (λ (o : Object Numbered ℕ). o.state.queue) objects.live assigned
    ∙ ap sum (sym (map-map (λ (o : Object mailboxes.Mailbox ℕ). length o.state.messages)
    (mailbox_in messages) objects.live))
