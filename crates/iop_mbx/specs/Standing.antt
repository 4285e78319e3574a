-- How the tables of the program stand for the mailboxes: the messages of each stand in a queue of
-- its own, which has a number.
use Rattle.std.specs.Prelude.{ℕ, List, map}
use Rattle.iop_mbx.specs.Mailboxes as mailboxes
use Rattle.iop_mbx.specs.Mailboxes.{Mailboxes}
use Rattle.iop_mbx.specs.declared.mailboxes.Numbered.{Numbered}
use Rattle.iop_objects.specs.Objects.{Object, Objects}
use Rattle.iop_queues.specs.Queues.{queue_at}
use Rattle.iop_queues.specs.declared.queued.Queued.{Queued}

-- what is known of a mailbox, with its messages
abbrev pub known : List (List (Queued ℕ)) → Numbered → mailboxes.Mailbox
known messages x = record {
  attr = x.mailbox.attr;
  option = x.mailbox.option;
  messages = queue_at x.queue messages;
}

abbrev pub mailbox_in : List (List (Queued ℕ)) → Object Numbered ℕ → Object mailboxes.Mailbox ℕ
mailbox_in messages o =
    record { id = o.id; state = known messages o.state; waiters = o.waiters }

abbrev pub mailboxes_in : Objects Numbered ℕ → List (List (Queued ℕ)) → Mailboxes
mailboxes_in objects messages =
    record { live = map (mailbox_in messages) objects.live; next = objects.next }

-- the queues of the mailboxes
abbrev pub queues_of : Objects Numbered ℕ → List ℕ
queues_of objects = map (λ o. o.state.queue) objects.live
