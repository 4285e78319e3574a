-- How mailboxes are spelled, and put back. This project's own profile.
use Rattle.std.specs.Prelude.{ℕ, if◌then◌else◌, Option, Some, None, List, [], ◌∷◌, slice_index, map}
use Rattle.iop_mbx.specs.Mailboxes as mailboxes
use Rattle.iop_mbx.specs.Mailboxes.{Mailboxes, without_messages}
use Rattle.iop_mbx.specs.Restoring.{may_follow, with_last, may_queue, with_message}
use Rattle.iop_mbx.specs.declared.mailbox.Mailbox.{Mailbox}
use Rattle.iop_objects.specs.Objects.{Object, waits}
use Rattle.iop_objects.specs.Restoring.{may_wait}
use Rattle.iop_objects.specs.declared.waiter.Waiter.{Waiter}
use Rattle.iop_queues.specs.declared.queued.Queued.{Queued}
use Rattle.iop_snapshot.specs.Forms.{Form, item, seen_as}
use Rattle.iop_snapshot.specs.declared.widths.TheConstants.{MAILBOX, MESSAGE}
use Rattle.iop_saved_objects.specs.Lists.{with_list, put_with_list}
use Rattle.iop_saved_objects.specs.Waiters.{asking_form, saved_waiters, put_waiter}
use Rattle.iop_saved_objects.specs.declared.head.Head.{Head}

-- a mailbox, the threads that wait for it, in order of their arrival, and its messages, in the
-- order in which they were queued
abbrev pub SavedMailbox : Type 0
SavedMailbox = (Head Mailbox × List (Waiter ℕ)) × List (Queued ℕ)

abbrev pub saved_mailbox : Object mailboxes.Mailbox ℕ → SavedMailbox
saved_mailbox o = (
  (record { id = o.id; state = without_messages o.state }, saved_waiters o.waiters),
  o.state.messages,
)

abbrev pub saved_mailboxes : Mailboxes → List SavedMailbox
saved_mailboxes s = map saved_mailbox s.live

abbrev pub mailbox_numbers : Head Mailbox → List ℕ
mailbox_numbers head = head.id ∷ head.state.attr ∷ head.state.option ∷ []

abbrev pub mailbox_of : List ℕ → Option (Head Mailbox)
mailbox_of ns = Some (record {
  id = slice_index ns 0;
  state = record { attr = slice_index ns 1; option = slice_index ns 2 };
})

unfoldable pub mailbox_head : Form (Head Mailbox)
mailbox_head = seen_as (item MAILBOX) mailbox_of mailbox_numbers

-- a message, with its priority
abbrev pub message_numbers : Queued ℕ → List ℕ
message_numbers queued = queued.item ∷ queued.priority ∷ []

abbrev pub message_of : List ℕ → Option (Queued ℕ)
message_of ns = Some (record { priority = slice_index ns 1; item = slice_index ns 0 })

unfoldable pub message_form : Form (Queued ℕ)
message_form = seen_as (item MESSAGE) message_of message_numbers

unfoldable pub mailbox_form : Form SavedMailbox
mailbox_form = with_list (with_list mailbox_head asking_form) message_form

-- a mailbox that has no message, and for which no thread waits, is put back behind all others
abbrev pub put_head : Mailboxes → Head Mailbox → Option Mailboxes
put_head s head =
    if may_follow s head.id head.state then Some (with_last s head.id head.state) else None

-- a thread waits for the mailbox of an id again, behind all others
abbrev pub put_queued : ℕ → Mailboxes → Queued (Waiter ℕ) → Option Mailboxes
put_queued id s queued = if may_wait s id then Some (waits s id queued) else None

-- with the priority that it has
abbrev pub put_thread : (priorities : ℕ → Option ℕ) → Head Mailbox → Mailboxes → Waiter ℕ
    → Option Mailboxes
put_thread priorities head = put_waiter (put_queued head.id) priorities

-- a message is queued again in the mailbox of an id, behind all others
abbrev pub put_message : ℕ → Mailboxes → Queued ℕ → Option Mailboxes
put_message id s message =
    if may_queue s id message.priority then Some (with_message s id message) else None

-- a mailbox is put back with those that waited for it, where threads have these priorities
abbrev pub put_waited : (priorities : ℕ → Option ℕ) → Mailboxes
    → Head Mailbox × List (Waiter ℕ) → Option Mailboxes
put_waited priorities = put_with_list put_head (put_thread priorities)

-- and with its messages
abbrev pub put_message_in : Head Mailbox × List (Waiter ℕ) → Mailboxes → Queued ℕ
    → Option Mailboxes
put_message_in waited = put_message waited.0.id

abbrev pub put_mailbox : (priorities : ℕ → Option ℕ) → Mailboxes → SavedMailbox
    → Option Mailboxes
put_mailbox priorities s saved =
    put_with_list (put_waited priorities) put_message_in s saved
