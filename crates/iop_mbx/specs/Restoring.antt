-- How mailboxes are put back, one behind the other, into a table of none: those that were live, in
-- the order of their ids, each with the threads that waited for it, in the order of their arrival,
-- and then with its messages, in the order in which they were queued. It is this project's own
-- profile.
use Rattle.std.specs.Prelude.{◌≡◌, ℕ, ◌<◌, ◌≤◌, ◌==◌, Bool, true, false, ◌&&◌, ◌||◌, if◌then◌else◌, Option, Some, None, option_map, option_and_then, unwrap_or, List, [], ◌∷◌, All}
use Rattle.iop_mbx.specs.Mailboxes.{Mailbox, Mailboxes, is_attribute, messages_by_priority, without_messages, message_count, has_room, is_by_priority, creates, deletes, takes_waiter, takes_waiter_of, puts, gets, waits}
use Rattle.iop_mbx.specs.declared.mailbox.Mailbox as declared
use Rattle.iop_mbx.specs.declared.mailboxes.TheConstants.{MOST_MESSAGES}
use Rattle.iop_objects.specs.Objects.{Object, no_objects, state_of, waiting, drops, requeues}
use Rattle.iop_objects.specs.Restoring as objects
use Rattle.iop_objects.specs.Restoring.{IsRestorable, may_be_next, with_next, with_waiters_back, with_next_back}
use Rattle.iop_objects.specs.declared.objects.TheConstants.{MOST_WAITERS}
use Rattle.iop_queues.specs.declared.queued.Queued.{Queued}

-- a mailbox that has no message
abbrev pub empty_mailbox : declared.Mailbox → Mailbox
empty_mailbox x = record { attr = x.attr; option = x.option; messages = [] }

-- whether a mailbox of this attribute can have a message of this priority: it is 0 where it is not
-- looked at
abbrev pub can_have : (attr priority : ℕ) → Bool
can_have attr priority = messages_by_priority attr || priority == 0

module _ (s : Mailboxes) where
  -- whether a mailbox may stand behind all others, with this id
  abbrev pub may_follow : ℕ → declared.Mailbox → Bool
  may_follow id x = is_attribute x.attr && objects.may_follow s id

  -- a mailbox that has no message, and for which no thread waits, stands behind all others
  abbrev pub with_last : ℕ → declared.Mailbox → Mailboxes
  with_last id x = objects.with_last s id (empty_mailbox x)

  -- whether a message of this priority may stand behind the others of the mailbox of this id
  abbrev pub may_queue : (id priority : ℕ) → Bool
  may_queue id priority =
      unwrap_or (option_map (λ x. can_have x.attr priority) (state_of s id)) false && has_room s

  -- it stands there
  abbrev pub with_message : ℕ → Queued ℕ → Mailboxes
  with_message id message = (puts s id message.item message.priority).1

-- messages stand in a mailbox again, in this order
abbrev pub with_messages_back : Mailboxes → ℕ → List (Queued ℕ) → Option Mailboxes
with_messages_back s id [] = Some s
with_messages_back s id (m ∷ ms) =
    if may_queue s id m.priority then with_messages_back (with_message s id m) id ms else None

-- a mailbox is live again, with those that waited for it, and with its messages
abbrev pub with_mailbox_back : Mailboxes → Object Mailbox ℕ → Option Mailboxes
with_mailbox_back s o =
    let x = without_messages o.state in
    if may_follow s o.id x
    then option_and_then (λ t. with_messages_back t o.id o.state.messages)
    (with_waiters_back (with_last s o.id x) o.id o.waiters)
    else None

-- mailboxes are live again, in this order
abbrev pub with_mailboxes_back : Mailboxes → List (Object Mailbox ℕ) → Option Mailboxes
with_mailboxes_back s [] = Some s
with_mailboxes_back s (o ∷ os) =
    option_and_then (λ t. with_mailboxes_back t os) (with_mailbox_back s o)

-- all that stands in a table is put back into one of no mailbox
abbrev pub restored : Mailboxes → Option Mailboxes
restored s = option_and_then (λ t. with_next_back t s.next) (with_mailboxes_back no_objects s.live)

-- a sound mailbox, with its messages
pub record IsSoundMailbox (x : Mailbox) : Type 0 where
  pub attribute : is_attribute x.attr ≡ true
  pub messages : All (λ m. can_have x.attr m.priority ≡ true) x.messages

-- a table of sound mailboxes, in which ids rise and no more messages stand than can
pub record CanBeRestored (s : Mailboxes) : Type 0 where
  pub objects : IsRestorable s
  pub mailboxes : All (λ o. IsSoundMailbox o.state) s.live
  pub few : message_count s ≤ MOST_MESSAGES

-- all that stands in such a table can be put back, and gives the table again
abbrev pub MailboxesAreRestored : Type 0
MailboxesAreRestored = (s : Mailboxes) → CanBeRestored s → restored s ≡ Some s

-- each call keeps a table so, where it lets no more threads wait than can
pub record StayRestorable (s : Mailboxes) : Type 0 where
  pub creates : (attr option : ℕ) → CanBeRestored (creates s attr option).1
  pub deletes : (id : ℕ) → CanBeRestored (deletes s id).1
  pub takes_waiter : (id : ℕ) → CanBeRestored (takes_waiter s id).1
  pub takes_waiter_of : (id : ℕ) → CanBeRestored (takes_waiter_of s id).1
  -- a message is queued with a priority that it can have there
  pub puts : (id message priority : ℕ)
      → ((x : Mailbox) → state_of s id ≡ Some x → can_have x.attr priority ≡ true)
      → CanBeRestored (puts s id message priority).1
  pub gets : (id : ℕ) → CanBeRestored (gets s id).1
  pub waits : (id thread priority place : ℕ) → waiting s < MOST_WAITERS
      → CanBeRestored (waits s id thread priority place)
  pub drops : (id thread : ℕ) → CanBeRestored (drops s id thread)
  pub requeues : (id thread priority : ℕ)
      → CanBeRestored (requeues s id (is_by_priority s id) thread priority)
  -- and so does what is put back
  pub with_last : (id : ℕ) (x : declared.Mailbox) → may_follow s id x ≡ true
      → CanBeRestored (with_last s id x)
  pub with_next : (id : ℕ) → may_be_next s id ≡ true → CanBeRestored (with_next s id)

-- the first table is so
pub record MailboxesStayRestorable : Type 0 where
  pub opening : CanBeRestored no_objects
  pub calls : (s : Mailboxes) → CanBeRestored s → StayRestorable s
