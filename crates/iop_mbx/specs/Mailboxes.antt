-- Mailboxes (ps2sdk: thmsgbx.h; the codes are those of its kerr.h). Which attributes are accepted,
-- and how many messages can stand, is this project's own profile.
use Rattle.std.specs.Prelude.{ℕ, ◌==◌, nat_lt, Bool, false, not, if◌then◌else◌, Option, Some, None, Result, Ok, Err, option_map, unwrap_or, List, [], ◌∷◌, ◌++◌, length, map, sum, bit_and, bit_or}
use Rattle.iop_base.specs.declared.code.Code.{Code}
use Rattle.iop_base.specs.declared.code.TheConstants.Code.{OK, NO_MEMORY, ILLEGAL_ATTRIBUTE, UNKNOWN_MAILBOX, NO_MESSAGE}
use Rattle.iop_mbx.specs.declared.mailbox.Mailbox as declared
use Rattle.iop_mbx.specs.declared.mailbox.TheConstants.{WAITERS_BY_PRIORITY, MESSAGES_BY_PRIORITY}
use Rattle.iop_mbx.specs.declared.mailboxes.TheConstants.{MOST_MESSAGES}
use Rattle.iop_objects.specs.Objects as objects
use Rattle.iop_objects.specs.Objects.{Objects, state_of, with_state, takes_next}
use Rattle.iop_queues.specs.Queue.{Choice, chooses}
use Rattle.iop_queues.specs.declared.queued.Queued.{Queued}
use Rattle.iop_objects.specs.declared.waiter.Waiter.{Waiter}

-- what is known of a mailbox
pub record Mailbox : Type 0 where
  pub attr : ℕ
  pub option : ℕ
  -- its messages, each the address that was sent, in order of their arrival
  pub messages : List (Queued ℕ)

-- the mailboxes that are live; a waiter asks for a message at a guest's address
abbrev pub Mailboxes : Type 0
Mailboxes = Objects Mailbox ℕ

abbrev pub is_attribute : ℕ → Bool
is_attribute attr = bit_and attr (bit_or WAITERS_BY_PRIORITY MESSAGES_BY_PRIORITY) == attr

-- whether the threads that wait for it are chosen by their priority
abbrev pub waiters_by_priority : ℕ → Bool
waiters_by_priority attr = not (bit_and attr WAITERS_BY_PRIORITY == 0)

-- whether its messages are received by their priority
abbrev pub messages_by_priority : ℕ → Bool
messages_by_priority attr = not (bit_and attr MESSAGES_BY_PRIORITY == 0)

-- all of it but the messages
abbrev pub without_messages : Mailbox → declared.Mailbox
without_messages x = record { attr = x.attr; option = x.option }

abbrev pub with_messages : Mailbox → List (Queued ℕ) → Mailbox
with_messages x messages = record x { messages = messages }

-- the message that is received next, and the others
abbrev pub next_message : Mailbox → Option (Choice ℕ)
next_message x = chooses (messages_by_priority x.attr) x.messages

module _ (s : Mailboxes) where
  abbrev pub is_by_priority : ℕ → Bool
  is_by_priority id =
      unwrap_or (option_map (λ x. waiters_by_priority x.attr) (state_of s id)) false

  -- the messages of the mailbox of an id
  abbrev pub messages_of : ℕ → List (Queued ℕ)
  messages_of id = unwrap_or (option_map (λ x. x.messages) (state_of s id)) []

  -- how many messages stand in all mailboxes together
  abbrev pub message_count : ℕ
  message_count = sum (map (λ o. length o.state.messages) s.live)

  -- whether one more message can be queued
  abbrev pub has_room : Bool
  has_room = nat_lt message_count MOST_MESSAGES

  -- a mailbox is made
  abbrev pub creates : (attr option : ℕ) → Result ℕ Code × Mailboxes
  creates attr option =
      if not (is_attribute attr) then (Err ILLEGAL_ATTRIBUTE, s)
      else objects.creates s (record { attr = attr; option = option; messages = [] })

  -- a mailbox is deleted, with its messages
  abbrev pub deletes_it : ℕ → Option Mailbox → Code × Mailboxes
  deletes_it id None = (UNKNOWN_MAILBOX, s)
  deletes_it id (Some x) = (OK, objects.deletes s id)

  abbrev pub deletes : ℕ → Code × Mailboxes
  deletes id = deletes_it id (state_of s id)

  -- the thread that is next among those that wait for a mailbox waits no more
  abbrev pub takes_waiter : ℕ → Option (Waiter ℕ) × Mailboxes
  takes_waiter id = takes_next s id (is_by_priority id)

  abbrev pub waiter_for : Option Mailbox → Option (Waiter ℕ) × Mailboxes
      → Result (Option (Waiter ℕ)) Code × Mailboxes
  waiter_for None taken = (Err UNKNOWN_MAILBOX, s)
  waiter_for (Some x) (waiter, left) = (Ok waiter, left)

  abbrev pub takes_waiter_of : ℕ → Result (Option (Waiter ℕ)) Code × Mailboxes
  takes_waiter_of id = waiter_for (state_of s id) (takes_waiter id)

  -- a message is queued
  abbrev pub puts_it : ℕ → Queued ℕ → Option Mailbox → Code × Mailboxes
  puts_it id message None = (UNKNOWN_MAILBOX, s)
  puts_it id message (Some x) =
      if has_room
      then (OK, with_state s id (with_messages x (x.messages ++ message ∷ [])))
      else (NO_MEMORY, s)

  abbrev pub puts : (id message priority : ℕ) → Code × Mailboxes
  puts id message priority =
      puts_it id (record { priority = priority; item = message }) (state_of s id)

  -- the next message is received
  abbrev pub gets_by : ℕ → Mailbox → Option (Choice ℕ) → Result ℕ Code × Mailboxes
  gets_by id x None = (Err NO_MESSAGE, s)
  gets_by id x (Some c) = (Ok c.one.item, with_state s id (with_messages x c.others))

  abbrev pub gets_it : ℕ → Option Mailbox → Result ℕ Code × Mailboxes
  gets_it id None = (Err UNKNOWN_MAILBOX, s)
  gets_it id (Some x) = gets_by id x (next_message x)

  abbrev pub gets : ℕ → Result ℕ Code × Mailboxes
  gets id = gets_it id (state_of s id)

  -- a thread waits for a message, which is to be written to a guest's address
  abbrev pub waits : (id thread priority place : ℕ) → Mailboxes
  waits id thread priority place =
      objects.waits s id
      (record { priority = priority; item = record { thread = thread; wants = place } })
