-- What the law of mailboxes says.
use Rattle.std.specs.Prelude.{◌≡◌, ◌≢◌, ◌↔◌, ℕ, ◌<◌, true, false, Some, None, Ok, List, [], ◌∷◌, ◌++◌}
use Rattle.iop_base.specs.declared.code.TheConstants.Code.{OK}
use Rattle.iop_mbx.specs.Mailboxes.{Mailbox, Mailboxes, messages_by_priority, waiters_by_priority, message_count, takes_waiter, takes_waiter_of, puts, gets}
use Rattle.iop_mbx.specs.declared.mailboxes.TheConstants.{MOST_MESSAGES}
use Rattle.iop_queues.specs.Laws.{IsBest, IsTaken}
use Rattle.iop_objects.specs.Objects.{state_of, waiters_of}
use Rattle.iop_queues.specs.Queue.{Choice, chooses}
use Rattle.iop_queues.specs.declared.queued.Queued.{Queued}
use Rattle.iop_objects.specs.declared.waiter.Waiter.{Waiter}

-- a message that was queued before others and behind others is received, and all others stay
pub record IsReceived (s : Mailboxes) (id : ℕ) (x : Mailbox) (message : ℕ) : Type 0 where
  pub choice : Choice ℕ
  pub queued : IsTaken x.messages choice
  pub message_is : message ≡ choice.one.item
  pub left : state_of (gets s id).1 id ≡ Some (record x { messages = choice.others })
  -- by arrival it is the first
  pub first : messages_by_priority x.attr ≡ false → x.messages ≡ choice.one ∷ choice.others
  -- by priority it is the first among those of the least number
  pub best : messages_by_priority x.attr ≡ true → IsBest x.messages choice

-- what is sent is queued behind all others, with its priority; all else of the mailbox stays
pub record IsSent (s : Mailboxes) (id : ℕ) (x : Mailbox) (message priority : ℕ) : Type 0 where
  pub messages : List (Queued ℕ)
  pub left : state_of (puts s id message priority).1 id ≡ Some (record x { messages = messages })
  pub queued : messages ≡ x.messages ++ record { priority = priority; item = message } ∷ []

-- a thread that is taken is the next among those that wait, and the mailbox is as it was
pub record TakesNext (s : Mailboxes) (id : ℕ) (x : Mailbox) (waiter : Waiter ℕ) : Type 0 where
  pub choice : Choice (Waiter ℕ)
  pub is_next : chooses (waiters_by_priority x.attr) (waiters_of s id) ≡ Some choice
  pub taken : waiter ≡ choice.one.item
  pub others : waiters_of (takes_waiter s id).1 id ≡ choice.others
  pub same : state_of (takes_waiter s id).1 id ≡ Some x

pub record MailboxKeeps (s : Mailboxes) (id : ℕ) (x : Mailbox) : Type 0 where
  pub received : (message : ℕ) → (gets s id).0 ≡ Ok message → IsReceived s id x message
  -- one is received exactly where there is one
  pub receives : ((message : ℕ) × ((gets s id).0 ≡ Ok message)) ↔ (x.messages ≢ [])
  pub sent : (message priority : ℕ) → (puts s id message priority).0 ≡ OK
      → IsSent s id x message priority
  -- one is sent exactly where there is room
  pub sends : (message priority : ℕ)
      → ((puts s id message priority).0 ≡ OK) ↔ (message_count s < MOST_MESSAGES)
  pub taken : (waiter : Waiter ℕ) → (takes_waiter s id).0 ≡ Some waiter → TakesNext s id x waiter
  -- none is taken only where none waits
  pub none_taken : (takes_waiter s id).0 ≡ None → waiters_of s id ≡ []
  pub answered : takes_waiter_of s id ≡ (Ok (takes_waiter s id).0, (takes_waiter s id).1)

abbrev pub MailboxesKeep : Type 0
MailboxesKeep =
    (s : Mailboxes) (id : ℕ) (x : Mailbox) → state_of s id ≡ Some x → MailboxKeeps s id x
