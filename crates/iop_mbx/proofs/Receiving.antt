-- What is received was queued, and what is sent is queued behind all others.
use Rattle.std.proofs.Common.{◌≡◌, ◌≢◌, ℕ, ◌<◌, Bool, true, false, if◌then◌else◌, pos, negsuc, Option, Some, None, Ok, List, [], ◌∷◌, ◌++◌, refl, ap, sym, ◌∙◌, arith}
use Rattle.std.proofs.lemmas.Bool.Decides.{nat_tests}
use Rattle.iop_base.specs.declared.code.Code.{Code}
use Rattle.iop_base.specs.declared.code.TheConstants.Code.{OK, NO_MEMORY}
use Rattle.iop_queues.specs.Laws.{IsTaken}
use Rattle.iop_objects.specs.Objects.{state_of, waiters_of, with_state, with_waiters}
use Rattle.iop_objects.specs.Objects as objects
use Rattle.iop_queues.specs.Queue.{Choice, chooses, chooses_first}
use Rattle.iop_queues.specs.declared.queued.Queued.{Queued}
use Rattle.iop_objects.specs.declared.waiter.Waiter.{Waiter}
use Rattle.iop_objects.proofs.Changes.{state_of-with_state, state_of-with_waiters, waiters_of-with_waiters}
use Rattle.iop_queues.proofs.Choosing.{queues_chosen}
use Rattle.iop_mbx.specs.Laws.{IsReceived, IsSent, TakesNext, MailboxKeeps}
use Rattle.iop_mbx.specs.Mailboxes.{Mailbox, Mailboxes, messages_by_priority, waiters_by_priority, is_by_priority, message_count, next_message, with_messages, has_room, gets, gets_by, gets_it, puts, puts_it, takes_waiter, waiter_for}
use Rattle.iop_mbx.specs.declared.mailboxes.TheConstants.{MOST_MESSAGES}

first_chosen : (queue : List (Queued ℕ)) (c : Choice ℕ) → chooses_first queue ≡ Some c
    → queue ≡ c.one ∷ c.others
first_chosen [] c e = cc
first_chosen (x ∷ xs) c e =
    let is : record { one = x; others = xs } ≡ c = cc in
    ap (λ (d : Choice ℕ). d.one ∷ d.others) is

-- what is chosen stood between others
taken_of : (by_priority : Bool) (queue : List (Queued ℕ)) (c : Choice ℕ)
    → chooses by_priority queue ≡ Some c → IsTaken queue c
taken_of true queue c e = (queues_chosen.by_priority queue c e).taken
taken_of false queue c e = record {
  before = [];
  behind = c.others;
  queue_is = first_chosen queue c e;
  others_are = refl;
}

module _ (s : Mailboxes) (id : ℕ) (x : Mailbox) (live : state_of s id ≡ Some x) where
  gets-live : (c : Option (Choice ℕ)) → next_message x ≡ c → gets s id ≡ gets_by s id x c
  gets-live c e = ap (gets_it s id) live ∙ ap (gets_by s id x) e

  received : (c : Option (Choice ℕ)) → next_message x ≡ c → (message : ℕ)
      → (gets s id).0 ≡ Ok message → IsReceived s id x message
  received None e message got = let answer = ap (λ r. r.0) (gets-live None e) in cc
  received (Some c) e message got =
      let answer = ap (λ r. r.0) (gets-live (Some c) e) in
      record {
        choice = c;
        queued = taken_of (messages_by_priority x.attr) x.messages c e;
        message_is = cc;
        left =
            ap (λ r. state_of r.1 id) (gets-live (Some c) e)
            ∙ state_of-with_state s id x live (with_messages x c.others);
        first =
            λ by_arrival. first_chosen x.messages c
            (sym (ap (λ b. chooses b x.messages) by_arrival) ∙ e);
        best =
            λ by_priority. queues_chosen.by_priority x.messages c
            (sym (ap (λ b. chooses b x.messages) by_priority) ∙ e);
      }

  abbrev Receives : Type 0
  Receives = (message : ℕ) × ((gets s id).0 ≡ Ok message)

  no_message : (c : Option (Choice ℕ)) → next_message x ≡ c → x.messages ≡ [] → Receives → ⊥
  no_message None e none got =
      let answer = ap (λ r. r.0) (gets-live None e) in
      let is = got.1 in cc
  no_message (Some c) e none got =
      let chosen : chooses (messages_by_priority x.attr) [] ≡ Some c =
      ap (chooses (messages_by_priority x.attr)) (sym none) ∙ e in
      from_empty (messages_by_priority x.attr) c chosen
    where
      from_empty : (by_priority : Bool) (c : Choice ℕ) → chooses by_priority [] ≡ Some c → ⊥
      from_empty true c e = cc
      from_empty false c e = cc

  receives : (c : Option (Choice ℕ)) → next_message x ≡ c → x.messages ≢ [] → Receives
  receives None e some =
      absurd (some (queues_chosen.empty (messages_by_priority x.attr) x.messages e))
  receives (Some c) e some = (c.one.item, ap (λ r. r.0) (gets-live (Some c) e))

  module _ (message priority : ℕ) where
    abbrev with_one : Mailbox
    with_one = with_messages x (x.messages ++ record { priority = priority; item = message } ∷ [])

    abbrev puts-by : Bool → Type 0
    puts-by room =
        puts s id message priority
        ≡ (if room then (OK, with_state s id with_one) else (NO_MEMORY, s))

    refused : puts-by false → (puts s id message priority).0 ≡ OK → ⊥
    refused e put =
        let number : negsuc 399 ≡ pos 0 = ap (λ (c : Code). c.0) (sym (ap (λ r. r.0) e) ∙ put) in cc

    sent : (room : Bool) → puts-by room → (puts s id message priority).0 ≡ OK
        → IsSent s id x message priority
    sent true e put = record {
      messages = with_one.messages;
      left = ap (λ r. state_of r.1 id) e ∙ state_of-with_state s id x live with_one;
      queued = refl;
    }
    sent false e put = absurd (refused e put)

    sends_into : (room : Bool) → has_room s ≡ room → puts-by room
        → (puts s id message priority).0 ≡ OK → message_count s < MOST_MESSAGES
    sends_into true is e put = grind (arith, nat_tests, is)
    sends_into false is e put = absurd (refused e put)

    sends_where : (room : Bool) → has_room s ≡ room → puts-by room
        → message_count s < MOST_MESSAGES → (puts s id message priority).0 ≡ OK
    sends_where true is e less = ap (λ r. r.0) e
    sends_where false is e less =
        let never : ⊥ = grind (arith, nat_tests, is, less) in absurd never

    puts-live : puts-by (has_room s)
    puts-live = ap (puts_it s id (record { priority = priority; item = message })) live

  -- the waiters are chosen as the mailbox says
  takes_waiter-live : (c : Option (Choice (Waiter ℕ)))
      → chooses (waiters_by_priority x.attr) (waiters_of s id) ≡ c
      → takes_waiter s id ≡ objects.takes s id c
  takes_waiter-live c e =
      let by : is_by_priority s id ≡ waiters_by_priority x.attr = rw live refl in
      ap (λ b. objects.takes s id (chooses b (waiters_of s id))) by ∙ ap (objects.takes s id) e

  taken : (c : Option (Choice (Waiter ℕ)))
      → chooses (waiters_by_priority x.attr) (waiters_of s id) ≡ c
      → (waiter : Waiter ℕ) → (takes_waiter s id).0 ≡ Some waiter → TakesNext s id x waiter
  taken None e waiter got = let answer = ap (λ r. r.0) (takes_waiter-live None e) in cc
  taken (Some c) e waiter got =
      let took = takes_waiter-live (Some c) e in
      let answer = ap (λ r. r.0) took in
      record {
        choice = c;
        is_next = e;
        taken = cc;
        others = ap (λ r. waiters_of r.1 id) took ∙ waiters_of-with_waiters s id x live c.others;
        same = ap (λ r. state_of r.1 id) took ∙ state_of-with_waiters s id x live c.others;
      }

  none_taken : (c : Option (Choice (Waiter ℕ)))
      → chooses (waiters_by_priority x.attr) (waiters_of s id) ≡ c
      → (takes_waiter s id).0 ≡ None → waiters_of s id ≡ []
  none_taken None e none =
      queues_chosen.empty (waiters_by_priority x.attr) (waiters_of s id) e
  none_taken (Some c) e none = let answer = ap (λ r. r.0) (takes_waiter-live (Some c) e) in cc

  pub mailbox_keeps : MailboxKeeps s id x
  mailbox_keeps = record {
    received = received (next_message x) refl;
    receives = (
      λ got none. no_message (next_message x) refl none got,
      receives (next_message x) refl,
    );
    sent = λ message priority. sent message priority (has_room s) (puts-live message priority);
    sends = λ message priority. (
      sends_into message priority (has_room s) refl (puts-live message priority),
      sends_where message priority (has_room s) refl (puts-live message priority),
    );
    taken = taken (chooses (waiters_by_priority x.attr) (waiters_of s id)) refl;
    none_taken = none_taken (chooses (waiters_by_priority x.attr) (waiters_of s id)) refl;
    answered = ap (λ o. waiter_for s o (takes_waiter s id)) live;
  }
