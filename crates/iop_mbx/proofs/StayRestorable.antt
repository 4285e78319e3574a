-- What each call keeps of a table of mailboxes that can be put back.
use Rattle.std.proofs.Common.{◌≡◌, ℕ, ◌+◌, ◌<◌, ◌≤◌, ◌==◌, Bool, true, not, Option, Some, None, option_map, Result, List, [], ◌∷◌, ◌++◌, length, sum_by, refl, ap, sym, ◌∙◌, arith}
use Rattle.std.proofs.lemmas.Bool.{and_parts, cond_both}
use Rattle.std.proofs.lemmas.Bool.Decides.{nat_tests}
use Rattle.std.proofs.lemmas.List.{length_push}
use Rattle.std.proofs.lemmas.List.Elements.{All-nil, All-push}
use Rattle.std.proofs.lemmas.List.Filters.{sum_by-filter_both}
use Rattle.std.proofs.lemmas.List.Sums.{sum-map, sum_by_push}
use Rattle.iop_base.specs.declared.code.Code.{Code}
use Rattle.iop_queues.specs.Queue.{Choice, chooses}
use Rattle.iop_queues.specs.declared.queued.Queued.{Queued}
use Rattle.iop_objects.specs.Objects as objects
use Rattle.iop_objects.specs.Objects.{Object, no_objects, object_of, state_of, waiters_of, waiting, changes, with_state, with_waiters}
use Rattle.iop_objects.specs.declared.waiter.Waiter.{Waiter}
use Rattle.iop_objects.proofs.Chosen.{taken_by, all_but_taken, fewer_others}
use Rattle.iop_objects.proofs.EachLeft.{all_of_each, each_of_all}
use Rattle.iop_objects.proofs.Holding as table
use Rattle.iop_objects.proofs.OtherWaiters.{AreLeft, left_taken, left_without, left_requeued}
use Rattle.iop_objects.proofs.Sums.{sum_changed}
use Rattle.iop_mbx.specs.Mailboxes.{Mailbox, Mailboxes, is_attribute, messages_by_priority, with_messages, next_message, message_count, has_room, creates, deletes_it, takes_waiter, waiter_for, is_by_priority, puts_it, gets_it, gets_by}
use Rattle.iop_mbx.specs.Restoring.{can_have, empty_mailbox, IsSoundMailbox, CanBeRestored, StayRestorable, MailboxesStayRestorable}
use Rattle.iop_mbx.specs.declared.mailbox.Mailbox as declared
use Rattle.iop_mbx.specs.declared.mailboxes.TheConstants.{MOST_MESSAGES}

-- whatever waits for it
abbrev Sound : Mailbox → List (Queued (Waiter ℕ)) → Type 0
Sound x ws = IsSoundMailbox x

fewer : (x : Mailbox) (old new : List (Queued (Waiter ℕ))) → AreLeft old new → Sound x old
    → Sound x new
fewer x old new left sound = sound

-- a mailbox without messages
first : (x : declared.Mailbox) → is_attribute x.attr ≡ true → IsSoundMailbox (empty_mailbox x)
first x attribute =
    record { attribute = attribute; messages = All-nil (λ m. can_have x.attr m.priority ≡ true) }

-- how many messages an object has
abbrev part : Object Mailbox ℕ → ℕ
part o = length o.state.messages

abbrev AreSound : Mailboxes → Type 0
AreSound = table.Holds Sound

to_table : (s : Mailboxes) → AreSound s → sum_by part s.live ≤ MOST_MESSAGES → CanBeRestored s
to_table s h few = record {
  objects = h.objects;
  mailboxes = all_of_each Sound s h.objects.sound h.each;
  few = omega (arith, sum-map part s.live, few);
}

module _ (s : Mailboxes) (r : CanBeRestored s) where
  h : AreSound s
  h = record { objects = r.objects; each = each_of_all Sound s r.mailboxes }

  few : sum_by part s.live ≤ MOST_MESSAGES
  few = omega (arith, sum-map part s.live, r.few)

  -- the messages of one are others, so many more at most
  few_changed : (id : ℕ) (change : Object Mailbox ℕ → Object Mailbox ℕ) (more : ℕ)
      → ((o : Object Mailbox ℕ) → object_of s.live id ≡ Some o → part (change o) ≤ part o + more)
      → message_count s + more ≤ MOST_MESSAGES
      → sum_by part (changes s id change).live ≤ MOST_MESSAGES
  few_changed id change more grows room =
      omega (
        arith,
        sum_changed part id change more s.live r.objects.sound.ids grows,
        sum-map part s.live,
        room,
      )

  -- others wait for one
  few_waiting : (id : ℕ) (ws : List (Queued (Waiter ℕ)))
      → sum_by part (with_waiters s id ws).live ≤ MOST_MESSAGES
  few_waiting id ws =
      few_changed id (λ o. record o { waiters = ws }) 0 (λ o found. omega arith)
      (omega (arith, r.few))

  few_more : (id : ℕ) (x : declared.Mailbox)
      → sum_by part (s.live ++ record { id = id; state = empty_mailbox x; waiters = [] } ∷ [])
      ≤ MOST_MESSAGES
  few_more id x =
      let last : Object Mailbox ℕ =
      record { id = id; state = empty_mailbox x; waiters = [] } in
      omega (arith, few, sum_by_push part s.live last)

  created : (attr option : ℕ) → CanBeRestored (creates s attr option).1
  created attr option =
      cond_both (not (is_attribute attr)) _ _ (λ (t : Result ℕ Code × Mailboxes). CanBeRestored t.1)
      (λ bad. r)
      (λ good.
      let x : declared.Mailbox = record { attr = attr; option = option } in
      let attribute : is_attribute attr ≡ true = grind (arith, nat_tests, good) in
      to_table _ (table.of_creates Sound fewer s h (empty_mailbox x) (first x attribute))
      (cond_both (objects.has_room s) _ _
      (λ (t : Result ℕ Code × Mailboxes). sum_by part t.1.live ≤ MOST_MESSAGES)
      (λ room. few_more s.next x) (λ full. few)))

  deleted : (id : ℕ) (o : Option Mailbox) → CanBeRestored (deletes_it s id o).1
  deleted id None = r
  deleted id (Some x) =
      to_table _ (table.of_deletes Sound fewer s h id)
      (omega (
        arith,
        few,
        sum_by-filter_both (λ (o : Object Mailbox ℕ). o.id == id) (λ o. not (o.id == id))
            (λ o. refl) part s.live,
      ))

  left : (id : ℕ) (ws : List (Queued (Waiter ℕ))) → AreLeft (waiters_of s id) ws
      → CanBeRestored (with_waiters s id ws)
  left id ws are = to_table _ (table.of_left Sound fewer s h id ws are) (few_waiting id ws)

  taken : (id : ℕ) (b : Bool) (o : Option (Choice (Waiter ℕ)))
      → chooses b (waiters_of s id) ≡ o → CanBeRestored (objects.takes s id o).1
  taken id b None chosen = r
  taken id b (Some c) chosen =
      left id c.others (left_taken (taken_by b (waiters_of s id) c chosen))

  -- one that is live has other messages
  module _ (id : ℕ) (x : Mailbox) (known : state_of s id ≡ Some x) where
    other : (messages : List (Queued ℕ)) (more : ℕ)
        → length messages ≤ length x.messages + more → message_count s + more ≤ MOST_MESSAGES
        → IsSoundMailbox (with_messages x messages)
        → CanBeRestored (with_state s id (with_messages x messages))
    other messages more most room sound =
        to_table _ (table.of_state Sound fewer s h id (with_messages x messages) sound)
        (few_changed id (λ o. record o { state = with_messages x messages }) more
        (λ o found.
        let same : Some o.state ≡ Some x =
        sym (ap (option_map (λ (p : Object Mailbox ℕ). p.state)) found) ∙ known in
        let is : o.state ≡ x = cc in
        omega (arith, most, ap (λ (y : Mailbox). length y.messages) is))
        room)

  put : (id : ℕ) (message : Queued ℕ) (o : Option Mailbox) → state_of s id ≡ o
      → ((x : Mailbox) → state_of s id ≡ Some x → can_have x.attr message.priority ≡ true)
      → CanBeRestored (puts_it s id message o).1
  put id message None known can = r
  put id message (Some x) known can =
      cond_both (has_room s) _ _ (λ (t : Code × Mailboxes). CanBeRestored t.1)
      (λ room.
      let sound = h.each id x known in
      let less : message_count s < MOST_MESSAGES = grind (arith, nat_tests, room) in
      other id x known (x.messages ++ message ∷ []) 1
      (omega (arith, length_push x.messages message)) (omega (arith, less))
      (record {
        attribute = sound.attribute;
        messages = All-push (λ m. can_have x.attr m.priority ≡ true) x.messages message
            sound.messages (can x known);
      }))
      (λ full. r)

  got : (id : ℕ) (x : Mailbox) → state_of s id ≡ Some x → (o : Option (Choice ℕ))
      → next_message x ≡ o → CanBeRestored (gets_by s id x o).1
  got id x known None chosen = r
  got id x known (Some c) chosen =
      let sound = h.each id x known in
      let is = taken_by (messages_by_priority x.attr) x.messages c chosen in
      other id x known c.others 0 (omega (arith, fewer_others is)) (omega (arith, r.few))
      (record {
        attribute = sound.attribute;
        messages = all_but_taken (λ m. can_have x.attr m.priority ≡ true) is sound.messages;
      })

  gets : (id : ℕ) (o : Option Mailbox) → state_of s id ≡ o → CanBeRestored (gets_it s id o).1
  gets id None known = r
  gets id (Some x) known = got id x known (next_message x) refl

  taken_of : (id : ℕ) (o : Option Mailbox) → state_of s id ≡ o
      → CanBeRestored (waiter_for s o (takes_waiter s id)).1
  taken_of id None known = r
  taken_of id (Some x) known = taken id (is_by_priority s id) _ refl

  stay : StayRestorable s
  stay = record {
    creates = created;
    deletes = λ id. deleted id (state_of s id);
    takes_waiter = λ id. taken id (is_by_priority s id) _ refl;
    takes_waiter_of = λ id. taken_of id (state_of s id) refl;
    puts = λ id message priority can.
        put id (record { priority = priority; item = message }) (state_of s id) refl can;
    gets = λ id. gets id (state_of s id) refl;
    waits = λ id thread priority place room.
        to_table _ (table.of_waits Sound fewer s h id _ room (λ x known sound. sound))
        (few_waiting id _);
    drops = λ id thread. left id _ (left_without thread (waiters_of s id));
    requeues = λ id thread priority.
        left id _ (left_requeued (is_by_priority s id) thread priority (waiters_of s id));
    with_last = λ id x may.
        let both = and_parts (is_attribute x.attr) _ may in
        to_table _ (table.of_puts Sound fewer s h id (empty_mailbox x) both.1 (first x both.0))
        (few_more id x);
    with_next = λ id may. to_table _ (table.of_next Sound fewer s h id may) few;
  }

pub stay_restorable : MailboxesStayRestorable
stay_restorable = record {
  opening = to_table _ (table.of_none Sound) (omega arith);
  calls = stay;
}
