-- Mailboxes that are put back one behind the other.
use Rattle.std.proofs.Common.{◌≡◌, ℕ, ◌+◌, ◌<◌, ◌≤◌, Bool, true, false, if◌then◌else◌, Option, Some, None, option_map, option_and_then, List, [], ◌∷◌, ◌++◌, append-nil, append_assoc, length, sum_by, All, refl, ap, subst, sym, ◌∙◌, arith}
use Rattle.std.proofs.lemmas.Bool.{and_parts, eq-eqb, leb-true, lt-ltb, ne_eqb}
use Rattle.std.proofs.lemmas.List.{length_push, map_push}
use Rattle.std.proofs.lemmas.List.Elements.{All-nil, All-push, All-weaker, All-head, All-tail}
use Rattle.std.proofs.lemmas.List.Folds.{map_fixed}
use Rattle.std.proofs.lemmas.List.Sums.{sum-map, sum_by-cons, sum_by_push}
use Rattle.std.proofs.lemmas.Option.{same_Some}
use Rattle.iop_base.specs.declared.code.Code.{Code}
use Rattle.iop_base.specs.declared.code.TheConstants.Code.{OK, NO_MEMORY}
use Rattle.iop_mbx.specs.Mailboxes.{Mailbox, Mailboxes, without_messages, with_messages, message_count, has_room, puts_it}
use Rattle.iop_mbx.specs.Restoring.{IsSoundMailbox, MailboxesAreRestored, empty_mailbox, can_have, may_queue, with_message, with_messages_back, with_mailbox_back, with_mailboxes_back}
use Rattle.iop_mbx.specs.declared.mailboxes.TheConstants.{MOST_MESSAGES}
use Rattle.iop_objects.specs.Objects.{Object, no_objects, object_of, waiters_in, waiting, changes, with_state, with_waiters, waits}
use Rattle.iop_objects.specs.Restoring as objects
use Rattle.iop_objects.specs.Restoring.{may_wait, with_waiters_back, with_object_back, with_objects_back, with_next_back}
use Rattle.iop_objects.specs.declared.objects.TheConstants.{FIRST_ID}
use Rattle.iop_objects.specs.declared.waiter.Waiter.{Waiter}
use Rattle.iop_objects.proofs.Apart.{made_found}
use Rattle.iop_objects.proofs.Restored as restored
use Rattle.iop_objects.proofs.Tables.{table_of, changed}
use Rattle.iop_queues.specs.declared.queued.Queued.{Queued}

abbrev Live : Type 0
Live = Object Mailbox ℕ

abbrev Waiting : Type 0
Waiting = Queued (Waiter ℕ)

-- how many messages stand in some mailboxes
abbrev counted : List Live → ℕ
counted live = sum_by (λ o. length o.state.messages) live

abbrev awaited : List Live → ℕ
awaited live = sum_by (λ o. length o.waiters) live

-- a mailbox behind others, whose ids are lower
module _ (done : List Live) (id next : ℕ) (older : All (λ o. o.id < id) done) where
  abbrev one : Mailbox → List Waiting → Live
  one x waiters = record { id = id; state = x; waiters = waiters }

  abbrev with_one : Mailbox → List Waiting → Mailboxes
  with_one x waiters = table_of (done ++ one x waiters ∷ []) next

  module _ (x : Mailbox) (waiters : List Waiting) where
    found : object_of (with_one x waiters).live id ≡ Some (one x waiters)
    found = made_found (one x waiters) done older

    waiting_one : waiting (with_one x waiters) ≡ awaited done + length waiters
    waiting_one =
        sum-map (λ o. length o.waiters) (done ++ one x waiters ∷ [])
        ∙ sum_by_push (λ o. length o.waiters) done (one x waiters)

    messages_one : message_count (with_one x waiters) ≡ counted done + length x.messages
    messages_one =
        sum-map (λ (o : Live). length o.state.messages) (done ++ one x waiters ∷ [])
        ∙ sum_by_push (λ (o : Live). length o.state.messages) done (one x waiters)

    -- it alone changes
    module _ (change : Live → Live) where
      others_stay : All (λ o. changed id change o ≡ o) done
      others_stay =
          All-weaker (λ o. o.id < id) (λ o. changed id change o ≡ o)
          (λ o less. ap (λ b. if b then change o else o)
          (ne_eqb o.id id (λ e. omega (arith, less, e))))
          done older

      last_changes : changes (with_one x waiters) id change
          ≡ table_of (done ++ change (one x waiters) ∷ []) next
      last_changes =
          ap (λ l. table_of l next)
          (map_push (changed id change) done (one x waiters)
          ∙ ap (λ l. l ++ changed id change (one x waiters) ∷ [])
          (map_fixed (changed id change) done others_stay)
          ∙ ap (λ b. done ++ (if b then change (one x waiters) else one x waiters) ∷ [])
          (eq-eqb id id refl))

    waits_one : (y : Waiting) → waits (with_one x waiters) id y ≡ with_one x (waiters ++ y ∷ [])
    waits_one y =
        ap (λ o. with_waiters (with_one x waiters) id (waiters_in o ++ y ∷ [])) found
        ∙ last_changes (λ o. record o { waiters = waiters ++ y ∷ [] })

    module _ (m : Queued ℕ) where
      abbrev more : Mailbox
      more = with_messages x (x.messages ++ m ∷ [])

      abbrev sent : Bool → Code × Mailboxes
      sent room =
          if room then (OK, with_state (with_one x waiters) id more)
          else (NO_MEMORY, with_one x waiters)

      message_one : has_room (with_one x waiters) ≡ true
          → with_message (with_one x waiters) id m ≡ with_one more waiters
      message_one room =
          ap (λ o. (puts_it (with_one x waiters) id m (option_map (λ p. p.state) o)).1) found
          ∙ ap (λ b. (sent b).1) room ∙ last_changes (λ o. record o { state = more })

  -- messages stand in it again
  messages_back : (x : Mailbox) (waiters : List Waiting) (ms : List (Queued ℕ))
      → All (λ m. can_have x.attr m.priority ≡ true) ms
      → counted done + length x.messages + length ms ≤ MOST_MESSAGES
      → with_messages_back (with_one x waiters) id ms
      ≡ Some (with_one (with_messages x (x.messages ++ ms)) waiters)
  messages_back x waiters [] fit few =
      ap (λ l. Some (with_one (with_messages x l) waiters)) (sym (append-nil x.messages))
  messages_back x waiters (m ∷ ms) fit few =
      let less : message_count (with_one x waiters) < MOST_MESSAGES =
      omega (arith, messages_one x waiters, few) in
      let room : has_room (with_one x waiters) ≡ true =
      lt-ltb (message_count (with_one x waiters)) MOST_MESSAGES less in
      let own : can_have x.attr m.priority ≡ true =
      All-head (λ (m : Queued ℕ). can_have x.attr m.priority ≡ true) m ms fit in
      let may : may_queue (with_one x waiters) id m.priority ≡ true =
      rw (found x waiters, own, room) refl in
      rw may
      (ap (λ s. with_messages_back s id ms) (message_one x waiters m room)
      ∙ messages_back (more x waiters m) waiters ms
      (All-tail (λ (m : Queued ℕ). can_have x.attr m.priority ≡ true) m ms fit)
      (omega (arith, few, length_push x.messages m))
      ∙ ap (λ l. Some (with_one (with_messages x l) waiters))
      (append_assoc x.messages (m ∷ []) ms))

  -- whether a thread may wait for it does not depend on its messages
  may_wait-one : (x y : Mailbox) (waiters : List Waiting)
      → may_wait (with_one x waiters) id ≡ may_wait (with_one y waiters) id
  may_wait-one x y waiters =
      let same : waiting (with_one x waiters) ≡ waiting (with_one y waiters) =
      waiting_one x waiters ∙ sym (waiting_one y waiters) in
      rw (found x waiters, found y waiters, same) refl

  -- threads wait for it again, before its messages stand in it or after
  module _ (x : Mailbox) (sound : IsSoundMailbox x)
      (few : counted done + length x.messages ≤ MOST_MESSAGES) where
    abbrev empty : Mailbox
    empty = empty_mailbox (without_messages x)

    abbrev filled : Option Mailboxes → Option Mailboxes
    filled r = option_and_then (λ t. with_messages_back t id x.messages) r

    both_back : (waiters ys : List Waiting)
        → filled (with_waiters_back (with_one empty waiters) id ys)
        ≡ with_waiters_back (with_one x waiters) id ys
    both_back waiters [] =
        messages_back empty waiters x.messages sound.messages (omega (arith, few))
    both_back waiters (y ∷ ys) =
        ap (λ b. filled (if b
        then with_waiters_back (waits (with_one empty waiters) id y) id ys else None))
        (may_wait-one empty x waiters)
        ∙ either (both_back (waiters ++ y ∷ []) ys) (may_wait (with_one x waiters) id)
      where
        either : filled (with_waiters_back (with_one empty (waiters ++ y ∷ [])) id ys)
            ≡ with_waiters_back (with_one x (waiters ++ y ∷ [])) id ys
            → (may : Bool)
            → filled (if may
            then with_waiters_back (waits (with_one empty waiters) id y) id ys else None)
            ≡ (if may then with_waiters_back (waits (with_one x waiters) id y) id ys else None)
        either same true =
            ap (λ s. filled (with_waiters_back s id ys)) (waits_one empty waiters y) ∙ same
            ∙ ap (λ s. with_waiters_back s id ys) (sym (waits_one x waiters y))
        either same false = refl

  -- what is left then
  waiters_left : (x : Mailbox) (waiters ys : List Waiting) (t : Mailboxes)
      → with_waiters_back (with_one x waiters) id ys ≡ Some t → with_one x (waiters ++ ys) ≡ t
  waiters_left x waiters [] t is =
      ap (with_one x) (append-nil waiters) ∙ same_Some (with_one x waiters) t is
  waiters_left x waiters (y ∷ ys) t is =
      ap (with_one x) (sym (append_assoc waiters (y ∷ []) ys))
      ∙ either (waiters_left x (waiters ++ y ∷ []) ys t) (may_wait (with_one x waiters) id) is
    where
      either : (with_waiters_back (with_one x (waiters ++ y ∷ [])) id ys ≡ Some t
          → with_one x ((waiters ++ y ∷ []) ++ ys) ≡ t)
          → (may : Bool)
          → (if may then with_waiters_back (waits (with_one x waiters) id y) id ys else None)
          ≡ Some t
          → with_one x ((waiters ++ y ∷ []) ++ ys) ≡ t
      either later true back =
          later (ap (λ s. with_waiters_back s id ys) (sym (waits_one x waiters y)) ∙ back)
      either later false none = cc

-- the ids are below the next one
abbrev AreGiven : Mailboxes → Type 0
AreGiven s = All (λ o. o.id < s.next) s.live

-- a mailbox behind all others
module _ (s : Mailboxes) (o : Live) (given : AreGiven s) where
  older : objects.may_follow s o.id ≡ true → All (λ p. p.id < o.id) s.live
  older follows =
      let behind : s.next ≤ o.id = leb-true _ _ (and_parts _ _ (and_parts _ _ follows).0).0 in
      All-weaker (λ (p : Live). p.id < s.next) (λ p. p.id < o.id)
      (λ p less. omega (arith, less, behind)) s.live given

  mailbox_back : IsSoundMailbox o.state
      → counted s.live + length o.state.messages ≤ MOST_MESSAGES
      → with_mailbox_back s o ≡ with_object_back s o
  mailbox_back sound few = rw sound.attribute (either (objects.may_follow s o.id) refl)
    where
      either : (may : Bool) → objects.may_follow s o.id ≡ may
          → (if may
          then option_and_then (λ t. with_messages_back t o.id o.state.messages)
          (with_waiters_back (objects.with_last s o.id
          (empty_mailbox (without_messages o.state))) o.id o.waiters)
          else None)
          ≡ (if may
          then with_waiters_back (objects.with_last s o.id o.state) o.id o.waiters else None)
      either true follows =
          both_back s.live o.id (o.id + 1) (older follows) o.state sound few [] o.waiters
      either false follows = refl

  left : (t : Mailboxes) → with_object_back s o ≡ Some t
      → AreGiven t × (counted t.live ≡ counted s.live + length o.state.messages)
  left t back = either (objects.may_follow s o.id) refl back
    where
      either : (may : Bool) → objects.may_follow s o.id ≡ may
          → (if may then with_waiters_back (objects.with_last s o.id o.state) o.id o.waiters
          else None) ≡ Some t
          → AreGiven t × (counted t.live ≡ counted s.live + length o.state.messages)
      either true follows is =
          let same = waiters_left s.live o.id (o.id + 1) (older follows) o.state [] o.waiters t is in
          subst (λ u. AreGiven u × (counted u.live ≡ counted s.live + length o.state.messages)) same (
            All-push (λ (p : Live). p.id < o.id + 1) s.live o
                (All-weaker (λ (p : Live). p.id < o.id) (λ p. p.id < o.id + 1)
                (λ p less. omega (arith, less)) s.live (older follows))
                (omega arith),
            sum_by_push (λ (p : Live). length p.state.messages) s.live o,
          )
      either false follows none = cc

mailboxes_back : (s : Mailboxes) (os : List Live) → AreGiven s
    → All (λ o. IsSoundMailbox o.state) os → counted s.live + counted os ≤ MOST_MESSAGES
    → with_mailboxes_back s os ≡ with_objects_back s os
mailboxes_back s [] given sound few = refl
mailboxes_back s (o ∷ os) given sound few =
    let more = sum_by-cons (λ (p : Live). length p.state.messages) o os in
    ap (option_and_then (λ t. with_mailboxes_back t os))
    (mailbox_back s o given (All-head (λ (p : Live). IsSoundMailbox p.state) o os sound)
    (omega (arith, few, more)))
    ∙ each
    (λ t back. mailboxes_back t os (left s o given t back).0
    (All-tail (λ (p : Live). IsSoundMailbox p.state) o os sound)
    (omega (arith, few, more, (left s o given t back).1)))
    (with_object_back s o) refl
  where
    each : ((t : Mailboxes) → with_object_back s o ≡ Some t
        → with_mailboxes_back t os ≡ with_objects_back t os)
        → (r : Option Mailboxes) → with_object_back s o ≡ r
        → option_and_then (λ t. with_mailboxes_back t os) r
        ≡ option_and_then (λ t. with_objects_back t os) r
    each later None back = refl
    each later (Some t) back = later t back

pub are_restored : MailboxesAreRestored
are_restored s h =
    ap (option_and_then (λ t. with_next_back t s.next))
    (mailboxes_back no_objects s.live (All-nil (λ (o : Live). o.id < FIRST_ID)) h.mailboxes
    (omega (arith, h.few, sum-map (λ (o : Live). length o.state.messages) s.live)))
    ∙ restored.are_restored s h.objects
