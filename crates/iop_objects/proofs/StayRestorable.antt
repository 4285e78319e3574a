-- What each call keeps of a table that can be put back.
use Rattle.std.proofs.Common.{◌≡◌, ℕ, ◌+◌, ◌<◌, ◌≤◌, ◌==◌, ◌&&◌, Bool, true, false, not, Option, Some, None, List, [], ◌∷◌, ◌++◌, length, sum_by, refl, ap, arith}
use Rattle.std.specs.Prelude.{nat_le}
use Rattle.std.proofs.lemmas.Bool.{and_parts, leb-true, ltb-true}
use Rattle.std.proofs.lemmas.List.{length_push}
use Rattle.std.proofs.lemmas.List.Elements.{All-weaker}
use Rattle.std.proofs.lemmas.List.Filters.{sum_by-filter_both}
use Rattle.std.proofs.lemmas.List.Sums.{sum-map, sum_by_push}
use Rattle.iop_base.specs.declared.limits.TheConstants.{LAST_ID}
use Rattle.iop_queues.specs.Laws.{IsTaken}
use Rattle.iop_queues.specs.Queue.{Choice}
use Rattle.iop_queues.specs.declared.queued.Queued.{Queued}
use Rattle.iop_queues.proofs.Choosing.{first_where}
use Rattle.iop_objects.specs.Objects.{Object, Objects, object_of, waiters_in, waiters_of, waiting, has_room, creates, deletes, takes, changes, with_waiters}
use Rattle.iop_objects.specs.Restoring.{may_follow, with_last, with_next, IsRestorable, StayRestorable, ObjectsStayRestorable}
use Rattle.iop_objects.specs.declared.objects.TheConstants.{MOST_WAITERS}
use Rattle.iop_objects.specs.declared.waiter.Waiter.{Waiter}
use Rattle.iop_objects.proofs.Apart.{changes_one, makes_one}
use Rattle.iop_objects.proofs.Chosen.{taken_by, next_taken}
use Rattle.iop_objects.proofs.KeptApart.{keep_apart}
use Rattle.iop_objects.proofs.Sums.{sum_changed}
use Rattle.iop_objects.proofs.OtherWaiters.{AreLeft, left_taken, left_without, left_requeued}

module _ {A W : Type 0} where
  abbrev of_one : Object A W → ℕ
  of_one o = length o.waiters

  -- how many wait for some objects
  abbrev counted : List (Object A W) → ℕ
  counted live = sum_by of_one live

  -- an object more, for which no thread waits
  counted_more : (live : List (Object A W)) (id : ℕ) (state : A)
      → counted (live ++ record { id = id; state = state; waiters = [] } ∷ []) ≡ counted live
  counted_more live id state =
      omega (arith, sum_by_push of_one live (record { id = id; state = state; waiters = [] }))

module _ {A W : Type 0} (s : Objects A W) (h : IsRestorable s) where
  few_counted : counted s.live ≤ MOST_WAITERS
  few_counted = omega (arith, sum-map of_one s.live, h.few)

  few_of : (t : Objects A W) → counted t.live ≤ MOST_WAITERS → waiting t ≤ MOST_WAITERS
  few_of t few = omega (arith, sum-map of_one t.live, few)

  -- an object changes, for which so many more wait at most
  changes_few : (id : ℕ) (change : Object A W → Object A W) (more : ℕ)
      → ((o : Object A W) → (change o).id ≡ o.id)
      → ((o : Object A W) → object_of s.live id ≡ Some o → of_one (change o) ≤ of_one o + more)
      → waiting s + more ≤ MOST_WAITERS → IsRestorable (changes s id change)
  changes_few id change more keeps most room = record {
    sound = (changes_one id change keeps s h.sound).change.change.sound;
    few = few_of (changes s id change)
        (omega (
          arith,
          sum_changed of_one id change more s.live h.sound.ids most,
          room,
          sum-map of_one s.live,
        ));
  }

  pub changes_stay : (id : ℕ) (change : Object A W → Object A W)
      → ((o : Object A W) → (change o).id ≡ o.id)
      → ((o : Object A W) → (change o).waiters ≡ o.waiters) → IsRestorable (changes s id change)
  changes_stay id change keeps waits_on =
      changes_few id change 0 keeps (λ o found. omega (arith, ap length (waits_on o)))
      (omega (arith, h.few))

  awaited : (id : ℕ) (waiters : List (Queued (Waiter W))) (more : ℕ)
      → length waiters ≤ length (waiters_of s id) + more → waiting s + more ≤ MOST_WAITERS
      → IsRestorable (with_waiters s id waiters)
  awaited id waiters more most room =
      changes_few id (λ o. record o { waiters = waiters }) more (λ o. refl)
      (λ o found. let was = ap (λ p. length (waiters_in p)) found in omega (arith, most, was))
      room

  pub left_stay : (id : ℕ) (waiters : List (Queued (Waiter W))) → AreLeft (waiters_of s id) waiters
      → IsRestorable (with_waiters s id waiters)
  left_stay id waiters are = awaited id waiters 0 (omega (arith, are.most)) (omega (arith, h.few))

  chosen : (id : ℕ) (o : Option (Choice (Waiter W)))
      → ((c : Choice (Waiter W)) → o ≡ Some c → IsTaken (waiters_of s id) c)
      → IsRestorable (takes s id o).1
  chosen id None taken = h
  chosen id (Some c) taken = left_stay id c.others (left_taken (taken c refl))

  -- the next id is a later one
  next_put : (id : ℕ) → s.next ≤ id → id ≤ LAST_ID + 1 → IsRestorable (with_next s id)
  next_put id later last = record {
    sound = record {
      ids = h.sound.ids;
      first = h.sound.first;
      given = All-weaker (λ o. o.id < s.next) (λ o. o.id < id) (λ o less. omega (arith, less, later))
          s.live h.sound.given;
      few = h.sound.few;
      next_first = omega (arith, h.sound.next_first, later);
      next_last = last;
    };
    few = h.few;
  }

  few_made : (state : A) (b : Bool) → has_room s ≡ b → waiting (creates s state).1 ≤ MOST_WAITERS
  few_made state true is =
      let few = few_of (with_last s s.next state)
      (omega (arith, counted_more s.live s.next state, few_counted)) in
      rw is few
  few_made state false is = rw is h.few

  -- an object is put back, behind all others
  put : (id : ℕ) (state : A) → may_follow s id ≡ true → IsRestorable (with_last s id state)
  put id state may =
      let ahead = and_parts (nat_le s.next id && nat_le id LAST_ID) _ may in
      let order = and_parts (nat_le s.next id) (nat_le id LAST_ID) ahead.0 in
      let later = leb-true s.next id order.0 in
      let last = leb-true id LAST_ID order.1 in
      let before = next_put id later (omega (arith, last)) in
      record {
        sound = (makes_one (record { id = id; state = state; waiters = [] }) (with_next s id)
            before.sound refl (ltb-true _ _ ahead.1) last).change.sound;
        few = few_of (with_last s id state)
            (omega (arith, counted_more s.live id state, few_counted));
      }

  stay : StayRestorable s
  stay =
      let apart = keep_apart.calls s h.sound in
      record {
        creates = λ state. record {
          sound = (apart.creates state).change.change.sound;
          few = few_made state (has_room s) refl;
        };
        deletes = λ id. record {
          sound = (apart.deletes id).change.change.change.sound;
          few = few_of (deletes s id) (omega (
            arith,
            few_counted,
            sum_by-filter_both (λ o. o.id == id) (λ o. not (o.id == id)) (λ o. refl) of_one
                s.live,
          ));
        };
        with_state = λ id state.
            changes_stay id (λ o. record o { state = state }) (λ o. refl) (λ o. refl);
        waits = λ room id waiter.
            awaited id _ 1 (omega (arith, length_push (waiters_of s id) waiter))
            (omega (arith, room));
        takes_next = λ id by_priority.
            chosen id _ (taken_by by_priority (waiters_of s id));
        takes_where = λ id p. chosen id _ (λ c is. (first_where p (waiters_of s id) c is).taken);
        takes_next_where = λ id by_priority p.
            chosen id _ (next_taken p by_priority (waiters_of s id));
        drops = λ id thread. left_stay id _ (left_without thread (waiters_of s id));
        requeues = λ id by_priority thread priority.
            left_stay id _ (left_requeued by_priority thread priority (waiters_of s id));
        with_last = put;
        with_next = λ id may.
            let order = and_parts (nat_le s.next id) _ may in
            next_put id (leb-true s.next id order.0) (leb-true id (LAST_ID + 1) order.1);
      }

pub stay_restorable : {A W : Type 0} → ObjectsStayRestorable A W
stay_restorable = record {
  opening = record { sound = keep_apart.opening; few = omega arith };
  calls = stay;
}
