-- Objects that are put back one behind the other.
use Rattle.std.proofs.Common.{◌≡◌, ℕ, zero, suc, ◌+◌, ◌<◌, ◌≤◌, true, if◌then◌else◌, is_some, Option, Some, None, option_map, option_and_then, List, [], ◌∷◌, ◌++◌, append-nil, append_assoc, length, sum_by, All, AllPairs, refl, ap, sym, ◌∙◌, arith}
use Rattle.std.specs.Prelude.{nat_lt, nat_le}
use Rattle.std.proofs.lemmas.Bool.{eq-eqb, ne_eqb}
use Rattle.std.proofs.lemmas.Bool.Decides.{nat_tests}
use Rattle.std.proofs.lemmas.List.{length_push, map_push}
use Rattle.std.proofs.lemmas.List.Elements.{All-nil, All-push, All-weaker, All-head, All-tail}
use Rattle.std.proofs.lemmas.List.Folds.{map_fixed}
use Rattle.std.proofs.lemmas.List.Sums.{sum-map, sum_by-cons, sum_by_push}
use Rattle.iop_base.specs.declared.limits.TheConstants.{LAST_ID}
use Rattle.iop_queues.specs.declared.queued.Queued.{Queued}
use Rattle.iop_objects.specs.Objects.{Object, Objects, object_of, state_of, waiters_in, waiting, with_waiters, waits}
use Rattle.iop_objects.specs.Restoring.{may_follow, may_wait, may_be_next, with_waiters_back, with_object_back, with_objects_back, with_next_back, ObjectsAreRestored}
use Rattle.iop_objects.specs.declared.objects.TheConstants.{FIRST_ID, MOST_OBJECTS, MOST_WAITERS}
use Rattle.iop_objects.specs.declared.waiter.Waiter.{Waiter}
use Rattle.iop_objects.proofs.Apart.{made_found}
use Rattle.iop_objects.proofs.Tables.{table_of, changed}

module _ {A W : Type 0} (s : Objects A W) (id : ℕ) where
  -- an object is live exactly where something is known of it
  pub has_state : is_some (state_of s id) ≡ is_some (object_of s.live id)
  has_state = either (object_of s.live id)
    where
      either : (o : Option (Object A W))
          → is_some (option_map (λ (p : Object A W). p.state) o) ≡ is_some o
      either None = refl
      either (Some o) = refl

module _ {A W : Type 0} where
  -- how many wait for some objects
  abbrev counted : List (Object A W) → ℕ
  counted live = sum_by (λ o. length o.waiters) live

  -- the object of an id, behind others
  module _ (done : List (Object A W)) (id : ℕ) (state : A) (next : ℕ)
      (older : All (λ o. o.id < id) done) where
    abbrev one : List (Queued (Waiter W)) → Object A W
    one waiters = record { id = id; state = state; waiters = waiters }

    abbrev with_one : List (Queued (Waiter W)) → Objects A W
    with_one waiters = table_of (done ++ one waiters ∷ []) next

    found : (waiters : List (Queued (Waiter W)))
        → object_of (with_one waiters).live id ≡ Some (one waiters)
    found waiters = made_found (one waiters) done older

    waiting_one : (waiters : List (Queued (Waiter W)))
        → waiting (with_one waiters) ≡ counted done + length waiters
    waiting_one waiters =
        sum-map (λ o. length o.waiters) (done ++ one waiters ∷ [])
        ∙ sum_by_push (λ o. length o.waiters) done (one waiters)

    -- it alone changes
    module _ (others : List (Queued (Waiter W))) where
      abbrev to_others : Object A W → Object A W
      to_others o = record o { waiters = others }

      others_stay : All (λ o. changed id to_others o ≡ o) done
      others_stay =
          All-weaker (λ o. o.id < id) (λ o. changed id to_others o ≡ o)
          (λ o less. ap (λ b. if b then to_others o else o)
          (ne_eqb o.id id (λ e. omega (arith, less, e))))
          done older

      last_changes : (waiters : List (Queued (Waiter W)))
          → with_waiters (with_one waiters) id others ≡ with_one others
      last_changes waiters =
          ap (λ l. table_of l next)
          (map_push (changed id to_others) done (one waiters)
          ∙ ap (λ l. l ++ changed id to_others (one waiters) ∷ [])
          (map_fixed (changed id to_others) done others_stay)
          ∙ ap (λ b. done ++ (if b then one others else one waiters) ∷ [])
          (eq-eqb id id refl))

    waits_one : (waiters : List (Queued (Waiter W))) (x : Queued (Waiter W))
        → waits (with_one waiters) id x ≡ with_one (waiters ++ x ∷ [])
    waits_one waiters x =
        ap (λ o. with_waiters (with_one waiters) id (waiters_in o ++ x ∷ [])) (found waiters)
        ∙ last_changes (waiters ++ x ∷ []) waiters

    -- threads wait for it again
    waiters_back : (waiters xs : List (Queued (Waiter W)))
        → counted done + length waiters + length xs ≤ MOST_WAITERS
        → with_waiters_back (with_one waiters) id xs ≡ Some (with_one (waiters ++ xs))
    waiters_back waiters [] few = ap (λ l. Some (with_one l)) (sym (append-nil waiters))
    waiters_back waiters (x ∷ xs) few =
        let less : waiting (with_one waiters) < MOST_WAITERS =
        omega (arith, waiting_one waiters, few) in
        let room : nat_lt (waiting (with_one waiters)) MOST_WAITERS ≡ true =
        grind (arith, nat_tests, less) in
        let may : may_wait (with_one waiters) id ≡ true = rw (found waiters, room) refl in
        rw may
        (ap (λ s. with_waiters_back s id xs) (waits_one waiters x)
        ∙ waiters_back (waiters ++ x ∷ []) xs (omega (arith, few, length_push waiters x))
        ∙ ap (λ l. Some (with_one l)) (append_assoc waiters (x ∷ []) xs))

  -- ids rise, from the next one on
  abbrev Rise : ℕ → List (Object A W) → Type 0
  Rise next [] = Unit {0}
  Rise next (o ∷ os) = (next ≤ o.id) × (o.id ≤ LAST_ID) × Rise (o.id + 1) os

  rises : (next last : ℕ) (os : List (Object A W)) → last ≤ LAST_ID + 1
      → All (λ o. next ≤ o.id) os → All (λ o. o.id < last) os
      → AllPairs (λ a b. a.id < b.id) os → Rise next os
  rises next last [] most from below order = tt
  rises next last (o ∷ os) most from below order =
      let own = All-head (λ p. p.id < last) o os below in (
        All-head (λ p. next ≤ p.id) o os from,
        omega (arith, own, most),
        rises (o.id + 1) last os most
            (λ k d inside. let less = order zero (suc k) d (omega arith) (omega (arith, inside)) in
            omega (arith, less))
            (All-tail (λ p. p.id < last) o os below)
            (λ i j d less inside. order (suc i) (suc j) d (omega (arith, less))
            (omega (arith, inside))),
      )

  -- the id behind those of some objects
  abbrev behind : ℕ → List (Object A W) → ℕ
  behind next [] = next
  behind next (o ∷ os) = behind (o.id + 1) os

  behind_below : (next last : ℕ) (os : List (Object A W)) → next ≤ last
      → All (λ o. o.id < last) os → behind next os ≤ last
  behind_below next last [] first below = first
  behind_below next last (o ∷ os) first below =
      let own = All-head (λ p. p.id < last) o os below in
      behind_below (o.id + 1) last os (omega (arith, own))
      (All-tail (λ p. p.id < last) o os below)

  -- objects are live again, behind others
  objects_back : (done os : List (Object A W)) (next : ℕ) → All (λ o. o.id < next) done
      → Rise next os → length done + length os ≤ MOST_OBJECTS
      → counted done + counted os ≤ MOST_WAITERS
      → with_objects_back (table_of done next) os ≡ Some (table_of (done ++ os) (behind next os))
  objects_back done [] next older rise few room =
      ap (λ l. Some (table_of l next)) (sym (append-nil done))
  objects_back done (o ∷ os) next older rise few room =
      let more = sum_by-cons (λ p. length p.waiters) o os in
      let pushed = sum_by_push (λ p. length p.waiters) done o in
      let order : next ≤ o.id = rise.0 in
      let last : o.id ≤ LAST_ID = rise.1 in
      let place : length done < MOST_OBJECTS = omega (arith, few) in
      let from : nat_le next o.id ≡ true = grind (arith, nat_tests, order) in
      let to : nat_le o.id LAST_ID ≡ true = grind (arith, nat_tests, last) in
      let fits : nat_lt (length done) MOST_OBJECTS ≡ true = grind (arith, nat_tests, place) in
      let may : may_follow (table_of done next) o.id ≡ true = rw (from, to, fits) refl in
      let back : with_object_back (table_of done next) o
      ≡ Some (table_of (done ++ o ∷ []) (o.id + 1)) =
      rw may
      (waiters_back done o.id o.state (o.id + 1)
      (All-weaker (λ p. p.id < next) (λ p. p.id < o.id)
      (λ p less. omega (arith, less, order)) done older)
      [] o.waiters (omega (arith, room, more))) in
      ap (option_and_then (λ t. with_objects_back t os)) back
      ∙ objects_back (done ++ o ∷ []) os (o.id + 1)
      (All-push (λ p. p.id < o.id + 1) done o
      (All-weaker (λ p. p.id < next) (λ p. p.id < o.id + 1)
      (λ p less. omega (arith, less, order)) done older)
      (omega arith))
      rise.2 (omega (arith, few, length_push done o)) (omega (arith, room, more, pushed))
      ∙ ap (λ l. Some (table_of l (behind (o.id + 1) os))) (append_assoc done (o ∷ []) os)

  pub are_restored : ObjectsAreRestored A W
  are_restored s h =
      let next = behind FIRST_ID s.live in
      let back =
      objects_back [] s.live FIRST_ID (All-nil (λ o. o.id < FIRST_ID))
      (rises FIRST_ID s.next s.live h.sound.next_last h.sound.first h.sound.given h.sound.ids)
      (omega (arith, h.sound.few))
      (omega (arith, h.few, sum-map (λ o. length o.waiters) s.live)) in
      let first : next ≤ s.next =
      behind_below FIRST_ID s.next s.live h.sound.next_first h.sound.given in
      let last : s.next ≤ LAST_ID + 1 = h.sound.next_last in
      let from : nat_le next s.next ≡ true = grind (arith, nat_tests, first) in
      let to : nat_le s.next (LAST_ID + 1) ≡ true = grind (arith, nat_tests, last) in
      let may : may_be_next (table_of s.live next) s.next ≡ true = rw (from, to) refl in
      ap (option_and_then (λ t. with_next_back t s.next)) back ∙ rw may refl
