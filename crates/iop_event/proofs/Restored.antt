-- Event flags that are put back one behind the other.
use Rattle.std.proofs.Common.{◌≡◌, ◌≢◌, ℕ, ◌+◌, ◌<◌, ◌≤◌, Bool, true, false, not, if◌then◌else◌, Option, Some, None, option_and_then, List, [], ◌∷◌, ◌++◌, length, All, refl, ap, subst, ◌∙◌, arith}
use Rattle.std.specs.Prelude.{◌==◌}
use Rattle.std.proofs.lemmas.Bool.{and_parts, eq-eqb, eqb-false, leb-true}
use Rattle.std.proofs.lemmas.List.{length_push}
use Rattle.std.proofs.lemmas.List.Elements.{All-nil, All-push, All-weaker, All-head, All-tail, All-map}
use Rattle.std.proofs.lemmas.Option.{same_Some}
use Rattle.iop_event.specs.EventFlags.{EventFlags, is_taken}
use Rattle.iop_event.specs.Restoring.{IsSoundFlag, EventFlagsAreRestored, asks_for_bits, is_open, with_waiters_back, with_flag_back, with_flags_back}
use Rattle.iop_event.specs.declared.event_flag.EventFlag.{EventFlag}
use Rattle.iop_event.specs.declared.event_flag.TheConstants.{MANY_WAITERS}
use Rattle.iop_event.specs.declared.wanted.Wanted.{Wanted}
use Rattle.iop_objects.specs.Objects.{Object, no_objects, state_of, waiters_of, with_waiters, waits}
use Rattle.iop_objects.specs.Restoring as objects
use Rattle.iop_objects.specs.Restoring.{with_last, with_object_back, with_objects_back, with_next_back}
use Rattle.iop_objects.specs.declared.objects.TheConstants.{FIRST_ID}
use Rattle.iop_objects.specs.declared.waiter.Waiter.{Waiter}
use Rattle.iop_objects.proofs.Apart.{made_found}
use Rattle.iop_objects.proofs.Changes.{state_of-with_waiters, waiters_of-with_waiters}
use Rattle.iop_objects.proofs.Restored as restored
use Rattle.iop_queues.specs.declared.queued.Queued.{Queued}

abbrev Waiting : Type 0
Waiting = Queued (Waiter Wanted)

abbrev Flag : Type 0
Flag = Object EventFlag Wanted

abbrev Asks : Waiting → Type 0
Asks x = asks_for_bits x.item.wants ≡ true

-- so many may wait for an event flag
abbrev MayBe : EventFlag → ℕ → Type 0
MayBe x count = x.attr ≢ MANY_WAITERS → count ≤ 1

-- none of those that wait for a sound one is refused for what it asks, or for those before it
module _ (id : ℕ) (x : EventFlag) where
  open_again : (s : EventFlags) (more : ℕ) → state_of s id ≡ Some x
      → MayBe x (length (waiters_of s id) + (more + 1)) → is_open s id ≡ true
  open_again s more live few = rw live (either (x.attr == MANY_WAITERS) refl)
    where
      either : (many : Bool) → (x.attr == MANY_WAITERS) ≡ many → not (is_taken s id x) ≡ true
      either true is = rw is refl
      either false is =
          let none : (length (waiters_of s id) == 0) ≡ true =
          eq-eqb _ _ (omega (arith, few (eqb-false x.attr MANY_WAITERS is))) in
          rw (is, none) refl

  waiters_back : (s : EventFlags) (xs : List Waiting) → state_of s id ≡ Some x → All Asks xs
      → MayBe x (length (waiters_of s id) + length xs)
      → with_waiters_back s id xs ≡ objects.with_waiters_back s id xs
  waiters_back s [] live asked few = refl
  waiters_back s (y ∷ ys) live asked few =
      let own = waiters_of s id ++ y ∷ [] in
      let same =
      waiters_back (waits s id y) ys (state_of-with_waiters s id x live own)
      (All-tail Asks y ys asked)
      (λ alone. omega (
        arith,
        few alone,
        length_push (waiters_of s id) y,
        ap length (waiters_of-with_waiters s id x live own),
      )) in
      rw (
        All-head Asks y ys asked,
        open_again s (length ys) live (λ alone. omega (arith, few alone)),
      )
      (each same (objects.may_wait s id))
    where
      each : with_waiters_back (waits s id y) id ys ≡ objects.with_waiters_back (waits s id y) id ys
          → (may : Bool)
          → (if may then with_waiters_back (waits s id y) id ys else None)
          ≡ (if may then objects.with_waiters_back (waits s id y) id ys else None)
      each same true = same
      each same false = refl

-- the ids are below the next one
abbrev AreGiven : EventFlags → Type 0
AreGiven s = All (λ o. o.id < s.next) s.live

waits_given : (s : EventFlags) (id : ℕ) (waiters : List Waiting) → AreGiven s
    → AreGiven (with_waiters s id waiters)
waits_given s id waiters given =
    All-map (λ (o : Flag). o.id < s.next)
    (λ o. if o.id == id then record o { waiters = waiters } else o) s.live
    (All-weaker (λ (o : Flag). o.id < s.next)
    (λ o. (if o.id == id then record o { waiters = waiters } else o).id < s.next)
    (λ o. each o (o.id == id)) s.live given)
  where
    each : (o : Flag) (own : Bool) → o.id < s.next
        → (if own then record o { waiters = waiters } else o).id < s.next
    each o true less = less
    each o false less = less

waiters_given : (s t : EventFlags) (id : ℕ) (xs : List Waiting)
    → objects.with_waiters_back s id xs ≡ Some t → AreGiven s → AreGiven t
waiters_given s t id [] is given = subst AreGiven (same_Some s t is) given
waiters_given s t id (x ∷ xs) is given =
    either
    (λ back. waiters_given (waits s id x) t id xs back
    (waits_given s id (waiters_of s id ++ x ∷ []) given))
    (objects.may_wait s id) is
  where
    either : (objects.with_waiters_back (waits s id x) id xs ≡ Some t → AreGiven t)
        → (may : Bool)
        → (if may then objects.with_waiters_back (waits s id x) id xs else None) ≡ Some t
        → AreGiven t
    either later true back = later back
    either later false none = cc

-- an event flag behind others
module _ (s : EventFlags) (o : Flag) (given : AreGiven s) where
  abbrev put : EventFlags
  put = with_last s o.id o.state

  module _ (follows : objects.may_follow s o.id ≡ true) where
    behind : s.next ≤ o.id
    behind = leb-true _ _ (and_parts _ _ (and_parts _ _ follows).0).0

    older : All (λ p. p.id < o.id) s.live
    older =
        All-weaker (λ (p : Flag). p.id < s.next) (λ p. p.id < o.id)
        (λ p less. omega (arith, less, behind)) s.live given

    found : state_of put o.id ≡ Some o.state
    found = rw (made_found (record o { waiters = [] }) s.live older) refl

    none_waits : waiters_of put o.id ≡ []
    none_waits = rw (made_found (record o { waiters = [] }) s.live older) refl

    put_given : AreGiven put
    put_given =
        All-push (λ (p : Flag). p.id < o.id + 1) s.live (record o { waiters = [] })
        (All-weaker (λ (p : Flag). p.id < o.id) (λ p. p.id < o.id + 1)
        (λ p less. omega (arith, less)) s.live older)
        (omega arith)

  flag_back : IsSoundFlag o → with_flag_back s o ≡ with_object_back s o
  flag_back sound = rw sound.attribute (either (objects.may_follow s o.id) refl)
    where
      either : (may : Bool) → objects.may_follow s o.id ≡ may
          → (if may then with_waiters_back put o.id o.waiters else None)
          ≡ (if may then objects.with_waiters_back put o.id o.waiters else None)
      either true follows =
          waiters_back o.id o.state put o.waiters (found follows) sound.asked
          (λ alone. omega (arith, sound.alone alone, ap length (none_waits follows)))
      either false follows = refl

  flag_given : (t : EventFlags) → with_object_back s o ≡ Some t → AreGiven t
  flag_given t back = either (objects.may_follow s o.id) refl back
    where
      either : (may : Bool) → objects.may_follow s o.id ≡ may
          → (if may then objects.with_waiters_back put o.id o.waiters else None) ≡ Some t
          → AreGiven t
      either true follows is = waiters_given put t o.id o.waiters is (put_given follows)
      either false follows none = cc

flags_back : (s : EventFlags) (os : List Flag) → AreGiven s → All IsSoundFlag os
    → with_flags_back s os ≡ with_objects_back s os
flags_back s [] given sound = refl
flags_back s (o ∷ os) given sound =
    ap (option_and_then (λ t. with_flags_back t os))
    (flag_back s o given (All-head IsSoundFlag o os sound))
    ∙ each
    (λ t back. flags_back t os (flag_given s o given t back) (All-tail IsSoundFlag o os sound))
    (with_object_back s o) refl
  where
    each : ((t : EventFlags) → with_object_back s o ≡ Some t
        → with_flags_back t os ≡ with_objects_back t os)
        → (r : Option EventFlags) → with_object_back s o ≡ r
        → option_and_then (λ t. with_flags_back t os) r
        ≡ option_and_then (λ t. with_objects_back t os) r
    each later None back = refl
    each later (Some t) back = later t back

pub are_restored : EventFlagsAreRestored
are_restored s h =
    ap (option_and_then (λ t. with_next_back t s.next))
    (flags_back no_objects s.live (All-nil (λ (o : Flag). o.id < FIRST_ID)) h.flags)
    ∙ restored.are_restored s h.objects
