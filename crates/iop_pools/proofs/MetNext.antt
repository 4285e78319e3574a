-- Who is met next, by what was known of the pool and of those that waited.
use Rattle.std.proofs.Common.{◌≡◌, ℕ, ◌==◌, Bool, true, false, is_some, Option, Some, None, List, [], ◌∷◌, if◌then◌else◌, refl, ap, sym, ◌∙◌, arith, All, length, suc}
use Rattle.std.proofs.lemmas.List.{length-append}
use Rattle.std.proofs.lemmas.List.Elements.{All-nil, All-cons, All-weaker}
use Rattle.std.proofs.lemmas.Option.{same_Some}
use Rattle.iop_objects.specs.Objects.{state_of, waiters_of, with_waiters, takes}
use Rattle.iop_objects.specs.declared.waiter.Waiter.{Waiter}
use Rattle.iop_objects.proofs.Changes.{state_of-with_waiters, waiters_of-with_waiters, waiters_of-with_state}
use Rattle.iop_pools.specs.Pools.{Pool, by_priority, place_for, takes_at, takes_of, takes_place}
use Rattle.iop_pools.specs.VariablePools.{VariablePools, place_of, fits, answered, meets_by, meets_it, meets_next}
use Rattle.iop_pools.specs.declared.met.Met.{Met}
use Rattle.iop_pools.proofs.Meeting.{next_holds}
use Rattle.iop_queues.specs.Queue.{Choice, chooses_between, chooses_behind, chooses_where, chooses_best_where, chooses_next_where}
use Rattle.iop_queues.specs.Laws.{IsTaken}
use Rattle.iop_objects.proofs.Chosen.{next_taken}
use Rattle.iop_queues.specs.declared.queued.Queued.{Queued}

-- a size fits where there is a place for it
place_by : (x : Pool) (size : ℕ) (none : Bool) → (size == 0) ≡ none
    → is_some (if none then None else place_for x size) ≡ true
    → ((size == 0) ≡ false) × ((place : ℕ) × (place_for x size ≡ Some place))
place_by x size true is some = cc
place_by x size false is some = (is, by (place_for x size) some)
  where
    by : (o : Option ℕ) → is_some o ≡ true → (place : ℕ) × (o ≡ Some place)
    by None e = cc
    by (Some place) e = (place, refl)

-- none is chosen where none meets the condition
module _ {T : Type 0} (p : T → Bool) where
  abbrev Fails : Queued T → Type 0
  Fails x = p x.item ≡ false

  none_best : (queue : List (Queued T)) → chooses_best_where p queue ≡ None → All Fails queue
  none_best [] e = All-nil Fails
  none_best (x ∷ xs) e =
      by (p x.item) refl (chooses_best_where p xs) (none_best xs) e
    where
      by : (b : Bool) → p x.item ≡ b → (later : Option (Choice T))
          → (later ≡ None → All Fails xs)
          → (if b then Some (chooses_between x xs later) else chooses_behind x later) ≡ None
          → All Fails (x ∷ xs)
      by true here later rest e = cc
      by false here None rest e = All-cons Fails x xs here (rest refl)
      by false here (Some c) rest e = cc

  none_first : (queue : List (Queued T)) → chooses_where p queue ≡ None → All Fails queue
  none_first [] e = All-nil Fails
  none_first (x ∷ xs) e = by (p x.item) refl (chooses_where p xs) (none_first xs) e
    where
      by : (b : Bool) → p x.item ≡ b → (later : Option (Choice T))
          → (later ≡ None → All Fails xs)
          → (if b then Some (record { one = x; others = xs }) else chooses_behind x later) ≡ None
          → All Fails (x ∷ xs)
      by true here later rest e = cc
      by false here None rest e = All-cons Fails x xs here (rest refl)
      by false here (Some c) rest e = cc

  pub none_next : (b : Bool) (queue : List (Queued T)) → chooses_next_where b p queue ≡ None
      → All Fails queue
  none_next true queue e = none_best queue e
  none_next false queue e = none_first queue e

-- the waiter that is met, its place, and what is left
pub record IsMet (s : VariablePools) (id : ℕ) (met : Met) (left : VariablePools) : Type 0 where
  pub x : Pool
  pub known : state_of s id ≡ Some x
  pub one : Choice (Waiter ℕ)
  pub chosen : chooses_next_where (by_priority x) (fits x) (waiters_of s id) ≡ Some one
  pub taken : IsTaken (waiters_of s id) one
  pub thread : one.one.item.thread ≡ met.thread
  pub some : (one.one.item.wants == 0) ≡ false
  pub place : place_for x one.one.item.wants ≡ Some met.block
  pub leaves : left ≡ (takes_at (with_waiters s id one.others) id one.one.item.wants x
      (Some met.block)).1

module _ (s : VariablePools) (id : ℕ) where
  abbrev Outcome : Type 0
  Outcome = Option Met × VariablePools

  -- by the pool and the choice
  module _ (x : Pool) (known : state_of s id ≡ Some x) (one : Choice (Waiter ℕ))
      (chosen : chooses_next_where (by_priority x) (fits x) (waiters_of s id) ≡ Some one) where
    abbrev rest : VariablePools
    rest = with_waiters s id one.others

    abbrev size : ℕ
    size = one.one.item.wants

    found : ((size == 0) ≡ false) × ((place : ℕ) × (place_for x size ≡ Some place))
    found =
        place_by x size (size == 0) refl
        (next_holds (fits x) (by_priority x) (waiters_of s id) one chosen)

    is_met : answered one.one.item (takes_place rest id size)
        ≡ (
          Some (record { thread = one.one.item.thread; block = found.1.0 }),
          (takes_at rest id size x (Some found.1.0)).1,
        )
    is_met =
        ap (λ o. answered one.one.item (takes_of rest id size o))
        (state_of-with_waiters s id x known one.others)
        ∙ ap (λ o. answered one.one.item (takes_at rest id size x o)) found.1.1

  met_chosen : (x : Pool) → state_of s id ≡ Some x → (o : Option (Choice (Waiter ℕ)))
      → chooses_next_where (by_priority x) (fits x) (waiters_of s id) ≡ o
      → (met : Met) (left : VariablePools) → meets_by s id (takes s id o) ≡ (Some met, left)
      → IsMet s id met left
  met_chosen x known None chosen met left is =
      absurd (cc (ap (λ (t : Outcome). t.0) is))
  met_chosen x known (Some one) chosen met left is =
      let place = found x known one chosen in
      let all = sym (is_met x known one chosen) ∙ is in
      let same : record { thread = one.one.item.thread; block = place.1.0 } ≡ met =
      same_Some _ met (ap (λ (t : Outcome). t.0) all) in
      let block : place.1.0 ≡ met.block = ap (λ (m : Met). m.block) same in
      record {
        x = x;
        known = known;
        one = one;
        chosen = chosen;
        taken = next_taken (fits x) (by_priority x) (waiters_of s id) one chosen;
        thread = ap (λ (m : Met). m.thread) same;
        some = place.0;
        place = place.1.1 ∙ ap Some block;
        leaves = sym (ap (λ (t : Outcome). t.1) all)
            ∙ ap (λ b. (takes_at (with_waiters s id one.others) id one.one.item.wants x
            (Some b)).1) block;
      }

  met_known : (o : Option Pool) → state_of s id ≡ o → (met : Met) (left : VariablePools)
      → meets_it s id o ≡ (Some met, left) → IsMet s id met left
  met_known None known met left is = absurd (cc (ap (λ (t : Outcome). t.0) is))
  met_known (Some x) known met left is =
      met_chosen x known (chooses_next_where (by_priority x) (fits x) (waiters_of s id)) refl met
      left is

  pub met_next : (met : Met) (left : VariablePools) → meets_next s id ≡ (Some met, left)
      → IsMet s id met left
  met_next met left is = met_known (state_of s id) refl met left is

  -- the others wait on
  pub others_wait : {met : Met} {left : VariablePools} (m : IsMet s id met left)
      → waiters_of left id ≡ m.one.others
  others_wait m =
      let rest = with_waiters s id m.one.others in
      ap (λ (l : VariablePools). waiters_of l id) m.leaves ∙ waiters_of-with_state rest id _
      ∙ waiters_of-with_waiters s id m.x m.known m.one.others

  -- they are one fewer
  pub one_fewer : {met : Met} {left : VariablePools} → IsMet s id met left
      → length (waiters_of s id) ≡ suc (length (waiters_of left id))
  one_fewer m =
      let before = m.taken.before in
      omega (
        arith,
        ap length (others_wait m),
        ap length m.taken.others_are,
        ap length m.taken.queue_is,
        length-append before m.taken.behind,
        length-append before (m.one.one ∷ m.taken.behind),
      )

  -- where none waits none is met
  pub none_waits : waiters_of s id ≡ [] → (meets_next s id).0 ≡ None
  none_waits none = by (state_of s id)
    where
      chosen : (x : Pool) (b : Bool) → chooses_next_where b (fits x) [] ≡ None
      chosen x true = refl
      chosen x false = refl

      by : (o : Option Pool) → (meets_it s id o).0 ≡ None
      by None = refl
      by (Some x) =
          ap (λ o. (meets_by s id (takes s id o)).0)
          (ap (chooses_next_where (by_priority x) (fits x)) none ∙ chosen x (by_priority x))

  -- where none is met none fits
  module _ (x : Pool) (known : state_of s id ≡ Some x) where
    none_by : (o : Option (Choice (Waiter ℕ)))
        → chooses_next_where (by_priority x) (fits x) (waiters_of s id) ≡ o
        → (meets_by s id (takes s id o)).0 ≡ None → o ≡ None
    none_by None chosen none = refl
    none_by (Some one) chosen none =
        let some = ap (λ (t : Outcome). t.0) (is_met x known one chosen) in absurd (cc (some, none))

    unplaced : (w : Waiter ℕ) → fits x w ≡ false → place_of x w.wants ≡ None
    unplaced w = by (place_of x w.wants)
      where
        by : (o : Option ℕ) → is_some o ≡ false → o ≡ None
        by None e = refl
        by (Some place) e = cc

    none_chosen : (meets_next s id).0 ≡ None
        → chooses_next_where (by_priority x) (fits x) (waiters_of s id) ≡ None
    none_chosen none =
        none_by (chooses_next_where (by_priority x) (fits x) (waiters_of s id)) refl
        (ap (λ o. (meets_it s id o).0) (sym known) ∙ none)

    -- and nothing changes
    unmet_by : (meets_next s id).0 ≡ None → (meets_it s id (Some x)).1 ≡ s
    unmet_by none = ap (λ o. (meets_by s id (takes s id o)).1) (none_chosen none)

    pub none_fits : (meets_next s id).0 ≡ None
        → All (λ w. place_of x w.item.wants ≡ None) (waiters_of s id)
    none_fits none =
        All-weaker (λ w. fits x w.item ≡ false) (λ w. place_of x w.item.wants ≡ None)
        (λ w fails. unplaced w.item fails) (waiters_of s id)
        (none_next (fits x) (by_priority x) (waiters_of s id)
        (none_chosen none))

  pub unmet : (meets_next s id).0 ≡ None → (meets_next s id).1 ≡ s
  unmet none = by (state_of s id) refl
    where
      by : (o : Option Pool) → state_of s id ≡ o → (meets_it s id o).1 ≡ s
      by None known = refl
      by (Some x) known = unmet_by x known none
