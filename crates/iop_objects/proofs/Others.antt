-- The threads that wait for an object, when one of a table changes, comes or goes.
use Rattle.std.proofs.Common.{◌≡◌, ℕ, ◌<◌, ◌==◌, false, not, if◌then◌else◌, Option, Some, None, option_map, List, [], ◌∷◌, ◌++◌, map, filter, All, AllPairs, refl, ap, ◌∙◌, arith}
use Rattle.std.proofs.lemmas.Bool.{cond_both, cond-false}
use Rattle.std.proofs.lemmas.Bool.Decides.{nat_tests}
use Rattle.iop_objects.specs.Objects.{Object, Objects, AreObjects, object_of, state_of, waiters_in, waiters_of, changes, deletes, with_state, with_waiters}
use Rattle.iop_queues.specs.declared.queued.Queued.{Queued}
use Rattle.iop_objects.specs.declared.waiter.Waiter.{Waiter}
use Rattle.iop_objects.proofs.Apart.{changes_one, deletes_one}
use Rattle.iop_objects.proofs.Changes.{object_of-changed}

module _ {A W : Type 0} where
  -- the ids of objects rise
  abbrev pub HaveRisingIds : List (Object A W) → Type 0
  HaveRisingIds live = AllPairs (λ a b. a.id < b.id) live

  -- none has an id that is still to be given
  abbrev pub HaveIdsBelow : ℕ → List (Object A W) → Type 0
  HaveIdsBelow next live = All (λ o. o.id < next) live

  -- the objects of other ids are waited for as before, and all are as sound as they were
  pub record IsBut (id : ℕ) (s left : Objects A W) : Type 0 where
    pub others : (other : ℕ) → (other == id) ≡ false → waiters_of left other ≡ waiters_of s other
    pub sound : AreObjects s → AreObjects left

  -- so they are after two changes
  pub but_twice : (id : ℕ) {s t u : Objects A W} → IsBut id s t → IsBut id t u → IsBut id s u
  but_twice id g h = record {
    others = λ other apart. h.others other apart ∙ g.others other apart;
    sound = λ are. h.sound (g.sound are);
  }

  -- the object that is found has the id
  pub object_of_id : (live : List (Object A W)) (id : ℕ) (o : Object A W)
      → object_of live id ≡ Some o → o.id ≡ id
  object_of_id [] id o found = cc
  object_of_id (x ∷ live) id o found = grind (arith, nat_tests, object_of_id live id o, found)

  -- those of an id go
  pub object_of_without : (live : List (Object A W)) (id other : ℕ)
      → object_of (filter (λ o. not (o.id == id)) live) other
      ≡ (if other == id then None else object_of live other)
  object_of_without [] id other = grind (arith, nat_tests)
  object_of_without (o ∷ live) id other = grind (arith, nat_tests, object_of_without live id other)

  -- an object comes for which none waits
  pub waiters_added : (live : List (Object A W)) (made : Object A W) → made.waiters ≡ [] → (id : ℕ)
      → waiters_in (object_of (live ++ made ∷ []) id) ≡ waiters_in (object_of live id)
  waiters_added [] made none id = grind (arith, nat_tests, none)
  waiters_added (o ∷ live) made none id =
      grind (arith, nat_tests, waiters_added live made none id)

module _ {A W : Type 0} (id : ℕ) (change : Object A W → Object A W)
    (keeps : (o : Object A W) → (change o).id ≡ o.id) where
  -- an object changes, if it is that of the id
  abbrev pub changed : Object A W → Object A W
  changed o = if o.id == id then change o else o

  -- it keeps its id
  changed_id : (o : Object A W) → (changed o).id ≡ o.id
  changed_id o =
      cond_both (o.id == id) (change o) o (λ p. p.id ≡ o.id) (λ own. keeps o) (λ other. refl)

  -- what is found is what was found, changed
  pub object_of_changed : (live : List (Object A W)) (other : ℕ)
      → object_of (map changed live) other ≡ option_map changed (object_of live other)
  object_of_changed [] other = refl
  object_of_changed (o ∷ live) other =
      grind (arith, nat_tests, object_of_changed live other, changed_id o)

  module _ (s : Objects A W) where
    -- another object is waited for as before
    waiters_other : (other : ℕ) → (other == id) ≡ false
        → waiters_of (changes s id change) other ≡ waiters_of s other
    waiters_other other apart =
        ap waiters_in (object_of_changed s.live other)
        ∙ grind (arith, nat_tests, apart, object_of_id s.live other)

    -- the one of the id changes, if there is one
    pub waiters_own : waiters_of (changes s id change) id
        ≡ waiters_in (option_map change (object_of s.live id))
    waiters_own = ap waiters_in (object_of-changed id change keeps s.live)

    -- so the table is as before but for those that wait for it
    pub changes_but : IsBut id s (changes s id change)
    changes_but = record {
      others = waiters_other;
      sound = λ are. (changes_one id change keeps s are).change.change.sound;
    }

module _ {A W : Type 0} (s : Objects A W) (id : ℕ) where
  -- those that wait for an object are others, and none where there is no such object
  pub waiters_now : (waiters : List (Queued (Waiter W)))
      → (object_of s.live id ≡ None → waiters ≡ [])
      → waiters_of (with_waiters s id waiters) id ≡ waiters
  waiters_now waiters dead = waiters_own id _ (λ o. refl) s ∙ grind (arith, dead)

  -- and the others are waited for as before
  pub with_waiters_but : (waiters : List (Queued (Waiter W)))
      → IsBut id s (with_waiters s id waiters)
  with_waiters_but waiters = changes_but id (λ o. record o { waiters = waiters }) (λ o. refl) s

  -- so where something else is known of the object
  pub with_state_but : (state : A) → IsBut id s (with_state s id state)
  with_state_but state = changes_but id (λ o. record o { state = state }) (λ o. refl) s

  -- an object is deleted
  pub deletes_but : IsBut id s (deletes s id)
  deletes_but = record {
    others = λ other apart.
        ap waiters_in (object_of_without s.live id other ∙ cond-false (other == id) None _ apart);
    sound = λ are. (deletes_one id s are).change.change.sound;
  }

-- what is known of an object that is found
abbrev pub known : {A W : Type 0} → Option (Object A W) → Option A
known o = option_map (λ o. o.state) o

-- each has the state that it had where others wait for one
module _ {A W : Type 0} (at : ℕ) (waiters : List (Queued (Waiter W))) where
  abbrev to_waiters : Object A W → Object A W
  to_waiters o = if o.id == at then record o { waiters = waiters } else o

  states_stay : (id : ℕ) (live : List (Object A W))
      → known (object_of (map to_waiters live) id) ≡ known (object_of live id)
  states_stay id [] = refl
  states_stay id (o ∷ live) = grind (arith, nat_tests, states_stay id live)

  pub waiters_leave_states : (s : Objects A W) (id : ℕ)
      → state_of (with_waiters s at waiters) id ≡ state_of s id
  waiters_leave_states s id = states_stay id s.live
