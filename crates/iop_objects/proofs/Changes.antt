-- What is known of an object after it changed.
use Rattle.std.proofs.Common.{◌≡◌, ℕ, Bool, true, false, cond, Option, Some, None, option_map, List, [], ◌∷◌, map, refl, ap, ◌∙◌}
use Rattle.std.specs.Prelude.{◌==◌, if◌then◌else◌}
use Rattle.iop_objects.specs.Objects.{Object, Objects, object_of, state_of, waiters_in, waiters_of, with_state, with_waiters}
use Rattle.iop_queues.specs.declared.queued.Queued.{Queued}
use Rattle.iop_objects.specs.declared.waiter.Waiter.{Waiter}

module _ {A W : Type 0} (id : ℕ) (change : Object A W → Object A W)
    (keeps : (o : Object A W) → (change o).id ≡ o.id) where
  either : (o : Object A W) (live later : List (Object A W))
      → object_of later id ≡ option_map change (object_of live id)
      → (b : Bool) → (o.id == id) ≡ b
      → object_of ((if b then change o else o) ∷ later) id
      ≡ option_map change (cond b (Some o) (object_of live id))
  either o live later same true is =
      let found : ((change o).id == id) ≡ true = ap (λ n. n == id) (keeps o) ∙ is in
      rw found refl
  either o live later same false is = rw is same

  -- the object that is found is the one that changed
  pub object_of-changed : (live : List (Object A W))
      → object_of (map (λ o. if o.id == id then change o else o) live) id
      ≡ option_map change (object_of live id)
  object_of-changed [] = refl
  object_of-changed (o ∷ live) =
      either o live (map (λ o. if o.id == id then change o else o) live) (object_of-changed live)
      (o.id == id) refl

module _ {A W : Type 0} where
  abbrev known : Option (Object A W) → Option A
  known o = option_map (λ o. o.state) o

  abbrev to_state : A → Object A W → Object A W
  to_state y o = record o { state = y }

  abbrev to_waiters : List (Queued (Waiter W)) → Object A W → Object A W
  to_waiters waiters o = record o { waiters = waiters }

module _ {A W : Type 0} (s : Objects A W) (id : ℕ) where
  module _ (x : A) (live : state_of s id ≡ Some x) where
    pub state_of-with_state : (y : A) → state_of (with_state s id y) id ≡ Some y
    state_of-with_state y =
        ap known (object_of-changed id (to_state y) (λ o. refl) s.live)
        ∙ by_object (object_of s.live id) live
      where
        by_object : (o : Option (Object A W)) → known o ≡ Some x
            → known (option_map (to_state y) o) ≡ Some y
        by_object None e = cc
        by_object (Some o) e = refl

    pub state_of-with_waiters : (waiters : List (Queued (Waiter W)))
        → state_of (with_waiters s id waiters) id ≡ Some x
    state_of-with_waiters waiters =
        ap known (object_of-changed id (to_waiters waiters) (λ o. refl) s.live)
        ∙ by_object (object_of s.live id) live
      where
        by_object : (o : Option (Object A W)) → known o ≡ Some x
            → known (option_map (to_waiters waiters) o) ≡ Some x
        by_object None e = cc
        by_object (Some o) e = e

    pub waiters_of-with_waiters : (waiters : List (Queued (Waiter W)))
        → waiters_of (with_waiters s id waiters) id ≡ waiters
    waiters_of-with_waiters waiters =
        ap waiters_in (object_of-changed id (to_waiters waiters) (λ o. refl) s.live)
        ∙ by_object (object_of s.live id) live
      where
        by_object : (o : Option (Object A W)) → known o ≡ Some x
            → waiters_in (option_map (to_waiters waiters) o) ≡ waiters
        by_object None e = cc
        by_object (Some o) e = refl

  pub waiters_of-with_state : (y : A) → waiters_of (with_state s id y) id ≡ waiters_of s id
  waiters_of-with_state y =
      ap waiters_in (object_of-changed id (to_state y) (λ o. refl) s.live)
      ∙ by_object (object_of s.live id)
    where
      by_object : (o : Option (Object A W))
          → waiters_in (option_map (to_state y) o) ≡ waiters_in o
      by_object None = refl
      by_object (Some o) = refl
