-- An event flag while the threads whose conditions hold are taken out, one after the other.
use Rattle.std.proofs.Common.{◌≡◌, ℕ, Option, Some, None, [], option_map, refl, ap, ◌∙◌}
use Rattle.std.specs.Prelude.{bit_or}
use Rattle.iop_event.specs.EventFlags.{EventFlags, meets_by, meets_it, meets_next, sets, sets_it, with_pattern}
use Rattle.iop_event.specs.WakeConditions.{settles, meets, met_by, is_met, pattern_after}
use Rattle.iop_event.specs.declared.event_flag.EventFlag.{EventFlag}
use Rattle.iop_event.specs.declared.met.Met.{Met}
use Rattle.iop_event.specs.declared.wanted.Wanted.{Wanted}
use Rattle.iop_event.proofs.Settling.{Waiting, settles-taken, settles-none}
use Rattle.iop_objects.specs.Objects.{object_of, state_of, waiters_in, waiters_of, changes, takes, with_state}
use Rattle.iop_queues.specs.Queue.{Choice, chooses_where}
use Rattle.iop_objects.specs.declared.waiter.Waiter.{Waiter}
use Rattle.iop_objects.proofs.Changes.{object_of-changed}
use Rattle.iop_objects.proofs.Others.{HaveRisingIds}
use Rattle.iop_kernel.specs.EventFlags.{LiveFlag}
use Rattle.iop_kernel.proofs.Bodies.ObjectChanges.{changes_twice, changes_alike}

module _ (s : EventFlags) (id : ℕ) (o : LiveFlag) where
  -- the event flag has a pattern, and these threads wait for it
  abbrev pub changed_to : ℕ → Waiting → LiveFlag → LiveFlag
  changed_to pattern waiters u =
      record u { state = with_pattern o.state pattern; waiters = waiters }

  abbrev pub left_with : ℕ → Waiting → EventFlags
  left_with pattern waiters = changes s id (changed_to pattern waiters)

  module _ (live : object_of s.live id ≡ Some o) where
    -- it is found so
    found_left : (pattern : ℕ) (waiters : Waiting)
        → object_of (left_with pattern waiters).live id ≡ Some (changed_to pattern waiters o)
    found_left pattern waiters =
        object_of-changed id (changed_to pattern waiters) (λ u. refl) s.live
        ∙ ap (option_map (changed_to pattern waiters)) live

    -- what is known of it
    pub state_left : (pattern : ℕ) (waiters : Waiting)
        → state_of (left_with pattern waiters) id ≡ Some (with_pattern o.state pattern)
    state_left pattern waiters =
        ap (option_map (λ (u : LiveFlag). u.state)) (found_left pattern waiters)

    -- who waits for it
    pub waiters_left : (pattern : ℕ) (waiters : Waiting)
        → waiters_of (left_with pattern waiters) id ≡ waiters
    waiters_left pattern waiters = ap waiters_in (found_left pattern waiters)

    -- it is so once bits are set
    pub flag_set : HaveRisingIds s.live → (bits : ℕ)
        → (sets s id bits).1 ≡ left_with (bit_or o.state.pattern bits) o.waiters
    flag_set ids bits =
        let pattern = bit_or o.state.pattern bits in
        ap (λ (x : Option EventFlag). (sets_it s id bits x).1)
        (ap (option_map (λ (u : LiveFlag). u.state)) live)
        ∙ changes_alike id (λ u. record u { state = with_pattern o.state pattern })
        (changed_to pattern o.waiters) o refl s ids live

    -- one is taken out, and those behind it settle on what it leaves
    pub record IsMetNext (t : EventFlags) (pattern : ℕ) (waiters : Waiting) (one : Met)
        : Type 0 where
      pub pattern_then : ℕ
      pub waiters_then : Waiting
      pub left : t ≡ left_with pattern_then waiters_then
      pub settled : settles pattern waiters ≡ meets one (settles pattern_then waiters_then)

    module _ (u : EventFlags) (pattern : ℕ) (waiters : Waiting)
        (same : u ≡ left_with pattern waiters) where
      abbrev here : EventFlags
      here = left_with pattern waiters

      abbrev flag : EventFlag
      flag = with_pattern o.state pattern

      -- by what is chosen
      next_is : (c : Option (Choice (Waiter Wanted))) → chooses_where (is_met pattern) waiters ≡ c
          → meets_next u id ≡ meets_by here id flag (takes here id c)
      next_is c chosen =
          ap (λ r. meets_next r id) same ∙ ap (meets_it here id) (state_left pattern waiters)
          ∙ ap (λ q. meets_by here id flag (takes here id (chooses_where (is_met pattern) q)))
          (waiters_left pattern waiters)
          ∙ ap (λ c. meets_by here id flag (takes here id c)) chosen

      -- what is left of one that is chosen
      chosen_left : (c : Choice (Waiter Wanted))
          → (meets_by here id flag (takes here id (Some c))).1
          ≡ left_with (pattern_after c.one.item.wants.mode pattern) c.others
      chosen_left c =
          let now = with_pattern o.state (pattern_after c.one.item.wants.mode pattern) in
          let others : LiveFlag → LiveFlag = λ u. record u { waiters = c.others } in
          ap (λ t. with_state t id now)
          (changes_twice id (changed_to pattern waiters) others (λ u. refl) s)
          ∙ changes_twice id (λ u. others (changed_to pattern waiters u))
          (λ u. record u { state = now }) (λ u. refl) s

      -- by what is chosen: one is met
      met_by_choice : (c : Option (Choice (Waiter Wanted)))
          → chooses_where (is_met pattern) waiters ≡ c → (t : EventFlags) (one : Met)
          → Some one ≡ (meets_next u id).0 → t ≡ (meets_next u id).1
          → IsMetNext t pattern waiters one
      met_by_choice None chosen t one answer is =
          let told = ap (λ r. r.0) (next_is None chosen) in cc
      met_by_choice (Some c) chosen t one answer is =
          let did = next_is (Some c) chosen in
          let told = answer ∙ ap (λ r. r.0) did in
          let taken : met_by pattern c.one.item ≡ one = cc in
          let pattern_then = pattern_after c.one.item.wants.mode pattern in
          record {
            pattern_then = pattern_then;
            waiters_then = c.others;
            left = is ∙ ap (λ r. r.1) did ∙ chosen_left c;
            settled = settles-taken pattern waiters c chosen
                ∙ ap (λ m. meets m (settles pattern_then c.others)) taken;
          }

      -- or none is
      none_by_choice : (c : Option (Choice (Waiter Wanted)))
          → chooses_where (is_met pattern) waiters ≡ c → (t : EventFlags)
          → None ≡ (meets_next u id).0 → t ≡ (meets_next u id).1 → (t ≡ here)
          × (settles pattern waiters ≡ record { met = []; waiters = waiters; pattern = pattern })
      none_by_choice None chosen t answer is =
          (is ∙ ap (λ r. r.1) (next_is None chosen), settles-none pattern waiters chosen)
      none_by_choice (Some c) chosen t answer is =
          let told = answer ∙ ap (λ r. r.0) (next_is (Some c) chosen) in absurd (cc told)

      -- one is met
      pub flag_met : (t : EventFlags) (one : Met)
          → Some one ≡ (meets_next u id).0 → t ≡ (meets_next u id).1
          → IsMetNext t pattern waiters one
      flag_met = met_by_choice (chooses_where (is_met pattern) waiters) refl

      -- none is: all have settled
      pub flag_settled : (t : EventFlags) → None ≡ (meets_next u id).0 → t ≡ (meets_next u id).1
          → (t ≡ here)
          × (settles pattern waiters ≡ record { met = []; waiters = waiters; pattern = pattern })
      flag_settled = none_by_choice (chooses_where (is_met pattern) waiters) refl
