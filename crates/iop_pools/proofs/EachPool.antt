-- What holds of each pool, and of those that wait for it, after a call on its memory.
use Rattle.std.proofs.Common.{◌≡◌, ℕ, ◌<◌, Bool, true, false, Option, Some, None, option_map, unwrap_or, List, refl, ap, sym, ◌∙◌}
use Rattle.std.proofs.lemmas.Bool.{cond_both}
use Rattle.iop_queues.specs.declared.queued.Queued.{Queued}
use Rattle.iop_objects.specs.Objects.{Object, state_of, waiters_of}
use Rattle.iop_objects.specs.declared.waiter.Waiter.{Waiter}
use Rattle.iop_objects.proofs.EachObject.{HoldsOfEach, found_holds, each_changes, each_with_state}
use Rattle.iop_objects.proofs.OtherWaiters.{AreLeft}
use Rattle.iop_pools.specs.Pools.{Pool, Pools, length_for, place_for, takes_at, takes_of, takes_place, with_ranges, frees_it, frees}
use Rattle.iop_pools.specs.Ranges.{is_out, with_range, without}
use Rattle.iop_pools.specs.Restoring.{may_be_last, with_last_range, may_be_out, with_out_last}

-- what does not mind that memory of a pool is taken or given back, and that fewer wait for it
pub record IsKept {W : Type 0} (Q : Pool → List (Queued (Waiter W)) → Type 0) : Type 0 where
  pub fewer : (x : Pool) (old new : List (Queued (Waiter W))) → AreLeft old new → Q x old
      → Q x new
  pub taken : (x : Pool) (ws : List (Queued (Waiter W))) (size place : ℕ) → 0 < size
      → place_for x size ≡ Some place → Q x ws
      → Q (record x {
        ranges = with_range
            (record { start = place; size = length_for x size }) x.ranges;
      }) ws
  pub freed : (x : Pool) (ws : List (Queued (Waiter W))) (block : ℕ) → Q x ws
      → Q (record x { ranges = without block x.ranges }) ws
  pub put : (x : Pool) (ws : List (Queued (Waiter W))) (start size : ℕ)
      → may_be_last start size x ≡ true → Q x ws → Q (with_last_range start size x) ws

-- memory is taken or given back of a pool that is live, or nothing changes
module _ {W : Type 0} (C : Pools W → Type 0) (s : Pools W) (h : C s) (id : ℕ) where
  pub takes_by : (size : ℕ)
      → ((x : Pool) (place : ℕ) → state_of s id ≡ Some x → place_for x size ≡ Some place
      → C (takes_at s id size x (Some place)).1)
      → C (takes_place s id size).1
  takes_by size now = by (state_of s id) refl
    where
      at : (x : Pool) → state_of s id ≡ Some x → (p : Option ℕ) → place_for x size ≡ p
          → C (takes_at s id size x p).1
      at x known None is = h
      at x known (Some place) is = now x place known is

      by : (o : Option Pool) → state_of s id ≡ o → C (takes_of s id size o).1
      by None known = h
      by (Some x) known = at x known (place_for x size) refl

  pub frees_by : (block : ℕ)
      → ((x : Pool) → state_of s id ≡ Some x → C (with_ranges s id x (without block x.ranges)))
      → C (frees s id block).1
  frees_by block now = by (state_of s id) refl
    where
      by : (o : Option Pool) → state_of s id ≡ o → C (frees_it s id block o).1
      by None known = h
      by (Some x) known =
          cond_both (is_out block x.ranges)
          (Some true, with_ranges s id x (without block x.ranges)) (Some false, s)
          (λ (r : Option Bool × Pools W). C r.1) (λ there. now x known) (λ none. h)

module _ {W : Type 0} (Q : Pool → List (Queued (Waiter W)) → Type 0) (kept : IsKept Q)
    (s : Pools W) (h : HoldsOfEach Q s) (id : ℕ) where
  -- memory is taken
  pub each_takes : (size : ℕ) → 0 < size → HoldsOfEach Q (takes_place s id size).1
  each_takes size some =
      takes_by (HoldsOfEach Q) s h id size (λ x place known is.
      each_with_state Q s h id _
      (kept.taken x (waiters_of s id) size place some is (h id x known)))

  -- it is given back
  pub each_frees : (block : ℕ) → HoldsOfEach Q (frees s id block).1
  each_frees block =
      frees_by (HoldsOfEach Q) s h id block (λ x known.
      each_with_state Q s h id _ (kept.freed x (waiters_of s id) block (h id x known)))

  -- it is put back
  pub each_puts : (start size : ℕ) → may_be_out s id start size ≡ true
      → HoldsOfEach Q (with_out_last s id start size)
  each_puts start size may =
      each_changes Q s h id (λ o. record o { state = with_last_range start size o.state })
      (λ o. refl)
      (λ o found.
      let known = ap (option_map (λ (o : Object Pool W). o.state)) found in
      kept.put o.state o.waiters start size
      (sym (ap (λ (x : Option Pool). unwrap_or (option_map (may_be_last start size) x) false) known)
      ∙ may)
      (found_holds Q s h id o found))
