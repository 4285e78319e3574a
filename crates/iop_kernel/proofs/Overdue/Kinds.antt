-- No wait for an object of any kind is overdue, when one changes, comes or goes.
use Rattle.std.proofs.Common.{◌≡◌, ℕ, Bool, false, ◌⊎◌, inl, inr, Some, None, List, [], ◌∷◌, ◌++◌, refl, sym, ap, ◌∙◌, subst}
use Rattle.std.specs.Prelude.{bit_and}
use Rattle.std.proofs.lemmas.Bool.{eqb-false, eqb-true}
use Rattle.std.proofs.lemmas.List.Elements.{All-nil, All-push, All-weaker}
use Rattle.std.proofs.lemmas.Option.{same_Some}
use Rattle.iop_event.specs.EventFlags.{EventFlags}
use Rattle.iop_event.specs.Laws.{NoneOverdue}
use Rattle.iop_event.specs.WakeConditions.{Settled, is_met, pattern_after}
use Rattle.iop_event.proofs.FewerBits.{IsUnmet, unmet_cleared, unmet_after}
use Rattle.iop_mbx.specs.Mailboxes.{messages_by_priority, waiters_by_priority}
use Rattle.iop_objects.specs.Objects.{state_of, waiters_of, changes, with_state, with_waiters, creates, deletes, waits, drops, requeues}
use Rattle.iop_queues.specs.Queue.{Choice, chooses}
use Rattle.iop_queues.specs.declared.queued.Queued.{Queued}
use Rattle.iop_objects.specs.declared.waiter.Waiter.{Waiter}
use Rattle.iop_objects.proofs.EachObject.{each_changes, each_with_waiters, each_with_state, each_creates, each_deletes}
use Rattle.iop_objects.proofs.OtherWaiters.{NoOthers, all_others, none_new, none_without, none_requeued, none_chosen_new}
use Rattle.iop_pools.specs.Pools as pools
use Rattle.iop_pools.specs.Pools.{Pool, length_for}
use Rattle.iop_pools.specs.VariablePools.{place_of}
use Rattle.iop_pools.specs.declared.range.Range.{Range}
use Rattle.iop_pools.proofs.Fuller.{fuller, fuller_unplaced}
use Rattle.iop_sema.specs.Semaphores.{by_priority}
use Rattle.iop_thread.specs.declared.kind.Kind.{Kind}
use Rattle.iop_thread.specs.declared.kind.Kind.TheVariants.{Semaphore, EventFlag, Mailbox, VariablePool, FixedPool}
use Rattle.iop_kernel.specs.Kinds.{State, Wants, Table}
use Rattle.iop_kernel.specs.Overdue.{AreIdle, IsIdle}
use Rattle.iop_kernel.proofs.Placing.Moves.{settled_flag}
use Rattle.iop_kernel.proofs.Placing.Queues.{none_chosen, all_chosen}
use Rattle.iop_kernel.proofs.Walk.Changes.{Changes, HasToWait}
use Rattle.iop_kernel.proofs.Walk.Changes.FixedChanges.{takes as take_block, gives as give_block}
use Rattle.iop_kernel.proofs.Walk.Changes.FlagChanges.{clears, tests}
use Rattle.iop_kernel.proofs.Walk.Changes.MailboxChanges.{puts, gets}
use Rattle.iop_kernel.proofs.Walk.Changes.SemaphoreChanges.{counts, takes}
use Rattle.iop_kernel.proofs.Walk.Changes.VariableChanges.{takes as take_memory}

-- threads wait for the objects of a kind only where there is nothing to be had
pub record InTime (kind : Kind) (s : Table kind) : Type 0 where
  pub idle : AreIdle kind s

-- the size for which one waits does not fit
abbrev pub Unplaced : Pool → Queued (Waiter ℕ) → Type 0
Unplaced x w = place_of x w.item.wants ≡ None

-- so it is where none is new
idle_others : (kind : Kind) (x : State kind) (old new : List (Queued (Waiter (Wants kind))))
    → NoOthers old new → IsIdle kind x old → IsIdle kind x new
idle_others Semaphore x old new none (inl empty) = inl (none_new old new none empty)
idle_others Semaphore x old new none (inr zero) = inr zero
idle_others EventFlag x old new none unmet =
    all_others (λ w. is_met x.pattern w ≡ false) old new none unmet
idle_others Mailbox x old new none (inl empty) = inl (none_new old new none empty)
idle_others Mailbox x old new none (inr clear) = inr clear
idle_others VariablePool x old new none unplaced =
    all_others (λ w. place_of x w.wants ≡ None) old new none unplaced
idle_others FixedPool x old new none (inl empty) = inl (none_new old new none empty)
idle_others FixedPool x old new none (inr full) = inr full

-- none waits for one that is made
idle_first : (kind : Kind) (x : State kind) → IsIdle kind x []
idle_first Semaphore x = inl refl
idle_first EventFlag x = All-nil (IsUnmet x.pattern)
idle_first Mailbox x = inl refl
idle_first VariablePool x = All-nil (Unplaced x)
idle_first FixedPool x = inl refl

-- a thread waits that has to
idle_last : (kind : Kind) (s : Table kind) (id : ℕ) (x : State kind)
    (w : Queued (Waiter (Wants kind))) → HasToWait kind s id x w.item.wants
    → IsIdle kind x (waiters_of s id) → IsIdle kind x (waiters_of s id ++ w ∷ [])
idle_last Semaphore s id x w zero idle = inr (eqb-true x.count 0 zero)
idle_last EventFlag s id x w must idle =
    All-push (IsUnmet x.pattern) (waiters_of s id) w idle must.2
idle_last Mailbox s id x w none idle =
    inr (all_chosen (messages_by_priority x.attr) x.messages none)
idle_last VariablePool s id x w none idle = All-push (Unplaced x) (waiters_of s id) w idle none
idle_last FixedPool s id x w none idle = inr none

-- where there is something to be had none waits
none_at : {W E : Type 0} {ws : List W} → (ws ≡ []) ⊎ E → (E → ⊥) → ws ≡ []
none_at (inl empty) some = empty
none_at (inr is) some = absurd (some is)

-- what is known of an object changes
idle_changed : (kind : Kind) (s : Table kind) (id : ℕ) (x y : State kind)
    → Changes kind s id x y → IsIdle kind x (waiters_of s id) → IsIdle kind y (waiters_of s id)
idle_changed Semaphore s id x y (counts none fits) idle =
    inl (all_chosen (by_priority x) (waiters_of s id) none)
idle_changed Semaphore s id x y (takes some) idle =
    inl (none_at idle (eqb-false x.count 0 some))
idle_changed EventFlag s id x y (clears mask) idle =
    All-weaker (IsUnmet x.pattern) (IsUnmet (bit_and x.pattern mask))
    (unmet_cleared x.pattern mask) (waiters_of s id) idle
idle_changed EventFlag s id x y (tests wanted met) idle =
    All-weaker (IsUnmet x.pattern) (IsUnmet (pattern_after wanted.mode x.pattern))
    (unmet_after wanted.mode x.pattern) (waiters_of s id) idle
idle_changed Mailbox s id x y (puts message none room) idle =
    inl (all_chosen (waiters_by_priority x.attr) (waiters_of s id) none)
idle_changed Mailbox s id x y (gets one next) idle =
    let first = messages_by_priority x.attr in
    inl (none_at idle (λ clear. none_chosen first one (sym (ap (chooses first) clear) ∙ next)))
idle_changed VariablePool s id x y (take_memory size place some is) idle =
    let r : Range = record { start = place; size = length_for x size } in
    All-weaker (Unplaced x) (Unplaced (fuller x r))
    (λ w none. fuller_unplaced x r w.item.wants none) (waiters_of s id) idle
idle_changed FixedPool s id x y (take_block place is) idle =
    inl (none_at idle (λ full. cc (is, full)))
idle_changed FixedPool s id x y (give_block block there none) idle =
    inl (all_chosen (pools.by_priority x) (waiters_of s id) none)

module _ (kind : Kind) (s : Table kind) (h : InTime kind s) where
  -- none waits for one that did not
  others_in_time : (id : ℕ) (new : List (Queued (Waiter (Wants kind))))
      → NoOthers (waiters_of s id) new → InTime kind (with_waiters s id new)
  others_in_time id new none = record {
    idle = each_with_waiters (IsIdle kind) s h.idle id new
        (λ x is. idle_others kind x (waiters_of s id) new none);
  }

  -- so where a thread waits no more
  pub drops_in_time : (id thread : ℕ) → InTime kind (drops s id thread)
  drops_in_time id thread = others_in_time id _ (none_without thread (waiters_of s id))

  -- or has another priority
  pub requeues_in_time : (id : ℕ) (by_priority : Bool) (thread priority : ℕ)
      → InTime kind (requeues s id by_priority thread priority)
  requeues_in_time id by_priority thread priority =
      others_in_time id _ (none_requeued by_priority thread priority (waiters_of s id))

  -- or is chosen
  pub chosen_in_time : (id : ℕ) (ordered : Bool) (one : Choice (Waiter (Wants kind)))
      → chooses ordered (waiters_of s id) ≡ Some one → InTime kind (with_waiters s id one.others)
  chosen_in_time id ordered one chosen =
      others_in_time id _ (none_chosen_new ordered (waiters_of s id) one chosen)

  -- a thread waits, which has to
  pub waits_in_time : (id : ℕ) (x : State kind) (w : Queued (Waiter (Wants kind)))
      → state_of s id ≡ Some x → HasToWait kind s id x w.item.wants → InTime kind (waits s id w)
  waits_in_time id x w known must = record {
    idle = each_with_waiters (IsIdle kind) s h.idle id _ (λ y is idle.
        subst (λ y. IsIdle kind y (waiters_of s id ++ w ∷ [])) (same_Some x y (sym known ∙ is))
        (idle_last kind s id x w must (h.idle id x known)));
  }

  -- what is known of one changes
  pub changes_in_time : (id : ℕ) (x y : State kind) → state_of s id ≡ Some x
      → Changes kind s id x y → InTime kind (with_state s id y)
  changes_in_time id x y known how = record {
    idle = each_with_state (IsIdle kind) s h.idle id y
        (idle_changed kind s id x y how (h.idle id x known));
  }

  -- an object is made
  pub creates_in_time : (x : State kind) → InTime kind (creates s x).1
  creates_in_time x =
      record { idle = each_creates (IsIdle kind) s h.idle x (idle_first kind x) }

  -- one is deleted
  pub deletes_in_time : (id : ℕ) → InTime kind (deletes s id)
  deletes_in_time id = record { idle = each_deletes (IsIdle kind) s h.idle id }

-- the threads that wait for an event flag have settled, so that no condition holds
pub settles_in_time : (s : EventFlags) → InTime EventFlag s → (id : ℕ) (settled : Settled)
    → NoneOverdue settled.pattern settled.waiters
    → InTime EventFlag (changes s id (settled_flag settled))
settles_in_time s h id settled none = record {
  idle = each_changes (IsIdle EventFlag) s h.idle id (settled_flag settled) (λ o. refl)
      (λ o found. none);
}
