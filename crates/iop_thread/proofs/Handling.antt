-- What the moves of single threads do, one small change after another.
use Rattle.std.proofs.Common.{◌≡◌, ◌≢◌, ℕ, inl, inr, Some, List, [], ◌∷◌, ◌++◌, map, ap, ◌∙◌, subst, arith}
use Rattle.std.proofs.lemmas.Bool.Decides.{nat_tests}
use Rattle.std.proofs.lemmas.List.Elements.{All-cons, All-nil}
use Rattle.iop_exec.specs.declared.cpu.Cpu.{Cpu}
use Rattle.iop_ready.specs.declared.entry.Entry.{Entry}
use Rattle.iop_ready.specs.ReadyList.{entry_of, HasNot}
use Rattle.iop_ready.specs.ReadyList.{without as without_entry}
use Rattle.iop_thread.specs.declared.state.State.{State}
use Rattle.iop_thread.specs.declared.state.State.TheVariants.{Dormant, Running, Ready, Waiting, Suspended, WaitingSuspended}
use Rattle.iop_thread.specs.declared.thread.Thread.{Thread}
use Rattle.iop_thread.specs.declared.threads.Threads.{Threads}
use Rattle.iop_thread.specs.ThreadTable.{ThreadTable, thread_of, with_thread, in_state, without, leaves, runs, ready_last, ready_first}
use Rattle.iop_thread.specs.Placing.{times}
use Rattle.iop_thread.specs.Moves.{IsIn, HasNotId, CanBecome, CanEnter}
use Rattle.iop_thread.specs.Standing.{Holds, entry_in}
use Rattle.iop_thread.proofs.LiveThreads.{changed, thread_of_changed}
use Rattle.iop_thread.proofs.ReadyIds.{times_without}
use Rattle.iop_thread.proofs.Holding.{one_running}
use Rattle.iop_thread.proofs.ReadyHolding.{ready_behind, ready_in_front, ready_without, has_not_place}

-- an id that is there no times is not in the list
pub has_not_id : (id : ℕ) (ids : List ℕ) → times id ids ≡ 0 → HasNotId id ids
has_not_id id [] none = All-nil (λ other. other ≢ id)
has_not_id id (other ∷ ids) none =
    All-cons (λ other. other ≢ id) other ids (λ same. grind (arith, nat_tests, none, same))
    (has_not_id id ids (grind (arith, nat_tests, none)))

-- the thread that was changed is found
found_changed : (live : List Thread) (u was : Thread) → thread_of live u.id ≡ Some was
    → thread_of (changed u live) u.id ≡ Some u
found_changed live u was found =
    let now = thread_of_changed live u u.id in grind (arith, nat_tests, now, found)

module _ (place : ℕ → ℕ) (s : ThreadTable) (at : ℕ) (u : Thread) where
  -- a thread that is not in the ready list may have another state
  pub may_change : CanEnter place s at u → (state : State)
      → CanBecome place s at (record u { state = state })
  may_change can state = record {
    was = can.was;
    found = can.found;
    slot = can.slot;
    priority = inl can.absent;
  }

  -- and so may one that keeps its priority
  pub may_become : IsIn place s.live at u → (v : Thread) → v.id ≡ u.id → v.priority ≡ u.priority
      → CanBecome place s at v
  may_become is v same kept = record {
    was = u;
    found = ap (thread_of s.live) same ∙ is.found;
    slot = ap place same ∙ is.slot;
    priority = inr kept;
  }

  -- the running thread can be put into the ready list when it has left the processor
  pub enters_stopped : CanEnter place s at u → CanEnter place (leaves s u Running) at u
  enters_stopped can = record {
    was = can.was;
    found = can.found;
    slot = can.slot;
    absent = can.absent;
  }

  -- a thread that was taken out of the ready list can be put into it again, with another priority
  pub enters_again : IsIn place s.live at u → (registers : Cpu) (priority : ℕ)
      → CanEnter place (leaves s u (Ready registers)) at (record u { priority = priority })
  enters_again is registers priority = record {
    was = u;
    found = is.found;
    slot = is.slot;
    absent = let gone = times_without u.id u.id s.ready in
        has_not_id u.id (without u.id s.ready) (grind (arith, nat_tests, gone));
  }

  -- a thread stays in its place when it leaves the processor or the ready list
  pub is_in_leaving : IsIn place s.live at u → (state : State)
      → IsIn place (leaves s u state).live at u
  is_in_leaving is Dormant = is
  is_in_leaving is Running = is
  is_in_leaving is (Ready registers) = is
  is_in_leaving is (Waiting wait registers) = is
  is_in_leaving is (Suspended registers) = is
  is_in_leaving is (WaitingSuspended wait registers) = is

module _ {R : Type 0} (stands_for : R → List Entry → Type 0) (place : ℕ → ℕ) (t : Threads R)
    (s : ThreadTable) (at : ℕ) (u : Thread) where
  module _ (registers : Cpu) (can : CanEnter place s at u)
      (h : Holds stands_for place t (with_thread s (record u { state = Ready registers }))) where
    -- the thread as it is then
    abbrev v : Thread
    v = record u { state = Ready registers }

    -- it is found by its id
    found_now : thread_of (changed v s.live) u.id ≡ Some v
    found_now = found_changed s.live v can.was can.found

    -- the thread can be put into the ready list
    pub enters : (xs : List Entry) × stands_for t.ready xs × HasNot at xs
    enters = (
      map (entry_in place (changed v s.live)) s.ready,
      h.ready,
      subst (λ slot. HasNot slot (map (entry_in place (changed v s.live)) s.ready)) can.slot
          (has_not_place stands_for place t (with_thread s v) h u.id v found_now can.absent),
    )

    -- it is put behind the others
    pub enters_last : (r : R)
        → ((xs : List Entry) → stands_for t.ready xs → stands_for r (xs ++ entry_of at u.priority ∷ []))
        → Holds stands_for place (record t { ready = r }) (ready_last s u registers)
    enters_last r added =
        ready_behind stands_for place t (with_thread s v) h u.id v found_now r
        (rw can.slot (added _ h.ready))

    -- it is put in front of them
    pub enters_first : (r : R)
        → ((xs : List Entry) → stands_for t.ready xs → stands_for r (entry_of at u.priority ∷ xs))
        → Holds stands_for place (record t { ready = r }) (ready_first s u registers)
    enters_first r added =
        ready_in_front stands_for place t (with_thread s v) h u.id v found_now r
        (rw can.slot (added _ h.ready))

  -- a thread goes out of the ready list
  pub goes_out : Holds stands_for place t s → IsIn place s.live at u → (registers : Cpu) (r : R)
      → ((xs : List Entry) → stands_for t.ready xs → stands_for r (without_entry at xs))
      → Holds stands_for place (record t { ready = r }) (leaves s u (Ready registers))
  goes_out h is registers r removed =
      ready_without stands_for place t s h u.id u is.found r (rw is.slot (removed _ h.ready))

  -- and runs
  pub goes_to_processor : Holds stands_for place t (in_state s u Running) → IsIn place s.live at u
      → (r : R)
      → ((xs : List Entry) → stands_for t.ready xs → stands_for r (without_entry at xs))
      → Holds stands_for place (record t { ready = r; running = Some at }) (runs s u)
  goes_to_processor h is r removed =
      let v = record u { state = Running } in
      let out = ready_without stands_for place t (with_thread s v) h u.id v
      (found_changed s.live v u is.found) r (rw is.slot (removed _ h.ready)) in
      subst (λ slot. Holds stands_for place (record t { ready = r; running = Some slot }) (runs s u))
      is.slot (one_running stands_for place (record t { ready = r }) _ out u.id)
