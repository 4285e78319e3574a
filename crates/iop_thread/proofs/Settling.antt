-- What holds of the thread that an operation found, and when the table stands for what the operation
-- left.
use Rattle.std.proofs.Common.{◌≡◌, ℕ, ◌≤◌, true, false, Option, Some, None, is_some, List, length, refl, ap, sym, ◌∙◌, subst, arith}
use Rattle.std.proofs.lemmas.Bool.Decides.{nat_tests}
use Rattle.std.proofs.lemmas.Option.{same_Some}
use Rattle.iop_exec.specs.declared.cpu.Cpu.{Cpu}
use Rattle.iop_ready.specs.declared.entry.Entry.{Entry}
use Rattle.iop_ready.specs.declared.slot.TheConstants.{MOST_THREADS}
use Rattle.iop_thread.specs.declared.found.Found.{Found}
use Rattle.iop_thread.specs.declared.state.State.{State}
use Rattle.iop_thread.specs.declared.state.State.TheVariants.{Dormant, Running, Ready, Waiting, Suspended, WaitingSuspended}
use Rattle.iop_thread.specs.declared.thread.Thread.{Thread}
use Rattle.iop_thread.specs.declared.threads.Threads.{Threads}
use Rattle.iop_thread.specs.States.{is_dormant, is_ready}
use Rattle.iop_thread.specs.ThreadTable.{ThreadTable, thread_of, is_it}
use Rattle.iop_thread.specs.Placing.{IsPlaced}
use Rattle.iop_thread.specs.Moves.{IsIn, IsThere, HasNotId, CanEnter}
use Rattle.iop_thread.specs.Standing.{Stands, Holds, Leaves, Lends}
use Rattle.iop_thread.proofs.IdOrder.{own_ids}
use Rattle.iop_thread.proofs.LiveThreads.{contains_thread_of}
use Rattle.iop_thread.proofs.PlaceLists.{thread_at-within, taken-le}
use Rattle.iop_thread.proofs.Holding.{one_place}
use Rattle.iop_thread.proofs.FindingThreads.{dormant_state}
use Rattle.iop_thread.proofs.Handling.{has_not_id}

-- a dormant thread is not ready
pub dormant_not_ready : (state : State) → is_dormant state ≡ true → is_ready state ≡ false
dormant_not_ready state is = ap is_ready (dormant_state state is)

-- a state that is no state of being ready
pub not_ready_state : (state : State) → ((own : Cpu) → state ≡ Ready own → ⊥)
    → is_ready state ≡ false
not_ready_state Dormant other = refl
not_ready_state Running other = refl
not_ready_state (Ready own) other = absurd (other own refl)
not_ready_state (Waiting wait own) other = refl
not_ready_state (Suspended own) other = refl
not_ready_state (WaitingSuspended wait own) other = refl

-- a thread that is not ready is not in the ready list
pub not_listed : (s : ThreadTable) (t : Thread) → IsPlaced s → thread_of s.live t.id ≡ Some t
    → is_ready t.state ≡ false → HasNotId t.id s.ready
not_listed s t placed found other =
    let times = placed.ready t.id in
    has_not_id t.id s.ready (grind (arith, times, found, other))

-- the running thread is live
pub running_is_live : (s : ThreadTable) → IsPlaced s → (id : ℕ) → s.running ≡ Some id
    → is_some (thread_of s.live id) ≡ true
running_is_live s placed id is = by (thread_of s.live id) refl
  where
    by : (o : Option Thread) → thread_of s.live id ≡ o → is_some o ≡ true
    by None none =
        let here = ap (λ o. is_it o id) is in
        absurd (grind (arith, nat_tests, placed.running id, here, none))
    by (Some t) found = refl

module _ {R : Type 0} (stands_for : R → List Entry → Type 0) (t : Threads R) (s : ThreadTable)
    (h : Stands stands_for t s) (found : Found) (there : IsThere t.places found) where
  -- a thread that was found is in its place
  pub in_place : IsIn h.place s.live found.slot found.thread
  in_place = h.holds.own found.slot found.thread there

  -- a thread that is not ready can be put into the ready list, with other fields too
  pub can_enter : is_ready found.thread.state ≡ false → (u : Thread) → u.id ≡ found.thread.id
      → CanEnter h.place s found.slot u
  can_enter other u same = record {
    was = found.thread;
    found = ap (thread_of s.live) same ∙ in_place.found;
    slot = ap h.place same ∙ in_place.slot;
    absent = subst (λ id. HasNotId id s.ready) (sym same)
        (not_listed s found.thread h.placed in_place.found other);
  }

module _ {R : Type 0} (stands_for : R → List Entry → Type 0) (place : ℕ → ℕ) (t : Threads R)
    (s : ThreadTable) (h : Holds stands_for place t s) where
  -- the table stands for what an operation left, if it holds that
  pub stands_as : (did : ThreadTable) → did ≡ s → IsPlaced did → Stands stands_for t did
  stands_as did is placed = record {
    place = place;
    holds = subst (Holds stands_for place t) (sym is) h;
    placed = placed;
  }

  -- the same, where the operation answers
  pub settled : {A : Type 0} (did : A × ThreadTable) (a : A) → did ≡ (a, s) → IsPlaced did.1
      → Leaves stands_for did a t
  settled {A} did a is placed = (
    sym (ap (λ (d : A × ThreadTable). d.0) is),
    stands_as did.1 (ap (λ (d : A × ThreadTable). d.1) is) placed,
  )

-- no more threads are live than can be
pub most_are_live : {R : Type 0} (stands_for : R → List Entry → Type 0) (t : Threads R)
    (s : ThreadTable) → Stands stands_for t s → length s.live ≤ MOST_THREADS
most_are_live stands_for t s h = omega (arith, h.holds.count, h.holds.size, taken-le t.places)

-- what the table lends
pub lends : {R : Type 0} (stands_for : R → List Entry → Type 0) (t : Threads R) (s : ThreadTable)
    → Stands stands_for t s → Lends stands_for t.ready s
lends stands_for t s h = record {
  slot = h.place;
  below = λ u live.
      let found = contains_thread_of s.live u (own_ids s.live s.next h.placed.ids) live in
      let there = h.holds.there u.id u found in
      omega (arith, thread_at-within t.places (h.place u.id) u there, h.holds.size);
  distinct = λ u v live too same.
      let found = contains_thread_of s.live u (own_ids s.live s.next h.placed.ids) live in
      let other = contains_thread_of s.live v (own_ids s.live s.next h.placed.ids) too in
      let id = one_place stands_for h.place t s h.holds u.id v.id u v found other same in
      same_Some u v (sym found ∙ ap (thread_of s.live) id ∙ other);
  stands = h.holds.ready;
}
