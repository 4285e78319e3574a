-- Which ready thread is best, and which is moved when the list is rotated.
use Rattle.std.proofs.Common.{◌≡◌, ◌≢◌, ℕ, ◌==◌, true, Option, Some, None, IfSome, is_some, option_map, option_and_then, List, map, refl, ap, sym, ◌∙◌, subst, arith}
use Rattle.std.proofs.lemmas.Bool.Decides.{nat_tests}
use Rattle.std.proofs.lemmas.Option.{same_Some}
use Rattle.iop_base.specs.Choosing.{best}
use Rattle.iop_exec.specs.declared.cpu.Cpu.{Cpu}
use Rattle.iop_ready.specs.declared.entry.Entry.{Entry}
use Rattle.iop_ready.specs.ReadyList.{best_slot, rotated, moved_last}
use Rattle.iop_ready.proofs.Lists.{IfSome-find}
use Rattle.iop_thread.specs.declared.state.State.TheVariants.{Running, Ready}
use Rattle.iop_thread.specs.declared.thread.Thread.{Thread}
use Rattle.iop_thread.specs.declared.threads.Threads.{Threads}
use Rattle.iop_thread.specs.Operations.{Dispatch, rotates_ready}
use Rattle.iop_thread.specs.Placing.{IsPlaced}
use Rattle.iop_thread.specs.ThreadPlaces.{thread_at}
use Rattle.iop_thread.specs.ThreadTable.{ThreadTable, thread_of, priority_of, first_ready, running_thread, best_ready}
use Rattle.iop_thread.specs.Moves.{IsIn}
use Rattle.iop_thread.specs.Standing.{Holds, Stands, IsSound, Dispatches, entry_in}
use Rattle.iop_thread.proofs.MappedLists.{best-holds, best-map, find-map}
use Rattle.iop_thread.proofs.FindingThreads.{running_thread_runs, best_is_ready}
use Rattle.iop_thread.proofs.LiveThreads.{changed, thread_of_changed}
use Rattle.iop_thread.proofs.ReadyHolding.{ready_moved_last}

module _ {R : Type 0} (stands_for : R → List Entry → Type 0) (place : ℕ → ℕ) (t : Threads R)
    (s : ThreadTable) (h : Holds stands_for place t s) where
  -- the id finds a thread
  abbrev IsLive : ℕ → Type 0
  IsLive id = is_some (thread_of s.live id) ≡ true

  -- a live thread stands in its place
  there_of : (id : ℕ) → IsLive id → thread_of s.live id ≡ thread_at t.places (place id)
  there_of id live = by (thread_of s.live id) refl live
    where
      by : (o : Option Thread) → thread_of s.live id ≡ o → is_some o ≡ true
          → thread_of s.live id ≡ thread_at t.places (place id)
      by None is live = cc
      by (Some u) is live = is ∙ sym (h.there id u is)

  -- the best ready thread stands in the place of the best entry
  pub best_ready-place : (slot : ℕ) → Some slot ≡ best_slot (map (entry_in place s.live) s.ready)
      → best_ready s ≡ thread_at t.places slot
  best_ready-place slot is =
      by (best (priority_of s.live) s.ready)
      (is ∙ ap (option_map (λ (e : Entry). e.slot))
      (best-map (λ (e : Entry). e.priority) (entry_in place s.live) s.ready))
      (best-holds (priority_of s.live) IsLive s.ready h.ready_live)
    where
      by : (o : Option ℕ)
          → Some slot ≡ option_map (λ (e : Entry). e.slot) (option_map (entry_in place s.live) o)
          → IfSome o IsLive → option_and_then (thread_of s.live) o ≡ thread_at t.places slot
      by None is live = cc
      by (Some id) is live =
          there_of id live ∙ ap (thread_at t.places) (sym (same_Some slot (place id) is))

  -- the list is rotated
  pub rotates_holds : (priority : ℕ) (r : R)
      → stands_for r (rotated priority (map (entry_in place s.live) s.ready))
      → Holds stands_for place (record t { ready = r }) (rotates_ready s (first_ready s priority))
  rotates_holds priority r now =
      by (first_ready s priority)
      (subst (λ o. stands_for r (moved_last o (map (entry_in place s.live) s.ready)))
      (find-map (λ (e : Entry). e.priority == priority) (entry_in place s.live) s.ready) now)
      (IfSome-find (λ id. priority_of s.live id == priority) IsLive s.ready h.ready_live)
    where
      by : (o : Option ℕ)
          → stands_for r (moved_last (option_map (entry_in place s.live) o)
          (map (entry_in place s.live) s.ready))
          → IfSome o (λ id. IsLive id × ((priority_of s.live id == priority) ≡ true))
          → Holds stands_for place (record t { ready = r }) (rotates_ready s o)
      by None now live = record {
        there = h.there;
        own = h.own;
        count = h.count;
        size = h.size;
        ready = now;
        ready_live = h.ready_live;
        running = h.running;
        next = h.next;
      }
      by (Some id) now live = ready_moved_last stands_for place t s h id live.0 r now

-- the best ready thread stays where it is when the running one is put in front of it
pub best_stays : (place : ℕ → ℕ) (s : ThreadTable) (r b : Thread) (at : ℕ) (registers : Cpu)
    → IsPlaced s → running_thread s ≡ Some r → best_ready s ≡ Some b → IsIn place s.live at b
    → IsIn place (changed (record r { state = Ready registers }) s.live) at b
best_stays place s r b at registers placed running is in_place =
    let runs = running_thread_runs s placed r running in
    let ready = best_is_ready s placed b is in
    let apart : b.id ≢ r.id = λ same.
    let both : Some r ≡ Some b =
    sym runs.found ∙ ap (thread_of s.live) (sym same) ∙ ready.found in
    differ ready.own
    (sym runs.is ∙ ap (λ (u : Thread). u.state) (same_Some r b both) ∙ ready.is) in
    let now = thread_of_changed s.live (record r { state = Ready registers }) b.id in
    record {
      found = grind (arith, nat_tests, now, in_place.found, apart);
      slot = in_place.slot;
    }
  where
    differ : (own : Cpu) → Running ≡ Ready own → ⊥
    differ own e = cc

-- a thread was dispatched
pub dispatched : {R : Type 0} (stands_for : R → List Entry → Type 0) (s : ThreadTable)
    (registers : Cpu) (did : Option Dispatch) (taken : Option ℕ) (t : Threads R) (cpu : Cpu)
    (d : Dispatch) → did ≡ Some d → taken ≡ Some d.id → Stands stands_for t d.threads
    → cpu ≡ d.registers → Dispatches stands_for s registers did taken t cpu
dispatched stands_for s registers did taken t cpu d is id stands same =
    rw is (id, stands, same)

-- whatever a dispatch did, the table is sound
pub sound_after_dispatch : {R : Type 0} (stands_for : R → List Entry → Type 0) (s : ThreadTable)
    (registers : Cpu) (did : Option Dispatch) (taken : Option ℕ) (t : Threads R) (cpu : Cpu)
    → Dispatches stands_for s registers did taken t cpu → IsSound stands_for t
sound_after_dispatch stands_for s registers None taken t cpu h = (s, h.1)
sound_after_dispatch stands_for s registers (Some d) taken t cpu h = (d.threads, h.1)
