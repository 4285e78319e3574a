-- Threads stay placed when one is made, deleted, started or ended.
use Rattle.std.proofs.Common.{◌≡◌, ℕ, ◌+◌, ◌==◌, true, not, Option, Some, None, [], ◌∷◌, ◌++◌, filter, refl, arith}
use Rattle.std.proofs.lemmas.Bool.{cond_both}
use Rattle.std.proofs.lemmas.Bool.Decides.{nat_tests}
use Rattle.iop_exec.specs.declared.cpu.Cpu.{Cpu}
use Rattle.iop_thread.specs.declared.param.Param.{Param}
use Rattle.iop_thread.specs.declared.state.State.TheVariants.{Dormant, Running}
use Rattle.iop_thread.specs.declared.thread.Thread.{Thread}
use Rattle.iop_thread.specs.declared.thread.TheConstants.{LOADER}
use Rattle.iop_thread.specs.States.{is_dormant, first_registers}
use Rattle.iop_thread.specs.ThreadTable.{ThreadTable, thread_of, ready_last, running_thread, has_room}
use Rattle.iop_thread.specs.Operations.{dormant_thread, creates, deletes_it, deletes, starts_it, starts, begins_it, begins, ends_it, ends_running, terminates_it, terminates}
use Rattle.iop_thread.specs.Placing.{IsPlaced}
use Rattle.iop_thread.proofs.IdOrder.{added_in_order, without_in_order}
use Rattle.iop_thread.proofs.LiveThreads.{thread_of_added, thread_of_without, none_of_next}
use Rattle.iop_thread.proofs.Moving.{in_hand, arrives_last, goes_aside, goes_last}
use Rattle.iop_thread.proofs.FindingThreads.{Finds, finds_by_id, dormant_state, running_thread_runs, either_way}

module _ (s : ThreadTable) (placed : IsPlaced s) where
  -- a dormant thread comes
  placed_with_made : (param : Param) (stack gp : ℕ)
      → has_room s ≡ true
      → IsPlaced (record s
      { live = s.live ++ dormant_thread s.next param stack gp ∷ []; next = s.next + 1 })
  placed_with_made param stack gp room =
      let t = dormant_thread s.next param stack gp in
      let none = none_of_next s.live s.next placed.ids.given in
      record {
        ready = λ id. let added = thread_of_added s.live t id none in
            grind (arith, nat_tests, placed.ready id, added, none);
        running = λ id. let added = thread_of_added s.live t id none in
            grind (arith, nat_tests, placed.running id, added, none);
        ids = added_in_order s.live s.next placed.ids t (omega arith)
            (grind (arith, nat_tests, room)) (grind (arith, nat_tests, room));
      }

  -- a thread is made, where there is room
  pub placed_creates : (param : Param) (stack gp : ℕ) → IsPlaced (creates s param stack gp).1
  placed_creates param stack gp =
      either_way IsPlaced (has_room s) _ _ (placed_with_made param stack gp) (λ full. placed)

  -- a dormant thread goes
  placed_without : (t : Thread) → thread_of s.live t.id ≡ Some t → t.state ≡ Dormant
      → IsPlaced (record s { live = filter (λ u. not (u.id == t.id)) s.live })
  placed_without t found is =
      let hand = in_hand s t placed found Dormant is in
      record {
        ready = λ id. let left = thread_of_without s.live t.id id in
            grind (arith, nat_tests, hand.ready id, left);
        running = λ id. let left = thread_of_without s.live t.id id in
            grind (arith, nat_tests, hand.running id, left);
        ids = without_in_order s.live s.next placed.ids t.id;
      }

  -- a thread is deleted, if it is dormant
  placed_deletes_it : (o : Option Thread) → Finds s o → IsPlaced (deletes_it s o).1
  placed_deletes_it None finds = placed
  placed_deletes_it (Some t) finds =
      either_way IsPlaced (is_dormant t.state) _ _
      (λ is. placed_without t (finds t refl) (dormant_state t.state is)) (λ other. placed)

  pub placed_deletes : (id : ℕ) → IsPlaced (deletes s id).1
  placed_deletes id = placed_deletes_it (thread_of s.live id) (finds_by_id s id)

  -- a thread is started, if it is dormant
  placed_starts_it : (argument : ℕ) (o : Option Thread) → Finds s o
      → IsPlaced (starts_it s argument o).1
  placed_starts_it argument None finds = placed
  placed_starts_it argument (Some t) finds =
      either_way IsPlaced (is_dormant t.state) _ _
      (λ is. let hand = in_hand s t placed (finds t refl) Dormant (dormant_state t.state is) in
      arrives_last s t (record t { priority = t.param.priority; wakeups = 0 }) hand (finds t refl)
      (first_registers t argument))
      (λ other. placed)

  pub placed_starts : (id argument : ℕ) → IsPlaced (starts s id argument).1
  placed_starts id argument = placed_starts_it argument (thread_of s.live id) (finds_by_id s id)

  -- the loader's thread begins, if it is dormant
  placed_begins_it : (registers : Cpu) (o : Option Thread) → Finds s o
      → IsPlaced (begins_it s registers o)
  placed_begins_it registers None finds = placed
  placed_begins_it registers (Some t) finds =
      cond_both (is_dormant t.state) (ready_last s t registers) s IsPlaced
      (λ is. goes_last s t placed (finds t refl) Dormant (dormant_state t.state is) registers)
      (λ other. placed)

  pub placed_begins : (registers : Cpu) → IsPlaced (begins s registers)
  placed_begins registers =
      placed_begins_it registers (thread_of s.live LOADER) (finds_by_id s LOADER)

  -- the running thread ends
  placed_ends_it : (o : Option Thread) → running_thread s ≡ o → IsPlaced (ends_it s o)
  placed_ends_it None is = placed
  placed_ends_it (Some t) is =
      let runs = running_thread_runs s placed t is in
      goes_aside s t placed runs.found Running Dormant runs.is refl refl

  pub placed_ends_running : IsPlaced (ends_running s)
  placed_ends_running = placed_ends_it (running_thread s) refl

  -- a thread is ended by another
  placed_terminates_it : (o : Option Thread) → Finds s o → IsPlaced (terminates_it s o).1
  placed_terminates_it None finds = placed
  placed_terminates_it (Some t) finds =
      either_way IsPlaced (is_dormant t.state) _ _ (λ is. placed)
      (λ other. goes_aside s t placed (finds t refl) t.state Dormant refl refl refl)

  pub placed_terminates : (id : ℕ) → IsPlaced (terminates s id).1
  placed_terminates id = placed_terminates_it (thread_of s.live id) (finds_by_id s id)
