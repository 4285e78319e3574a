-- What has become of the thread that called, where it does not go on.
use Rattle.std.proofs.Common.{◌≡◌, ℕ, ◌==◌, ◌&&◌, not, true, false, is_ok, Option, Some, None, option_map, Result, Ok, refl, ap, sym, ◌∙◌, subst}
use Rattle.std.proofs.lemmas.Bool.{and_right, eq-eqb}
use Rattle.iop_base.specs.Numbers.{one_if}
use Rattle.iop_base.specs.declared.code.Code.{Code}
use Rattle.iop_exec.specs.Row.{with_reg}
use Rattle.iop_exec.specs.declared.cpu.Cpu.{Cpu}
use Rattle.iop_thread.specs.Operations.{deletes, ends_it, ends_running, rotates, rotates_it, blocks}
use Rattle.iop_thread.specs.Placing.{IsPlaced, is_in_state}
use Rattle.iop_thread.specs.States.{is_ready as is_ready_state, is_dormant}
use Rattle.iop_thread.specs.ThreadTable.{ThreadTable, thread_of, is_it, has_priority, running_thread}
use Rattle.iop_thread.specs.Waits.{is_live}
use Rattle.iop_thread.specs.Waking.{state_in}
use Rattle.iop_thread.specs.declared.state.State.{State}
use Rattle.iop_thread.specs.declared.state.State.TheVariants.{Dormant, Ready, Waiting}
use Rattle.iop_thread.specs.declared.thread.Thread.{Thread}
use Rattle.iop_thread.specs.declared.wait.Wait.{Wait}
use Rattle.iop_thread.proofs.Changes.{moves_one}
use Rattle.iop_thread.proofs.FindingThreads.{running_thread_runs, none_runs, running_id}
use Rattle.iop_thread.proofs.Moving.{is_in_state_changed}
use Rattle.iop_thread.proofs.Placed.{keeps_places}
use Rattle.iop_thread.proofs.Waits.{moves_waits}
use Rattle.iop_kernel.specs.Callers.{HasLeft}
use Rattle.iop_kernel.specs.Callers.HasLeft.{waits, is_ready}

module _ (s : ThreadTable) (placed : IsPlaced s) (id : ℕ) (runs : s.running ≡ Some id) where
  -- it is the one that runs
  itself : is_it s.running id ≡ true
  itself = ap (λ o. is_it o id) runs ∙ eq-eqb id id refl

  -- it is live
  is_live_one : (o : Option Thread) → running_thread s ≡ o
      → (t : Thread) × (thread_of s.live id ≡ Some t)
  is_live_one None is = absurd (cc (runs, none_runs s placed is))
  is_live_one (Some t) is =
      let same : t.id ≡ id = cc (runs, running_id s t is) in
      let found = (running_thread_runs s placed t is).found in
      (t, subst (λ (n : ℕ). thread_of s.live n ≡ Some t) same found)

  -- its state, once it has turned
  turned : (left : ThreadTable) (change : Thread → Thread) (state : State)
      → thread_of left.live id ≡ option_map change (thread_of s.live id)
      → ((t : Thread) → (change t).state ≡ state) → state_in left id ≡ Some state
  turned left change state is becomes =
      let one = is_live_one (running_thread s) refl in
      ap (option_map (λ (t : Thread). t.state)) (is ∙ ap (option_map change) one.1)
      ∙ ap Some (becomes one.0)

  -- it waits
  pub blocked_state : (wait : Wait) (registers : Cpu)
      → state_in (blocks s wait registers) id ≡ Some (Waiting wait registers)
  blocked_state wait registers =
      turned (blocks s wait registers) _ (Waiting wait registers)
      ((((moves_one s placed).blocks wait registers).running id runs).turns.own refl) (λ t. refl)

  pub blocked_waits : (wait : Wait) (registers : Cpu)
      → HasLeft registers (blocks s wait registers) id
  blocked_waits wait registers = waits wait (blocked_state wait registers)

  -- it is the thread that is found to run
  found_itself : (t : Thread) → running_thread s ≡ Some t → (id == t.id) ≡ true
  found_itself t is =
      let same : id ≡ t.id = cc (runs, running_id s t is) in eq-eqb id t.id same

  -- it ends
  ends_dormant : (o : Option Thread) → running_thread s ≡ o
      → is_in_state is_dormant (ends_it s o).live id ≡ true
  ends_dormant None is = absurd (cc (runs, none_runs s placed is))
  ends_dormant (Some t) is =
      let found = (running_thread_runs s placed t is).found in
      is_in_state_changed is_dormant s.live t (record t { state = Dormant }) found id
      ∙ rw (found_itself t is) refl

  pub ended_dormant : is_in_state is_dormant (ends_running s).live id ≡ true
  ended_dormant = ends_dormant (running_thread s) refl

  -- it is put behind the other ready ones
  rotates_ready : (priority : ℕ) (registers : Cpu) (o : Option Thread) → running_thread s ≡ o
      → has_priority priority o ≡ true
      → is_in_state is_ready_state (rotates_it s priority registers o).live id ≡ true
  rotates_ready priority registers None is own = absurd (cc own)
  rotates_ready priority registers (Some t) is own =
      let found = (running_thread_runs s placed t is).found in
      rw own (is_in_state_changed is_ready_state s.live t (record t { state = Ready registers })
      found id ∙ rw (found_itself t is) refl)

  pub rotated_state : (priority : ℕ) (registers : Cpu)
      → has_priority priority (running_thread s) ≡ true
      → state_in (rotates s priority registers) id ≡ Some (Ready registers)
  rotated_state priority registers own =
      turned (rotates s priority registers) _ (Ready registers)
      ((((moves_one s placed).rotates priority registers).gives_way id runs own).turns.own refl)
      (λ t. refl)

  pub rotated_ready : (priority : ℕ) (registers : Cpu)
      → has_priority priority (running_thread s) ≡ true
      → HasLeft registers (rotates s priority (with_reg registers 2 0)) id
  rotated_ready priority registers own =
      let given = with_reg registers 2 0 in
      is_ready (((keeps_places s placed).rotates priority given tt).ready id
      ∙ ap one_if (rotates_ready priority given (running_thread s) refl own))
      (rotated_state priority given own)

-- a thread that was deleted is gone
pub deleted_gone : (s : ThreadTable) → IsPlaced s → (id stack : ℕ) (left : ThreadTable)
    → deletes s id ≡ (Ok stack, left) → is_live left id ≡ false
deleted_gone s placed id stack left did =
    let ok : is_ok (deletes s id).0 ≡ true =
    ap (λ (r : Result ℕ Code × ThreadTable). is_ok r.0) did in
    let own = eq-eqb id id refl in
    ap (λ (r : Result ℕ Code × ThreadTable). is_live r.1 id) (sym did)
    ∙ ((moves_waits s placed).deletes id).live id
    ∙ and_right (is_live s id) (not (is_ok (deletes s id).0 && id == id)) (rw (ok, own) refl)
