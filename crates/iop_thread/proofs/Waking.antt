-- Threads stay placed when one waits, is woken, suspended or resumed.
use Rattle.std.proofs.Common.{◌≡◌, ℕ, ◌-◌, nat_lt, false, Option, Some, None, refl}
use Rattle.std.proofs.lemmas.Bool.{cond_both}
use Rattle.iop_exec.specs.declared.cpu.Cpu.{Cpu}
use Rattle.iop_thread.specs.declared.state.State.{State}
use Rattle.iop_thread.specs.declared.state.State.TheVariants.{Dormant, Running, Ready, Waiting, Suspended, WaitingSuspended}
use Rattle.iop_thread.specs.declared.thread.Thread.{Thread}
use Rattle.iop_thread.specs.declared.wait.Wait.{Wait}
use Rattle.iop_thread.specs.States.{sleeps, is_dormant, is_ready, is_running, wait_in, suspended_state, with_answer}
use Rattle.iop_thread.specs.ThreadTable.{ThreadTable, thread_of, running_thread, with_thread}
use Rattle.iop_thread.specs.Operations.{blocks_it, blocks, wakes_in, wakes_it, wakes, suspends_it, suspends, resumes_in, resumes_it, resumes, wakes_up_by, wakes_up_it, wakes_up, cancels_it, cancels, takes_wakeup_it, takes_wakeup}
use Rattle.iop_thread.specs.Placing.{IsPlaced}
use Rattle.iop_thread.proofs.Moving.{goes_aside, goes_last, placed_in_same_state}
use Rattle.iop_thread.proofs.FindingThreads.{Finds, finds_by_id, running_thread_runs, either_way}

-- a suspended thread is neither ready nor running
pub suspended_not_ready : (registers : Cpu) (state : State)
    → is_ready (suspended_state registers state) ≡ false
suspended_not_ready registers Dormant = refl
suspended_not_ready registers Running = refl
suspended_not_ready registers (Ready own) = refl
suspended_not_ready registers (Waiting wait own) = refl
suspended_not_ready registers (Suspended own) = refl
suspended_not_ready registers (WaitingSuspended wait own) = refl

suspended_not_running : (registers : Cpu) (state : State)
    → is_running (suspended_state registers state) ≡ false
suspended_not_running registers Dormant = refl
suspended_not_running registers Running = refl
suspended_not_running registers (Ready own) = refl
suspended_not_running registers (Waiting wait own) = refl
suspended_not_running registers (Suspended own) = refl
suspended_not_running registers (WaitingSuspended wait own) = refl

module _ (s : ThreadTable) (placed : IsPlaced s) where
  -- the running thread waits
  placed_blocks_it : (wait : Wait) (registers : Cpu) (o : Option Thread) → running_thread s ≡ o
      → IsPlaced (blocks_it s wait registers o)
  placed_blocks_it wait registers None is = placed
  placed_blocks_it wait registers (Some t) is =
      let runs = running_thread_runs s placed t is in
      goes_aside s t placed runs.found Running (Waiting wait registers) runs.is refl refl

  pub placed_blocks : (wait : Wait) (registers : Cpu) → IsPlaced (blocks s wait registers)
  placed_blocks wait registers = placed_blocks_it wait registers (running_thread s) refl

  -- a wait ends, by the state that the thread is in
  placed_wakes_in : (answer : ℕ) (t : Thread) → thread_of s.live t.id ≡ Some t → (state : State)
      → t.state ≡ state → IsPlaced (wakes_in s answer t state)
  placed_wakes_in answer t found Dormant is = placed
  placed_wakes_in answer t found Running is = placed
  placed_wakes_in answer t found (Ready own) is = placed
  placed_wakes_in answer t found (Waiting wait own) is =
      goes_last s t placed found (Waiting wait own) is (with_answer own answer)
  placed_wakes_in answer t found (Suspended own) is = placed
  placed_wakes_in answer t found (WaitingSuspended wait own) is =
      let now = Suspended (with_answer own answer) in
      goes_aside s t placed found (WaitingSuspended wait own) now is refl refl

  -- the wait of a thread ends, if one is found
  placed_wakes_it : (answer : ℕ) (o : Option Thread) → Finds s o → IsPlaced (wakes_it s answer o)
  placed_wakes_it answer None finds = placed
  placed_wakes_it answer (Some t) finds = placed_wakes_in answer t (finds t refl) t.state refl

  pub placed_wakes : (id answer : ℕ) → IsPlaced (wakes s id answer)
  placed_wakes id answer = placed_wakes_it answer (thread_of s.live id) (finds_by_id s id)

  -- a thread is suspended
  placed_suspends_it : (registers : Cpu) (o : Option Thread) → Finds s o
      → IsPlaced (suspends_it s registers o).1
  placed_suspends_it registers None finds = placed
  placed_suspends_it registers (Some t) finds =
      either_way IsPlaced (is_dormant t.state) _ _ (λ is. placed)
      (λ other. goes_aside s t placed (finds t refl) t.state (suspended_state registers t.state)
      refl
      (suspended_not_ready registers t.state) (suspended_not_running registers t.state))

  pub placed_suspends : (id : ℕ) (registers : Cpu) → IsPlaced (suspends s id registers).1
  placed_suspends id registers =
      placed_suspends_it registers (thread_of s.live id) (finds_by_id s id)

  -- a thread is resumed, by the state that it is in
  placed_resumes_in : (t : Thread) → thread_of s.live t.id ≡ Some t → (state : State)
      → t.state ≡ state → IsPlaced (resumes_in s t state).1
  placed_resumes_in t found Dormant is = placed
  placed_resumes_in t found Running is = placed
  placed_resumes_in t found (Ready own) is = placed
  placed_resumes_in t found (Waiting wait own) is = placed
  placed_resumes_in t found (Suspended own) is =
      goes_last s t placed found (Suspended own) is own
  placed_resumes_in t found (WaitingSuspended wait own) is =
      goes_aside s t placed found (WaitingSuspended wait own) (Waiting wait own) is refl refl

  -- a thread is resumed, if one is found
  placed_resumes_it : (o : Option Thread) → Finds s o → IsPlaced (resumes_it s o).1
  placed_resumes_it None finds = placed
  placed_resumes_it (Some t) finds = placed_resumes_in t (finds t refl) t.state refl

  pub placed_resumes : (id : ℕ) → IsPlaced (resumes s id).1
  placed_resumes id = placed_resumes_it (thread_of s.live id) (finds_by_id s id)

  -- only the wakeups of a thread change
  placed_with_wakeups : (t : Thread) → thread_of s.live t.id ≡ Some t → (wakeups : ℕ)
      → IsPlaced (with_thread s (record t { wakeups = wakeups }))
  placed_with_wakeups t found wakeups =
      placed_in_same_state s placed t (record t { wakeups = wakeups }) found refl

  -- a thread is woken, by whether it sleeps
  placed_wakes_up_by : (t : Thread) → thread_of s.live t.id ≡ Some t → IsPlaced (wakes_up_by s t)
  placed_wakes_up_by t found =
      cond_both (sleeps (wait_in t.state)) _ _ IsPlaced
      (λ asleep. placed_wakes_in 0 t found t.state refl)
      (λ other. placed_with_wakeups t found _)

  -- a thread is woken, if one is found
  placed_wakes_up_it : (o : Option Thread) → Finds s o → IsPlaced (wakes_up_it s o).1
  placed_wakes_up_it None finds = placed
  placed_wakes_up_it (Some t) finds =
      either_way IsPlaced (is_dormant t.state) _ _ (λ is. placed)
      (λ other. placed_wakes_up_by t (finds t refl))

  pub placed_wakes_up : (id : ℕ) → IsPlaced (wakes_up s id).1
  placed_wakes_up id = placed_wakes_up_it (thread_of s.live id) (finds_by_id s id)

  -- the wakeups of a thread are forgotten
  placed_cancels_it : (o : Option Thread) → Finds s o → IsPlaced (cancels_it s o).1
  placed_cancels_it None finds = placed
  placed_cancels_it (Some t) finds =
      either_way IsPlaced (is_dormant t.state) _ _ (λ is. placed)
      (λ other. placed_with_wakeups t (finds t refl) 0)

  pub placed_cancels : (id : ℕ) → IsPlaced (cancels s id).1
  placed_cancels id = placed_cancels_it (thread_of s.live id) (finds_by_id s id)

  -- the running thread takes a wakeup
  placed_takes_wakeup_it : (o : Option Thread) → running_thread s ≡ o
      → IsPlaced (takes_wakeup_it s o).1
  placed_takes_wakeup_it None is = placed
  placed_takes_wakeup_it (Some t) is =
      either_way IsPlaced (nat_lt 0 t.wakeups) _ _
      (λ some. placed_with_wakeups t (running_thread_runs s placed t is).found (t.wakeups - 1))
      (λ none. placed)

  pub placed_takes_wakeup : IsPlaced (takes_wakeup s).1
  placed_takes_wakeup = placed_takes_wakeup_it (running_thread s) refl
