-- What changes when a thread waits, is woken, suspended or resumed, or its wakeups change.
use Rattle.std.proofs.Common.{◌≡◌, ℕ, ◌+◌, ◌-◌, min, nat_lt, Bool, true, false, if◌then◌else◌, is_ok, is_some, IfOk, option_map, Option, Some, None, Result, Err, [], ◌∷◌, ◌++◌, refl, ap, sym, ◌∙◌, arith}
use Rattle.std.proofs.lemmas.Bool.{cond_both, ltb-false}
use Rattle.iop_base.specs.declared.code.Code.{Code}
use Rattle.iop_base.specs.declared.code.TheConstants.Code.{OK, UNKNOWN_THREAD, DORMANT, NOT_SUSPENDED}
use Rattle.iop_exec.specs.declared.cpu.Cpu.{Cpu}
use Rattle.iop_thread.specs.Changes.{is_begun, is_waiting, is_suspended, in_new_state, woken_state, suspended_with, resumed_state, woken_up, has_wakeup, part_of, ready_after, TurnsInPlace, TurnsRunning}
use Rattle.iop_thread.specs.Operations.{blocks_it, wakes_in, wakes_it, suspends_it, resumes_in, resumes_it, wakes_up_by, wakes_up_it, cancels_it, takes_wakeup_it}
use Rattle.iop_thread.specs.Placing.{IsPlaced, is_in_state}
use Rattle.iop_thread.specs.States.{is_dormant, is_ready, wait_in, sleeps}
use Rattle.iop_thread.specs.ThreadTable.{ThreadTable, thread_of, running_thread, with_thread}
use Rattle.iop_thread.specs.declared.state.State.{State}
use Rattle.iop_thread.specs.declared.state.State.TheVariants.{Dormant, Running, Ready, Waiting, Suspended, WaitingSuspended}
use Rattle.iop_thread.specs.declared.thread.Thread.{Thread}
use Rattle.iop_thread.specs.declared.thread.TheConstants.{MOST_WAKEUPS}
use Rattle.iop_thread.specs.declared.wait.Wait.{Wait}
use Rattle.iop_thread.proofs.Changing.{told, ready_leaving, next_leaving, ready_same, refuses, answers_not, told_of, takes_place, answers_so, runs_on, runs_not, turns_itself, turns_alike}
use Rattle.iop_thread.proofs.ChangesStarting.{unknown_not_ok, dormant_not_ok, not_suspended_not_ok, begun, not_begun, Does, IsCodeOk}
use Rattle.iop_thread.proofs.FindingThreads.{running_thread_runs, none_runs, running_id}
use Rattle.iop_thread.proofs.LiveThreads.{changed, thread_of_id}
use Rattle.iop_thread.proofs.Moving.{live_leaving}
use Rattle.iop_thread.proofs.Waking.{suspended_not_ready}

-- a thread with one wakeup more, or one that is woken
abbrev one_more : Thread → Thread
one_more t = record t { wakeups = min (t.wakeups + 1) MOST_WAKEUPS }

abbrev either : Thread → Bool → Thread
either t b = if b then in_new_state (woken_state 0) t else one_more t

module _ (s : ThreadTable) (id : ℕ) where
  -- a thread that is found in a state goes to another
  pub goes_to : (may : Bool) (change : State → State) (t : Thread) → thread_of s.live id ≡ Some t
      → (state : State) → t.state ≡ state → may ≡ true → (left : ThreadTable)
      → left.live ≡ changed (record t { state = change state }) s.live → left.next ≡ s.next
      → left.ready ≡ ready_after (is_ready state) (is_ready (change state)) id s.ready
      → TurnsInPlace s left id may (in_new_state change)
  goes_to may change t found state is holds left live next ready =
      takes_place s id t found may (in_new_state change) left holds refl
      (live ∙ ap (λ state. changed (record t { state = change state }) s.live) (sym is)) next
      (ready ∙ ap (λ state. ready_after (is_ready state) (is_ready (change state)) id s.ready)
      (sym is))

  -- it comes behind the ready ones
  comes_last : (t : Thread) → thread_of s.live id ≡ Some t
      → s.ready ++ t.id ∷ [] ≡ s.ready ++ id ∷ []
  comes_last t found = ap (λ one. s.ready ++ one ∷ []) (thread_of_id s.live id t found)

  -- a wait ends, by the state that the thread is in
  abbrev Wakes : (answer : ℕ) → ThreadTable → Type 0
  Wakes answer left =
      TurnsInPlace s left id (is_in_state is_waiting s.live id)
      (in_new_state (woken_state answer))

  wakes_not : (answer : ℕ) (t : Thread) → thread_of s.live id ≡ Some t
      → is_waiting t.state ≡ false → Wakes answer s
  wakes_not answer t found fails =
      refuses s id (is_in_state is_waiting s.live id) (in_new_state (woken_state answer))
      (told_of s id t found is_waiting ∙ fails)

  one_wakes_in : (answer : ℕ) (t : Thread) → thread_of s.live id ≡ Some t → (state : State)
      → t.state ≡ state → Wakes answer (wakes_in s answer t state)
  one_wakes_in answer t found Dormant is = wakes_not answer t found (ap is_waiting is)
  one_wakes_in answer t found Running is = wakes_not answer t found (ap is_waiting is)
  one_wakes_in answer t found (Ready own) is = wakes_not answer t found (ap is_waiting is)
  one_wakes_in answer t found (Waiting wait own) is =
      goes_to _ (woken_state answer) t found (Waiting wait own) is
      (told_of s id t found is_waiting ∙ ap is_waiting is) _ refl refl (comes_last t found)
  one_wakes_in answer t found (Suspended own) is = wakes_not answer t found (ap is_waiting is)
  one_wakes_in answer t found (WaitingSuspended wait own) is =
      goes_to _ (woken_state answer) t found (WaitingSuspended wait own) is
      (told_of s id t found is_waiting ∙ ap is_waiting is) _ refl refl refl

  pub one_wakes_it : (answer : ℕ) (o : Option Thread) → thread_of s.live id ≡ o
      → Wakes answer (wakes_it s answer o)
  one_wakes_it answer None found =
      refuses s id (is_in_state is_waiting s.live id) (in_new_state (woken_state answer))
      (ap (told is_waiting) found)
  one_wakes_it answer (Some t) found = one_wakes_in answer t found t.state refl

  -- a thread is suspended
  pub one_suspends_it : (registers : Cpu) (o : Option Thread) → thread_of s.live id ≡ o
      → Does s id IsCodeOk is_begun (in_new_state (suspended_with registers))
      (suspends_it s registers o)
  one_suspends_it registers None found =
      answers_not s id (UNKNOWN_THREAD ≡ OK) is_begun (in_new_state (suspended_with registers))
      unknown_not_ok (ap (told is_begun) found)
  one_suspends_it registers (Some t) found =
      let change = suspended_with registers in
      cond_both (is_dormant t.state) _ _ (Does s id IsCodeOk is_begun (in_new_state change))
      (λ dormant. answers_not s id (DORMANT ≡ OK) is_begun (in_new_state change) dormant_not_ok
      (told_of s id t found is_begun ∙ not_begun (is_dormant t.state) dormant))
      (λ other.
      let holds = told_of s id t found is_begun ∙ begun (is_dormant t.state) other in
      answers_so is_begun refl holds
      (goes_to _ change t found t.state refl holds _
      (ap (changed (record t { state = change t.state })) (live_leaving s t t.state))
      (next_leaving s t t.state)
      (ready_leaving s t id (thread_of_id s.live id t found) t.state
      ∙ sym (ap (λ is. ready_after (is_ready t.state) is id s.ready)
      (suspended_not_ready registers t.state)))))

  -- a thread is resumed, by the state that it is in
  abbrev Resumes : Code × ThreadTable → Type 0
  Resumes = Does s id IsCodeOk is_suspended (in_new_state resumed_state)

  resumes_not : (t : Thread) → thread_of s.live id ≡ Some t → is_suspended t.state ≡ false
      → Resumes (NOT_SUSPENDED, s)
  resumes_not t found fails =
      answers_not s id (NOT_SUSPENDED ≡ OK) is_suspended (in_new_state resumed_state)
      not_suspended_not_ok (told_of s id t found is_suspended ∙ fails)

  one_resumes_in : (t : Thread) → thread_of s.live id ≡ Some t → (state : State)
      → t.state ≡ state → Resumes (resumes_in s t state)
  one_resumes_in t found Dormant is = resumes_not t found (ap is_suspended is)
  one_resumes_in t found Running is = resumes_not t found (ap is_suspended is)
  one_resumes_in t found (Ready own) is = resumes_not t found (ap is_suspended is)
  one_resumes_in t found (Waiting wait own) is = resumes_not t found (ap is_suspended is)
  one_resumes_in t found (Suspended own) is =
      let holds = told_of s id t found is_suspended ∙ ap is_suspended is in
      answers_so is_suspended refl holds
      (goes_to _ resumed_state t found (Suspended own) is holds _ refl refl (comes_last t found))
  one_resumes_in t found (WaitingSuspended wait own) is =
      let holds = told_of s id t found is_suspended ∙ ap is_suspended is in
      answers_so is_suspended refl holds
      (goes_to _ resumed_state t found (WaitingSuspended wait own) is holds _ refl refl refl)

  pub one_resumes_it : (o : Option Thread) → thread_of s.live id ≡ o → Resumes (resumes_it s o)
  one_resumes_it None found =
      answers_not s id (UNKNOWN_THREAD ≡ OK) is_suspended (in_new_state resumed_state)
      unknown_not_ok (ap (told is_suspended) found)
  one_resumes_it (Some t) found = one_resumes_in t found t.state refl

  -- only the wakeups of a thread change
  one_has_wakeups : (may : Bool) (t : Thread) → thread_of s.live id ≡ Some t → may ≡ true
      → (change : Thread → ℕ)
      → TurnsInPlace s (with_thread s (record t { wakeups = change t })) id may
      (λ t. record t { wakeups = change t })
  one_has_wakeups may t found holds change =
      takes_place s id t found may (λ t. record t { wakeups = change t }) _ holds refl refl refl
      (ready_same s id (is_ready t.state))

  -- a thread is woken, by whether it sleeps
  one_wakes_up_by : (may : Bool) (t : Thread) → thread_of s.live id ≡ Some t → may ≡ true
      → TurnsInPlace s (wakes_up_by s t) id may woken_up
  one_wakes_up_by may t found holds =
      cond_both (sleeps (wait_in t.state)) _ _ (λ left. TurnsInPlace s left id may woken_up)
      (λ asleep. turns_alike s _ id t _ may (in_new_state (woken_state 0)) woken_up found
      (told_of s id t found is_waiting ∙ waits (wait_in t.state) asleep) holds
      (sym (ap (either t) asleep))
      (one_wakes_in 0 t found t.state refl))
      (λ awake. turns_alike s _ id t may may one_more woken_up found holds holds
      (sym (ap (either t) awake))
      (one_has_wakeups may t found holds (λ t. min (t.wakeups + 1) MOST_WAKEUPS)))
    where
      waits : (wait : Option Wait) → sleeps wait ≡ true → is_some wait ≡ true
      waits None asleep = cc
      waits (Some wait) asleep = refl

  pub one_wakes_up_it : (o : Option Thread) → thread_of s.live id ≡ o
      → Does s id IsCodeOk is_begun woken_up (wakes_up_it s o)
  one_wakes_up_it None found =
      answers_not s id (UNKNOWN_THREAD ≡ OK) is_begun woken_up unknown_not_ok
      (ap (told is_begun) found)
  one_wakes_up_it (Some t) found =
      cond_both (is_dormant t.state) _ _ (Does s id IsCodeOk is_begun woken_up)
      (λ dormant. answers_not s id (DORMANT ≡ OK) is_begun woken_up dormant_not_ok
      (told_of s id t found is_begun ∙ not_begun (is_dormant t.state) dormant))
      (λ other.
      let holds = told_of s id t found is_begun ∙ begun (is_dormant t.state) other in
      answers_so is_begun refl holds (one_wakes_up_by _ t found holds))

  -- the wakeups of a thread are forgotten
  abbrev Cancels : Result ℕ Code × ThreadTable → Type 0
  Cancels done =
      Does s id (λ r. is_ok r ≡ true) is_begun (λ t. record t { wakeups = 0 }) done
      × IfOk done.0 (λ wakeups. part_of (λ t. t.wakeups) s id ≡ Some wakeups)

  cancels_not : (code : Code) → is_in_state is_begun s.live id ≡ false → Cancels (Err code, s)
  cancels_not code fails = (
    answers_not s id (false ≡ true) is_begun (λ t. record t { wakeups = 0 }) (λ so. cc) fails,
    tt,
  )

  pub one_cancels_it : (o : Option Thread) → thread_of s.live id ≡ o → Cancels (cancels_it s o)
  one_cancels_it None found = cancels_not UNKNOWN_THREAD (ap (told is_begun) found)
  one_cancels_it (Some t) found =
      cond_both (is_dormant t.state) _ _ Cancels
      (λ dormant. cancels_not DORMANT
      (told_of s id t found is_begun ∙ not_begun (is_dormant t.state) dormant))
      (λ other.
      let holds = told_of s id t found is_begun ∙ begun (is_dormant t.state) other in (
        answers_so is_begun refl holds (one_has_wakeups _ t found holds (λ t. 0)),
        ap (option_map (λ (t : Thread). t.wakeups)) found,
      ))

module _ (s : ThreadTable) (placed : IsPlaced s) where
  -- the running thread waits
  pub one_blocks_it : (wait : Wait) (registers : Cpu) (o : Option Thread) → running_thread s ≡ o
      → TurnsRunning s (blocks_it s wait registers o)
      (λ t. record t { state = Waiting wait registers })
  one_blocks_it wait registers None is =
      runs_not s (λ t. record t { state = Waiting wait registers }) (none_runs s placed is)
  one_blocks_it wait registers (Some t) is =
      let runs = running_thread_runs s placed t is in
      let change = λ (state : State). Waiting wait registers in
      runs_on s t _ (in_new_state change) (running_id s t is)
      (goes_to s t.id true change t runs.found Running runs.is refl _ refl refl refl)

  -- the running thread takes a wakeup
  abbrev Takes : Option Thread → Bool × ThreadTable → Type 0
  Takes o done =
      TurnsRunning s done.1 (λ t. record t { wakeups = t.wakeups - 1 }) × (done.0 ≡ has_wakeup o)

  pub one_takes_wakeup_it : (o : Option Thread) → running_thread s ≡ o
      → Takes o (takes_wakeup_it s o)
  one_takes_wakeup_it None is =
      (runs_not s (λ t. record t { wakeups = t.wakeups - 1 }) (none_runs s placed is), refl)
  one_takes_wakeup_it (Some t) is =
      let found = (running_thread_runs s placed t is).found in
      let change = λ (t : Thread). record t { wakeups = t.wakeups - 1 } in
      cond_both (nat_lt 0 t.wakeups) _ _ (Takes (Some t))
      (λ some. (
        runs_on s t _ change (running_id s t is)
            (one_has_wakeups s t.id true t found refl (λ t. t.wakeups - 1)),
        sym some,
      ))
      (λ none. (
        runs_on s t _ change (running_id s t is)
            (turns_itself s t.id t change found (no_less t none)),
        sym none,
      ))
    where
      no_less : (t : Thread) → nat_lt 0 t.wakeups ≡ false
          → record t { wakeups = t.wakeups - 1 } ≡ t
      no_less t none =
          let least = ltb-false 0 t.wakeups none in
          let same : t.wakeups - 1 ≡ t.wakeups = omega (arith, least) in
          ap (λ (wakeups : ℕ). record t { wakeups = wakeups }) same
