-- What changes when a thread is made, deleted, started, ended or given a priority.
use Rattle.std.proofs.Common.{◌≡◌, ◌≢◌, ℕ, ◌+◌, Bool, true, false, not, if◌then◌else◌, is_ok, IfOk, option_map, Option, Some, None, Result, Ok, Err, [], ◌∷◌, ◌++◌, refl, ap, sym, ◌∙◌, arith}
use Rattle.std.proofs.lemmas.Bool.{cond_both, ne_eqb}
use Rattle.std.proofs.lemmas.Bool.Decides.{nat_tests}
use Rattle.iop_base.specs.declared.code.Code.{Code}
use Rattle.iop_base.specs.declared.code.TheConstants.Code.{OK, UNKNOWN_THREAD, DORMANT, NOT_DORMANT, NOT_SUSPENDED}
use Rattle.iop_exec.specs.declared.cpu.Cpu.{Cpu}
use Rattle.iop_thread.specs.Changes.{is_begun, started, part_of, ready_after, TurnsInPlace, TurnsWhere, TurnsRunning, Makes, Deletes, ChangesPriority}
use Rattle.iop_thread.specs.Operations.{dormant_thread, creates, deletes_it, starts_it, begins_it, ends_it, terminates_it, changes_it}
use Rattle.iop_thread.specs.Placing.{IsPlaced, is_in_state}
use Rattle.iop_thread.specs.States.{is_dormant, is_ready, wait_in}
use Rattle.iop_thread.specs.ThreadTable.{ThreadTable, thread_of, without, has_room, running_thread, with_priority}
use Rattle.iop_thread.specs.declared.param.Param.{Param}
use Rattle.iop_thread.specs.declared.state.State.{State}
use Rattle.iop_thread.specs.declared.state.State.TheVariants.{Dormant, Ready}
use Rattle.iop_thread.specs.declared.thread.Thread.{Thread}
use Rattle.iop_thread.specs.declared.wait.Wait.{Wait}
use Rattle.iop_thread.proofs.Changing.{told, ready_leaving, next_leaving, one_same, unturned, refuses, answers_not, told_of, turned, takes_place, answers_so, runs_on, runs_not}
use Rattle.iop_thread.proofs.FindingThreads.{dormant_state, running_thread_runs, none_runs, running_id}
use Rattle.iop_thread.proofs.LiveThreads.{changed, without_thread, thread_of_added, thread_of_id, thread_of_without, none_of_next}
use Rattle.iop_thread.proofs.Moving.{live_leaving}

-- a refusal is not success
pub unknown_not_ok : UNKNOWN_THREAD ≢ OK
unknown_not_ok same = let at = ap (λ (code : Code). code.0) same in cc

pub dormant_not_ok : DORMANT ≢ OK
dormant_not_ok same = let at = ap (λ (code : Code). code.0) same in cc

not_dormant_not_ok : NOT_DORMANT ≢ OK
not_dormant_not_ok same = let at = ap (λ (code : Code). code.0) same in cc

pub not_suspended_not_ok : NOT_SUSPENDED ≢ OK
not_suspended_not_ok same = let at = ap (λ (code : Code). code.0) same in cc

-- a thread that is not dormant has begun
pub begun : (b : Bool) → b ≡ false → not b ≡ true
begun true fails = cc
begun false fails = refl

pub not_begun : (b : Bool) → b ≡ true → not b ≡ false
not_begun true holds = refl
not_begun false holds = cc

abbrev pub IsCodeOk : Code → Type 0
IsCodeOk code = code ≡ OK

module _ (s : ThreadTable) (id : ℕ) where
  -- an operation that is done where the thread of an id is in such a state
  abbrev pub Does : {A : Type 0} → (A → Type 0) → (State → Bool) → (Thread → Thread)
      → A × ThreadTable → Type 0
  Does answered p change done = TurnsWhere (answered done.0) s done.1 id p change

  -- one that was dormant is ready behind all others
  last : (t : Thread) → thread_of s.live id ≡ Some t → is_dormant t.state ≡ true
      → s.ready ++ t.id ∷ [] ≡ ready_after (is_ready t.state) true id s.ready
  last t found dormant =
      ap (λ one. s.ready ++ one ∷ []) (thread_of_id s.live id t found)
      ∙ sym (ap (λ state. ready_after (is_ready state) true id s.ready)
      (dormant_state t.state dormant))

  -- a dormant thread is started
  pub one_starts_it : (argument : ℕ) (o : Option Thread) → thread_of s.live id ≡ o
      → Does IsCodeOk is_dormant (started argument) (starts_it s argument o)
  one_starts_it argument None found =
      answers_not s id (UNKNOWN_THREAD ≡ OK) is_dormant (started argument) unknown_not_ok
      (ap (told is_dormant) found)
  one_starts_it argument (Some t) found =
      cond_both (is_dormant t.state) _ _ (Does IsCodeOk is_dormant (started argument))
      (λ dormant. answers_so is_dormant refl (told_of s id t found is_dormant ∙ dormant)
      (takes_place s id t found _ (started argument) _
      (told_of s id t found is_dormant ∙ dormant) refl refl refl (last t found dormant)))
      (λ other. answers_not s id (NOT_DORMANT ≡ OK) is_dormant (started argument)
      not_dormant_not_ok (told_of s id t found is_dormant ∙ other))

  -- a thread is ended by another
  pub one_terminates_it : (o : Option Thread) → thread_of s.live id ≡ o
      → Does (λ r. is_ok r ≡ true) is_begun (λ t. record t { state = Dormant })
      (terminates_it s o)
  one_terminates_it None found =
      answers_not s id (false ≡ true) is_begun (λ t. record t { state = Dormant }) (λ so. cc)
      (ap (told is_begun) found)
  one_terminates_it (Some t) found =
      cond_both (is_dormant t.state) _ _
      (Does (λ r. is_ok r ≡ true) is_begun (λ t. record t { state = Dormant }))
      (λ dormant. answers_not s id (false ≡ true) is_begun (λ t. record t { state = Dormant })
      (λ so. cc) (told_of s id t found is_begun ∙ not_begun (is_dormant t.state) dormant))
      (λ other.
      let holds = told_of s id t found is_begun ∙ begun (is_dormant t.state) other in
      answers_so is_begun refl holds
      (takes_place s id t found _ (λ t. record t { state = Dormant }) _ holds refl
      (ap (changed (record t { state = Dormant })) (live_leaving s t t.state))
      (next_leaving s t t.state)
      (ready_leaving s t id (thread_of_id s.live id t found) t.state)))

  -- the loader's thread begins, if it is dormant
  pub one_begins_it : (registers : Cpu) (o : Option Thread) → thread_of s.live id ≡ o
      → TurnsInPlace s (begins_it s registers o) id (is_in_state is_dormant s.live id)
      (λ t. record t { state = Ready registers })
  one_begins_it registers None found =
      refuses s id _ (λ t. record t { state = Ready registers }) (ap (told is_dormant) found)
  one_begins_it registers (Some t) found =
      let change = λ (t : Thread). record t { state = Ready registers } in
      cond_both (is_dormant t.state) _ _
      (λ left. TurnsInPlace s left id (is_in_state is_dormant s.live id) change)
      (λ dormant. takes_place s id t found _ change _ (told_of s id t found is_dormant ∙ dormant)
      refl refl refl (last t found dormant))
      (λ other. refuses s id _ change (told_of s id t found is_dormant ∙ other))

  -- the priority of a thread changes
  abbrev IsChanged : (priority : ℕ) → Result (Option Wait) Code × ThreadTable → Type 0
  IsChanged priority done = ChangesPriority s done.1 id priority (is_ok done.0)

  -- not where it is dormant
  not_changed : (priority : ℕ) (code : Code) → is_in_state is_begun s.live id ≡ false
      → is_in_state is_ready s.live id ≡ false → IsChanged priority (Err code, s)
  not_changed priority code fails idle = record {
    answer = sym fails;
    turns = unturned s id false (λ t. record t { priority = priority }) refl;
    moved = λ ready. absurd (cc (ready, idle));
    stays = λ other. refl;
  }

  is_changed : (priority : ℕ) (t : Thread) → thread_of s.live id ≡ Some t
      → is_in_state is_begun s.live id ≡ true
      → IsChanged priority (Ok (wait_in t.state), with_priority s t priority)
  is_changed priority t found holds = record {
    answer = sym holds;
    turns = turned s id t found true (λ t. record t { priority = priority }) _ refl refl refl refl;
    moved = λ ready.
        by_ready true (sym (told_of s id t found is_ready) ∙ ready)
        ∙ ap (λ one. without one s.ready ++ one ∷ []) (thread_of_id s.live id t found);
    stays = λ other. by_ready false (sym (told_of s id t found is_ready) ∙ other);
  }
    where
      by_ready : (b : Bool) → is_ready t.state ≡ b → (with_priority s t priority).ready
          ≡ (if b then without t.id s.ready ++ t.id ∷ [] else s.ready)
      by_ready b is = ap (λ b. if b then without t.id s.ready ++ t.id ∷ [] else s.ready) is

  pub one_changes_it : (priority : ℕ) (o : Option Thread) → thread_of s.live id ≡ o
      → IsChanged priority (changes_it s priority o)
  one_changes_it priority None found =
      not_changed priority UNKNOWN_THREAD (ap (told is_begun) found) (ap (told is_ready) found)
  one_changes_it priority (Some t) found =
      cond_both (is_dormant t.state) _ _ (IsChanged priority)
      (λ dormant. not_changed priority DORMANT
      (told_of s id t found is_begun ∙ not_begun (is_dormant t.state) dormant)
      (told_of s id t found is_ready ∙ ap is_ready (dormant_state t.state dormant)))
      (λ other. is_changed priority t found
      (told_of s id t found is_begun ∙ begun (is_dormant t.state) other))

  -- a dormant thread is deleted
  abbrev IsDeleted : Result ℕ Code × ThreadTable → Type 0
  IsDeleted done =
      Deletes s done.1 id (is_ok done.0)
      × IfOk done.0 (λ stack. part_of (λ t. t.stack) s id ≡ Some stack)

  not_deleted : (code : Code) → is_in_state is_dormant s.live id ≡ false → IsDeleted (Err code, s)
  not_deleted code fails = (
    record {
      answer = sym fails;
      one = one_same s id;
      gone = λ so. cc;
      ready = refl;
      refused = λ none. refl;
    },
    tt,
  )

  is_deleted : (t : Thread) → thread_of s.live id ≡ Some t → is_in_state is_dormant s.live id ≡ true
      → IsDeleted (Ok t.stack, record s { live = without_thread t.id s.live })
  is_deleted t found holds =
      let same = thread_of_id s.live id t found in (
        record {
          answer = sym holds;
          one = record {
            others = λ other apart.
                let left = thread_of_without s.live t.id other in
                let fails = ne_eqb other t.id (λ it. apart (it ∙ same)) in
                grind (arith, left, fails);
            next = refl;
          };
          gone = λ so. let left = thread_of_without s.live t.id id in
              grind (arith, nat_tests, left, same);
          ready = refl;
          refused = λ so. cc;
        },
        ap (option_map (λ (t : Thread). t.stack)) found,
      )

  pub one_deletes_it : (o : Option Thread) → thread_of s.live id ≡ o → IsDeleted (deletes_it s o)
  one_deletes_it None found = not_deleted UNKNOWN_THREAD (ap (told is_dormant) found)
  one_deletes_it (Some t) found =
      cond_both (is_dormant t.state) _ _ IsDeleted
      (λ dormant. is_deleted t found (told_of s id t found is_dormant ∙ dormant))
      (λ other. not_deleted NOT_DORMANT (told_of s id t found is_dormant ∙ other))

module _ (s : ThreadTable) (placed : IsPlaced s) where
  -- a thread is made, where there is room
  abbrev IsMade : Thread → Result ℕ Code × ThreadTable → Type 0
  IsMade t done = Makes s done.1 (is_ok done.0) t × IfOk done.0 (λ id. id ≡ s.next)

  pub one_creates : (param : Param) (stack gp : ℕ)
      → IsMade (dormant_thread s.next param stack gp) (creates s param stack gp)
  one_creates param stack gp =
      let t = dormant_thread s.next param stack gp in
      let none = none_of_next s.live s.next placed.ids.given in
      cond_both (has_room s) _ _ (IsMade t) (λ room. (made t none refl, refl))
      (λ full. (
        record {
          free = none;
          own = λ so. absurd (cc so);
          next = λ so. absurd (cc so);
          others = λ other apart. refl;
          ready = refl;
          refused = λ fails. refl;
        },
        tt,
      ))
    where
      made : (t : Thread) → thread_of s.live s.next ≡ None → t.id ≡ s.next
          → Makes s (record s { live = s.live ++ t ∷ []; next = s.next + 1 }) true t
      made t none same = record {
        free = none;
        own = λ so.
            let added = thread_of_added s.live t s.next (ap (thread_of s.live) same ∙ none) in
            grind (arith, nat_tests, added, same);
        next = λ so. refl;
        others = λ other apart.
            let added = thread_of_added s.live t other (ap (thread_of s.live) same ∙ none) in
            let fails = ne_eqb other t.id (λ it. apart (it ∙ same)) in
            grind (arith, added, fails);
        ready = refl;
        refused = λ fails. absurd (cc fails);
      }

  -- the running thread ends
  pub one_ends_it : (o : Option Thread) → running_thread s ≡ o
      → TurnsRunning s (ends_it s o) (λ t. record t { state = Dormant })
  one_ends_it None is = runs_not s (λ t. record t { state = Dormant }) (none_runs s placed is)
  one_ends_it (Some t) is =
      let runs = running_thread_runs s placed t is in
      let change = λ (t : Thread). record t { state = Dormant } in
      runs_on s t _ change (running_id s t is)
      (takes_place s t.id t runs.found true change _ refl refl refl refl
      (sym (ap (λ state. ready_after (is_ready state) false t.id s.ready) runs.is)))
