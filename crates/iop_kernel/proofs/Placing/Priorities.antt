-- The priorities of threads after each operation: only that of the thread whose priority changes is
-- another, and that of one that is made, started or deleted, which waits for nothing.
use Rattle.std.proofs.Common.{◌≡◌, ◌≢◌, ℕ, ◌==◌, Bool, true, false, is_ok, Option, Some, None, Result, Ok, refl, ap, sym, ◌∙◌}
use Rattle.std.specs.Prelude.{option_map, unwrap_or}
use Rattle.std.proofs.lemmas.Bool.{cases_eq, cond_both, eqb-false, ne_eqb}
use Rattle.std.proofs.lemmas.Option.{same_Some}
use mathlib.Core.Logic.{◌⊎◌, inl, inr}
use Rattle.iop_base.specs.declared.code.Code.{Code}
use Rattle.iop_exec.specs.declared.cpu.Cpu.{Cpu}
use Rattle.iop_thread.specs.Changes.{woken_up, Turns, TurnsRunning, Rotates, Switches}
use Rattle.iop_thread.specs.Operations.{Dispatch, creates, deletes, starts, begins, ends_running, terminates, changes, changes_it, rotates, blocks, wakes, suspends, resumes, wakes_up, cancels, takes_wakeup, dispatches}
use Rattle.iop_thread.specs.Placing.{IsPlaced, is_in_state}
use Rattle.iop_thread.specs.States.{is_dormant, wait_in, sleeps}
use Rattle.iop_thread.specs.ThreadTable.{ThreadTable, thread_of, priority_of, has_priority, running_thread}
use Rattle.iop_thread.specs.Waits.{wait_of}
use Rattle.iop_thread.specs.declared.kind.Kind.{Kind}
use Rattle.iop_thread.specs.declared.param.Param.{Param}
use Rattle.iop_thread.specs.declared.thread.Thread.{Thread}
use Rattle.iop_thread.specs.declared.wait.Wait.{Wait}
use Rattle.iop_thread.specs.declared.wait.Wait.TheVariants.{Object}
use Rattle.iop_thread.proofs.Changes.{moves_one}
use Rattle.iop_thread.proofs.WaitingOn.{found_wait}
use Rattle.iop_thread.proofs.WaitsStarting.{dormant_waits}

-- each thread has the priority that it had
pub record KeepAll (old left : ThreadTable) : Type 0 where
  pub each : (t : ℕ) → priority_of left.live t ≡ priority_of old.live t

-- each that waits for an object has
abbrev pub KeepFor : Kind → ℕ → (old left : ThreadTable) → Type 0
KeepFor kind id old left =
    (t : ℕ) → wait_of old t ≡ Some (Object kind id)
    → priority_of left.live t ≡ priority_of old.live t

-- whichever object it is
pub record KeepPriorities (old left : ThreadTable) : Type 0 where
  pub waiting : (kind : Kind) (id : ℕ) → KeepFor kind id old left

-- so it is where all have
pub all_waiting : {old left : ThreadTable} → KeepAll old left → KeepPriorities old left
all_waiting all = record { waiting = λ kind id t is. all.each t }

-- two threads that wait for different things are two
pub other_wait : (s : ThreadTable) (t thread : ℕ) (wait now : Option Wait) → wait_of s t ≡ wait
    → wait_of s thread ≡ now → (wait ≡ now → ⊥) → (t == thread) ≡ false
other_wait s t thread wait now is was apart =
    ne_eqb t thread (λ same. apart (sym is ∙ ap (wait_of s) same ∙ was))

-- the priority of the thread that was found, if one was
abbrev found_priority : Option Thread → ℕ
found_priority o = unwrap_or (option_map (λ t. t.priority) o) 0

-- what a change of a thread leaves
abbrev KeepsIts : (Thread → Thread) → Type 0
KeepsIts change = (t : Thread) → (change t).priority ≡ t.priority

found_changed : (change : Thread → Thread) → KeepsIts change → (o : Option Thread)
    → found_priority (option_map change o) ≡ found_priority o
found_changed change kept None = refl
found_changed change kept (Some t) = kept t

-- a thread in that state waits for nothing
dormant_none : (o : Option Thread) → unwrap_or (option_map (λ t. is_dormant t.state) o) false ≡ true
    → found_wait o ≡ None
dormant_none None is = refl
dormant_none (Some t) is = dormant_waits t.state is

module _ (s : ThreadTable) where
  -- nothing changes
  kept_same : (left : ThreadTable) → left ≡ s → KeepAll s left
  kept_same left same = record { each = λ t. ap (λ (u : ThreadTable). priority_of u.live t) same }

  -- the thread of an id changes, but not its priority
  kept_own : (left : ThreadTable) (id : ℕ) (change : Thread → Thread) → KeepsIts change
      → thread_of left.live id ≡ option_map change (thread_of s.live id)
      → priority_of left.live id ≡ priority_of s.live id
  kept_own left id change kept is =
      ap found_priority is ∙ found_changed change kept (thread_of s.live id)

  kept_turned : (left : ThreadTable) (id : ℕ) (may : Bool) (change : Thread → Thread)
      → KeepsIts change → Turns s left id may change → KeepAll s left
  kept_turned left id false change kept turns = kept_same left (turns.refused refl)
  kept_turned left id true change kept turns = record {
    each = λ t. elim (cases_eq t id) [
      | inl same ↦
          ap (priority_of left.live) same ∙ kept_own left id change kept (turns.own refl)
          ∙ ap (priority_of s.live) (sym same)
      | inr other ↦ ap found_priority (turns.one.others t other)
    ];
  }

  -- the running thread does
  kept_running : (left : ThreadTable) (change : Thread → Thread) → KeepsIts change
      → TurnsRunning s left change → KeepAll s left
  kept_running left change kept turns = by s.running refl
    where
      by : (o : Option ℕ) → s.running ≡ o → KeepAll s left
      by None is = kept_same left (turns.idle is)
      by (Some id) is = kept_turned left id true change kept (turns.running id is).turns

  -- a thread that waits for nothing comes, goes or is another, or nothing changes
  kept_beside : (left : ThreadTable) (id : ℕ)
      → ((other : ℕ) → other ≢ id → thread_of left.live other ≡ thread_of s.live other)
      → (wait_of s id ≡ None) ⊎ (left ≡ s) → KeepPriorities s left
  kept_beside left id others how = record {
    waiting = λ kind n t is. elim (cases_eq t id) [
      | inl same ↦ elim how [
        | inl none ↦ let waits = ap (wait_of s) same in absurd (cc (is, waits, none))
        | inr stays ↦ (kept_same left stays).each t
      ]
      | inr other ↦ ap found_priority (others t other)
    ];
  }

  -- it does so where it is dormant
  kept_dormant : (left : ThreadTable) (id : ℕ) (may : Bool) → may ≡ is_in_state is_dormant s.live id
      → ((other : ℕ) → other ≢ id → thread_of left.live other ≡ thread_of s.live other)
      → (may ≡ false → left ≡ s) → KeepPriorities s left
  kept_dormant left id true is others refused =
      kept_beside left id others (inl (dormant_none (thread_of s.live id) (sym is)))
  kept_dormant left id false is others refused = kept_beside left id others (inr (refused refl))

  -- the ready threads of a priority are rotated
  kept_rotated : (left : ThreadTable) (priority : ℕ) (registers : Cpu)
      → Rotates s left priority registers → KeepAll s left
  kept_rotated left priority registers turns =
      by (has_priority priority (running_thread s)) refl s.running refl
    where
      by : (own : Bool) → has_priority priority (running_thread s) ≡ own → (o : Option ℕ)
          → s.running ≡ o → KeepAll s left
      by false other o is = record { each = λ t. ap found_priority (turns.stays other t) }
      by true own None is =
          absurd (cc (own, is))
      by true own (Some id) is =
          kept_turned left id true _ (λ t. refl) (turns.gives_way id is own).turns

  -- one is dispatched, and the one that ran gives way
  kept_dispatched : (registers : Cpu) (d : Dispatch) → Switches s registers d
      → KeepAll s d.threads
  kept_dispatched registers d turns = record {
    each = λ t. elim (cases_eq t d.id) [
      | inl same ↦
          ap (priority_of d.threads.live) same ∙ kept_own d.threads d.id _ (λ u. refl) turns.runs
          ∙ ap (priority_of s.live) (sym same)
      | inr other ↦ by t other s.running refl
    ];
  }
    where
      by : (t : ℕ) → t ≢ d.id → (o : Option ℕ) → s.running ≡ o
          → priority_of d.threads.live t ≡ priority_of s.live t
      by t other None is =
          ap found_priority (turns.others t other (λ runs. absurd (cc (runs, is))))
      by t other (Some r) is = elim (cases_eq t r) [
        | inl same ↦
            ap (priority_of d.threads.live) same
            ∙ kept_own d.threads r _ (λ u. refl) (turns.gave_way r is)
            ∙ ap (priority_of s.live) (sym same)
        | inr apart ↦ ap found_priority
            (turns.others t other (λ runs. apart (same_Some t r (sym runs ∙ is))))
      ]

-- each operation but a change of a priority leaves those of the threads that wait for objects
pub record KeepsPriorities (s : ThreadTable) : Type 0 where
  pub creates : (param : Param) (stack gp : ℕ) → KeepPriorities s (creates s param stack gp).1
  pub deletes : (id : ℕ) → KeepPriorities s (deletes s id).1
  pub starts : (id argument : ℕ) → KeepPriorities s (starts s id argument).1
  pub begins : (registers : Cpu) → KeepPriorities s (begins s registers)
  pub ends_running : KeepPriorities s (ends_running s)
  pub terminates : (id : ℕ) → KeepPriorities s (terminates s id).1
  pub rotates : (priority : ℕ) (registers : Cpu) → KeepPriorities s (rotates s priority registers)
  pub blocks : (wait : Wait) (registers : Cpu) → KeepAll s (blocks s wait registers)
  pub wakes : (id answer : ℕ) → KeepAll s (wakes s id answer)
  pub suspends : (id : ℕ) (registers : Cpu) → KeepPriorities s (suspends s id registers).1
  pub resumes : (id : ℕ) → KeepPriorities s (resumes s id).1
  pub wakes_up : (id : ℕ) → KeepPriorities s (wakes_up s id).1
  pub cancels : (id : ℕ) → KeepPriorities s (cancels s id).1
  pub takes_wakeup : KeepPriorities s (takes_wakeup s).1
  pub dispatches : (registers : Cpu) (d : Dispatch) → dispatches s registers ≡ Some d
      → KeepPriorities s d.threads

-- one that is woken keeps its own
woken : KeepsIts woken_up
woken t =
    cond_both (sleeps (wait_in t.state)) _ _ (λ (u : Thread). u.priority ≡ t.priority)
    (λ asleep. refl) (λ awake. refl)

pub keeps_priorities : (s : ThreadTable) → IsPlaced s → KeepsPriorities s
keeps_priorities s placed = let moves = moves_one s placed in record {
  creates = λ param stack gp. let made = (moves.creates param stack gp).0 in
      kept_beside s _ s.next made.others (inl (ap found_wait made.free));
  deletes = λ id. let gone = (moves.deletes id).0 in
      kept_dormant s _ id _ gone.answer gone.one.others gone.refused;
  starts = λ id argument. let turns = (moves.starts id argument).turns.turns in
      kept_dormant s _ id _ refl turns.one.others turns.refused;
  begins = λ registers.
      all_waiting (kept_turned s _ _ _ _ (λ t. refl) (moves.begins registers).turns);
  ends_running = all_waiting (kept_running s _ _ (λ t. refl) moves.ends_running);
  terminates = λ id.
      all_waiting (kept_turned s _ id _ _ (λ t. refl) (moves.terminates id).turns.turns);
  rotates = λ priority registers.
      all_waiting (kept_rotated s _ priority registers (moves.rotates priority registers));
  blocks = λ wait registers. kept_running s _ _ (λ t. refl) (moves.blocks wait registers);
  wakes = λ id answer. kept_turned s _ id _ _ (λ t. refl) (moves.wakes id answer).turns;
  suspends = λ id registers.
      all_waiting (kept_turned s _ id _ _ (λ t. refl) (moves.suspends id registers).turns.turns);
  resumes = λ id. all_waiting (kept_turned s _ id _ _ (λ t. refl) (moves.resumes id).turns.turns);
  wakes_up = λ id. all_waiting (kept_turned s _ id _ _ woken (moves.wakes_up id).turns.turns);
  cancels = λ id. all_waiting (kept_turned s _ id _ _ (λ t. refl) (moves.cancels id).0.turns.turns);
  takes_wakeup = all_waiting (kept_running s _ _ (λ t. refl) moves.takes_wakeup.0);
  dispatches = λ registers d did.
      all_waiting (kept_dispatched s registers d (moves.dispatches registers d did));
}

-- the priority of one thread is another, which waits for this; all others have theirs
pub record IsChanged (s left : ThreadTable) (id priority : ℕ) (wait : Option Wait) : Type 0 where
  pub waits : wait_of s id ≡ wait
  pub own : priority_of left.live id ≡ priority
  pub others : (t : ℕ) → (t == id) ≡ false → priority_of left.live t ≡ priority_of s.live t

module _ (s : ThreadTable) (placed : IsPlaced s) (id priority : ℕ) (wait : Option Wait) where
  abbrev Done : Type 0
  Done = Result (Option Wait) Code × ThreadTable

  -- the thread is found, and what it waits for is answered
  changed_waits : (o : Option Thread) → (changes_it s priority o).0 ≡ Ok wait
      → (t : Thread) × ((o ≡ Some t) × (wait_in t.state ≡ wait))
  changed_waits None = λ did. cc
  changed_waits (Some t) =
      cond_both (is_dormant t.state) _ _ (λ (r : Done). r.0 ≡ Ok wait
      → (u : Thread) × ((Some t ≡ Some u) × (wait_in u.state ≡ wait)))
      (λ dormant did. cc) (λ other did. let is : wait_in t.state ≡ wait = cc in
      (t, (refl, is)))

  pub changes_priority : (changes s id priority).0 ≡ Ok wait
      → IsChanged s (changes s id priority).1 id priority wait
  changes_priority did =
      let moved = (moves_one s placed).changes id priority in
      let found = changed_waits (thread_of s.live id) did in
      let done = ap is_ok did in
      record {
        waits = ap found_wait found.1.0 ∙ found.1.1;
        own = ap found_priority (moved.turns.own done)
            ∙ ap (λ o. found_priority
            (option_map (λ (t : Thread). record t { priority = priority }) o)) found.1.0;
        others = λ t apart. ap found_priority (moved.turns.one.others t (eqb-false t id apart));
      }
