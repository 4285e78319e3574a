-- Which changes of threads leave the loader's thread dormant, or not dormant, as it was.
use Rattle.std.proofs.Common.{◌≡◌, ◌≢◌, ℕ, ◌==◌, Bool, true, false, option_map, Option, Some, None, refl, ap, sym, ◌∙◌, subst}
use Rattle.std.specs.Prelude.{option_and_then, unwrap_or}
use Rattle.std.proofs.lemmas.Bool.{cond_both, eq-eqb, eqb-true}
use Rattle.iop_exec.specs.declared.cpu.Cpu.{Cpu}
use Rattle.iop_thread.specs.Changes.{ChangesOne, Turns, TurnsRunning, Rotates, Makes, woken_state, suspended_with, resumed_state, woken_up}
use Rattle.iop_thread.specs.Placing.{IsPlaced}
use Rattle.iop_thread.specs.States.{is_dormant, is_running, sleeps, wait_in}
use Rattle.iop_thread.specs.ThreadTable.{ThreadTable, thread_of, has_priority, is_it, running_thread}
use Rattle.iop_thread.specs.declared.state.State.{State}
use Rattle.iop_thread.specs.declared.state.State.TheVariants.{Dormant, Running, Ready, Waiting, Suspended, WaitingSuspended}
use Rattle.iop_thread.specs.declared.thread.Thread.{Thread}
use Rattle.iop_thread.specs.declared.thread.TheConstants.{LOADER}

abbrev pub dormancy : Thread → Bool
dormancy t = is_dormant t.state

-- the loader's thread is there, and dormant or not
abbrev pub LoaderIs : Bool → ThreadTable → Type 0
LoaderIs b s = option_map dormancy (thread_of s.live LOADER) ≡ Some b

-- ---- what changes of a state

pub busy : (state : State) → is_running state ≡ true → false ≡ is_dormant state
busy Dormant is = absurd (cc is)
busy Running is = refl
busy (Ready own) is = refl
busy (Waiting wait own) is = refl
busy (Suspended own) is = refl
busy (WaitingSuspended wait own) is = refl

pub woken_so : (answer : ℕ) (state : State)
    → is_dormant (woken_state answer state) ≡ is_dormant state
woken_so answer Dormant = refl
woken_so answer Running = refl
woken_so answer (Ready own) = refl
woken_so answer (Waiting wait own) = refl
woken_so answer (Suspended own) = refl
woken_so answer (WaitingSuspended wait own) = refl

pub suspended_so : (registers : Cpu) (state : State)
    → is_dormant (suspended_with registers state) ≡ is_dormant state
suspended_so registers Dormant = refl
suspended_so registers Running = refl
suspended_so registers (Ready own) = refl
suspended_so registers (Waiting wait own) = refl
suspended_so registers (Suspended own) = refl
suspended_so registers (WaitingSuspended wait own) = refl

pub resumed_so : (state : State) → is_dormant (resumed_state state) ≡ is_dormant state
resumed_so Dormant = refl
resumed_so Running = refl
resumed_so (Ready own) = refl
resumed_so (Waiting wait own) = refl
resumed_so (Suspended own) = refl
resumed_so (WaitingSuspended wait own) = refl

pub woken_up_so : (t : Thread) → dormancy (woken_up t) ≡ dormancy t
woken_up_so t =
    cond_both (sleeps (wait_in t.state)) _ _ (λ (u : Thread). dormancy u ≡ dormancy t)
    (λ asleep. woken_so 0 t.state) (λ awake. refl)

-- ---- what an operation changes

pub apart : (id : ℕ) → (id == LOADER) ≡ false → LOADER ≢ id
apart id other same = let is = eq-eqb id LOADER (sym same) in absurd (cc (is, other))

module _ (b : Bool) (s left : ThreadTable) (h : LoaderIs b s) where
  -- nothing, or another thread
  nothing : left ≡ s → LoaderIs b left
  nothing same = subst (LoaderIs b) (sym same) h

  pub found_so : thread_of left.live LOADER ≡ thread_of s.live LOADER → LoaderIs b left
  found_so same = ap (option_map dormancy) same ∙ h

  pub another : (id : ℕ) → (id == LOADER) ≡ false → ChangesOne s left id → LoaderIs b left
  another id other one = found_so (one.others LOADER (apart id other))

  -- the loader's thread becomes another
  mapped : (change : Thread → Thread) (o : Option Thread) → option_map dormancy o ≡ Some b
      → ((t : Thread) → o ≡ Some t → dormancy (change t) ≡ dormancy t)
      → option_map dormancy (option_map change o) ≡ Some b
  mapped change None is keeps = absurd (cc is)
  mapped change (Some t) is keeps = ap (λ (x : Bool). Some x) (keeps t refl) ∙ is

  pub becomes : (change : Thread → Thread)
      → thread_of left.live LOADER ≡ option_map change (thread_of s.live LOADER)
      → ((t : Thread) → thread_of s.live LOADER ≡ Some t → dormancy (change t) ≡ dormancy t)
      → LoaderIs b left
  becomes change own keeps =
      ap (option_map dormancy) own ∙ mapped change (thread_of s.live LOADER) h keeps

  module _ (id : ℕ) (may : Bool) (change : Thread → Thread)
      (keeps : (t : Thread) → thread_of s.live id ≡ Some t → may ≡ true
      → dormancy (change t) ≡ dormancy t)
      (turns : Turns s left id may change) where
    its : id ≡ LOADER → (m : Bool) → may ≡ m → LoaderIs b left
    its is false refused = nothing (turns.refused refused)
    its is true done =
        becomes change
        (subst (λ (n : ℕ). thread_of left.live n ≡ option_map change (thread_of s.live n)) is
        (turns.own done))
        (λ t found. keeps t (subst (λ (n : ℕ). thread_of s.live n ≡ Some t) (sym is) found) done)

    by_id : (same : Bool) → (id == LOADER) ≡ same → LoaderIs b left
    by_id false other = another id other turns.one
    by_id true is = its (eqb-true id LOADER is) may refl

    pub turned : LoaderIs b left
    turned = by_id (id == LOADER) refl

  module _ (placed : IsPlaced s) where
    -- the thread of the id that runs is running
    pub runs : (id : ℕ) (t : Thread) → s.running ≡ Some id → thread_of s.live id ≡ Some t
        → is_running t.state ≡ true
    runs id t at found =
        subst (λ (o : Option Thread).
        unwrap_or (option_map (λ (u : Thread). is_running u.state) o) false ≡ true) found
        (sym (placed.running id) ∙ ap (λ (o : Option ℕ). is_it o id) at ∙ eq-eqb id id refl)

    -- the running thread becomes another
    pub running_turned : (change : Thread → Thread)
        → ((t : Thread) → is_running t.state ≡ true → dormancy (change t) ≡ dormancy t)
        → TurnsRunning s left change → LoaderIs b left
    running_turned change keeps turns = by s.running refl
      where
        by : (o : Option ℕ) → s.running ≡ o → LoaderIs b left
        by None idle = nothing (turns.idle idle)
        by (Some id) at =
            turned id true change (λ t found may. keeps t (runs id t at found))
            (turns.running id at).turns

    -- it gives way
    pub rotated : (priority : ℕ) (registers : Cpu) → Rotates s left priority registers
        → LoaderIs b left
    rotated priority registers r = by (has_priority priority (running_thread s)) refl
      where
        gives : has_priority priority (running_thread s) ≡ true → (o : Option ℕ) → s.running ≡ o
            → LoaderIs b left
        gives holds None idle =
            let none : has_priority priority (option_and_then (thread_of s.live) None) ≡ true =
            subst (λ (o : Option ℕ).
            has_priority priority (option_and_then (thread_of s.live) o) ≡ true) idle holds in
            absurd (cc none)
        gives holds (Some id) at =
            turned id true (λ t. record t { state = Ready registers })
            (λ t found may. busy t.state (runs id t at found)) (r.gives_way id at holds).turns

        by : (holds : Bool) → has_priority priority (running_thread s) ≡ holds → LoaderIs b left
        by false fails = found_so (r.stays fails LOADER)
        by true holds = gives holds s.running refl

  -- a thread is made, with another id
  pub made : (done : Bool) (new : Thread) → Makes s left done new → LoaderIs b left
  made false new m = nothing (m.refused refl)
  made true new m = found_so (m.others LOADER next_apart)
    where
      next_apart : LOADER ≢ s.next
      next_apart same =
          let none : thread_of s.live LOADER ≡ None =
          subst (λ (n : ℕ). thread_of s.live n ≡ None) (sym same) m.free in
          let is : option_map dormancy None ≡ Some b = ap (option_map dormancy) (sym none) ∙ h in
          absurd (cc is)
