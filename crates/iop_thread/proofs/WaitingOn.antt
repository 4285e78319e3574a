-- Which threads are live, what each waits for, and which one runs, when one thread changes.
use Rattle.std.proofs.Common.{◌≡◌, ℕ, ◌==◌, Bool, true, false, if◌then◌else◌, is_some, option_map, option_and_then, Option, Some, None, refl, ap, sym, ◌∙◌, arith}
use Rattle.std.proofs.lemmas.Bool.Decides.{nat_tests}
use Rattle.iop_exec.specs.declared.cpu.Cpu.{Cpu}
use Rattle.iop_thread.specs.declared.state.State.{State}
use Rattle.iop_thread.specs.declared.state.State.TheVariants.{Dormant, Running, Ready, Waiting, Suspended, WaitingSuspended}
use Rattle.iop_thread.specs.declared.thread.Thread.{Thread}
use Rattle.iop_thread.specs.declared.wait.Wait.{Wait}
use Rattle.iop_thread.specs.Placing.{IsPlaced, is_in_state}
use Rattle.iop_thread.specs.States.{is_running, wait_in, suspended_state}
use Rattle.iop_thread.specs.ThreadTable.{ThreadTable, thread_of, is_it, leaves}
use Rattle.iop_thread.specs.Waits.{is_live, wait_of, WaitOn, WaitBut, running_but}
use Rattle.iop_thread.proofs.LiveThreads.{changed, thread_of_changed}
use Rattle.iop_thread.proofs.Moving.{found_there}

-- a thread that is suspended waits on
pub wait_suspended : (registers : Cpu) (state : State)
    → wait_in (suspended_state registers state) ≡ wait_in state
wait_suspended registers Dormant = refl
wait_suspended registers Running = refl
wait_suspended registers (Ready own) = refl
wait_suspended registers (Waiting wait own) = refl
wait_suspended registers (Suspended own) = refl
wait_suspended registers (WaitingSuspended wait own) = refl

-- what the thread that was found waits for, if one was
abbrev pub found_wait : Option Thread → Option Wait
found_wait o = option_and_then (λ t. wait_in t.state) o

-- what a thread waits for after a change, by whether it is the one that changed
wait_by : (old u : Thread) (o : Option Thread) (b : Bool) → (b ≡ true → o ≡ Some old)
    → found_wait (if b then option_map (λ v. u) o else o)
    ≡ (if b then wait_in u.state else found_wait o)
wait_by old u o true found = rw (found refl) refl
wait_by old u o false found = refl

-- as many are live
live_by : (u : Thread) (o : Option Thread) (b : Bool)
    → is_some (if b then option_map (λ v. u) o else o) ≡ is_some o
live_by u None true = refl
live_by u (Some t) true = refl
live_by u o false = refl

module _ (s : ThreadTable) where
  -- the threads are the same, and so is each wait
  pub on_same : (left : ThreadTable) → left.live ≡ s.live → (running : Option ℕ)
      → left.running ≡ running → WaitOn s left running
  on_same left same running runs = record {
    live = λ id. ap (λ live. is_some (thread_of live id)) same;
    waits = λ id. ap (λ live. found_wait (thread_of live id)) same;
    running = runs;
  }

  -- nothing changes, and the thread of an id, if there is one, waits for this already
  pub but_same : (at : Option ℕ) (wait : Option Wait)
      → ((id : ℕ) → is_it at id ≡ true → wait_of s id ≡ wait) → (running : Option ℕ)
      → s.running ≡ running → WaitBut s s at wait running
  but_same at wait there running runs = record {
    live = λ id. refl;
    waits = λ id. by id (is_it at id) refl;
    running = runs;
  }
    where
      by : (id : ℕ) (b : Bool) → is_it at id ≡ b
          → wait_of s id ≡ (if b then wait else wait_of s id)
      by id true it = there id it
      by id false other = refl

  -- one thread changes
  module _ (old u : Thread) (found : thread_of s.live u.id ≡ Some old) (left : ThreadTable)
      (same : left.live ≡ changed u s.live) (running : Option ℕ)
      (runs : left.running ≡ running) where
    -- the same ones are live
    live_changed : (id : ℕ) → is_live left id ≡ is_live s id
    live_changed id =
        ap (λ live. is_some (thread_of live id)) same ∙ ap is_some (thread_of_changed s.live u id)
        ∙ live_by u (thread_of s.live id) (id == u.id)

    -- each other one waits for what it did
    wait_changed : (id : ℕ) → wait_of left id
        ≡ (if id == u.id then wait_in u.state else wait_of s id)
    wait_changed id =
        ap (λ live. found_wait (thread_of live id)) same
        ∙ ap found_wait (thread_of_changed s.live u id)
        ∙ wait_by old u (thread_of s.live id) (id == u.id) (found_there s.live old u id found)

    -- it waits for what it did
    pub on_changed : wait_in u.state ≡ wait_in old.state → WaitOn s left running
    on_changed kept = record {
      live = live_changed;
      waits = λ id. wait_changed id ∙ by id (id == u.id) refl;
      running = runs;
    }
      where
        by : (id : ℕ) (b : Bool) → (id == u.id) ≡ b
            → (if b then wait_in u.state else wait_of s id) ≡ wait_of s id
        by id true it = kept ∙ sym (ap found_wait (found_there s.live old u id found it))
        by id false other = refl

    -- it waits for something else
    pub but_changed : (wait : Option Wait) → wait_in u.state ≡ wait
        → WaitBut s left (Some u.id) wait running
    but_changed wait now = record {
      live = live_changed;
      waits = λ id. grind (arith, nat_tests, wait_changed id, now);
      running = runs;
    }

-- one change and then another
pub on_then : (s t u : ThreadTable) (first second : Option ℕ) → WaitOn s t first → WaitOn t u second
    → WaitOn s u second
on_then s t u first second before after = record {
  live = λ id. after.live id ∙ before.live id;
  waits = λ id. after.waits id ∙ before.waits id;
  running = after.running;
}

module _ (s : ThreadTable) (placed : IsPlaced s) (id : ℕ) where
  -- an id that finds no thread does not run
  pub running_without : thread_of s.live id ≡ None → s.running ≡ running_but s id
  running_without none =
      let at : is_it s.running id ≡ false = placed.running id ∙ idle in rw at refl
    where
      idle : is_in_state is_running s.live id ≡ false
      idle = rw none refl

  module _ (t : Thread) (found : thread_of s.live id ≡ Some t) where
    -- it runs where its state says so
    runs_so : is_it s.running id ≡ is_running t.state
    runs_so = placed.running id ∙ there
      where
        there : is_in_state is_running s.live id ≡ is_running t.state
        there = rw found refl

    -- it does not run where its state says so
    pub running_beside : is_running t.state ≡ false → s.running ≡ running_but s id
    running_beside idle = let at = runs_so ∙ idle in rw at refl

    -- where it leaves, it does not run
    leaves_by : (state : State) → is_it s.running id ≡ is_running state
        → (leaves s t state).running ≡ running_but s id
    leaves_by Dormant at = rw at refl
    leaves_by Running at = rw at refl
    leaves_by (Ready own) at = rw at refl
    leaves_by (Waiting wait own) at = rw at refl
    leaves_by (Suspended own) at = rw at refl
    leaves_by (WaitingSuspended wait own) at = rw at refl

    pub running_leaving : (leaves s t t.state).running ≡ running_but s id
    running_leaving = leaves_by t.state runs_so
