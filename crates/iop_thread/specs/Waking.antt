-- A wait that ends with an answer: what becomes of the thread, and what stays. A law of the
-- operations that end one (ps2sdk: thbase).
use Rattle.std.specs.Prelude.{◌≡◌, ◌≢◌, ℕ, Bool, true, false, Option, Some, None, option_map, List, [], ◌∷◌, ◌++◌, filter, Contains}
use Rattle.iop_exec.specs.declared.cpu.Cpu.{Cpu}
use Rattle.iop_exec.specs.Row.{with_reg}
use Rattle.iop_thread.specs.declared.state.State.{State}
use Rattle.iop_thread.specs.declared.state.State.TheVariants.{Dormant, Ready, Waiting, Suspended, WaitingSuspended}
use Rattle.iop_thread.specs.declared.thread.Thread.{Thread}
use Rattle.iop_thread.specs.declared.wait.Wait.{Wait}
use Rattle.iop_thread.specs.declared.wait.Wait.TheVariants.{Sleep}
use Rattle.iop_thread.specs.Operations.{wakes, wakes_up}
use Rattle.iop_thread.specs.ThreadTable.{ThreadTable, thread_of}
use Rattle.iop_thread.specs.Waits.{wait_of}

-- the state of the live thread of an id
abbrev pub state_in : ThreadTable → ℕ → Option State
state_in s id = option_map (λ t. t.state) (thread_of s.live id)

-- all of a thread but its state
abbrev pub but_state : Thread → Thread
but_state t = record t { state = Dormant }

-- the wait of a thread has ended with an answer
pub record IsWoken (s left : ThreadTable) (id answer : ℕ) : Type 0 where
  -- one that waited is ready, behind all others that are, with the answer in `$v0`
  pub ready : (wait : Wait) (own : Cpu) → state_in s id ≡ Some (Waiting wait own)
      → state_in left id ≡ Some (Ready (with_reg own 2 answer))
  pub last : (wait : Wait) (own : Cpu) → state_in s id ≡ Some (Waiting wait own)
      → left.ready ≡ s.ready ++ id ∷ []
  -- one that was suspended too is suspended alone, with the answer in `$v0`
  pub suspended : (wait : Wait) (own : Cpu) → state_in s id ≡ Some (WaitingSuspended wait own)
      → state_in left id ≡ Some (Suspended (with_reg own 2 answer))
  pub kept : (wait : Wait) (own : Cpu) → state_in s id ≡ Some (WaitingSuspended wait own)
      → left.ready ≡ s.ready
  -- nothing else of it changes, and where it did not wait nothing does at all
  pub rest : option_map but_state (thread_of left.live id)
      ≡ option_map but_state (thread_of s.live id)
  pub idle : wait_of s id ≡ None → left ≡ s
  -- all others are as they were, the same one runs, and the next id is as it was
  pub others : (other : ℕ) → other ≢ id → thread_of left.live other ≡ thread_of s.live other
  pub running : left.running ≡ s.running
  pub next : left.next ≡ s.next

-- whether that is the state of a thread that waits and is not suspended
abbrev pub waits_alone : Option State → Bool
waits_alone (Some (Waiting wait own)) = true
waits_alone other = false

-- the waits of several threads have ended with one answer, one after the other
pub record AreWoken (s left : ThreadTable) (ids : List ℕ) (answer : ℕ) : Type 0 where
  -- what becomes of each, as of one
  pub ready : (id : ℕ) → Contains ids id → (wait : Wait) (own : Cpu)
      → state_in s id ≡ Some (Waiting wait own)
      → state_in left id ≡ Some (Ready (with_reg own 2 answer))
  pub suspended : (id : ℕ) → Contains ids id → (wait : Wait) (own : Cpu)
      → state_in s id ≡ Some (WaitingSuspended wait own)
      → state_in left id ≡ Some (Suspended (with_reg own 2 answer))
  -- those that are ready now stand behind all others that are, in the order in which they were
  -- woken
  pub last : left.ready ≡ s.ready ++ filter (λ id. waits_alone (state_in s id)) ids
  -- nothing else of any thread changes, and of others nothing at all
  pub rest : (id : ℕ) → option_map but_state (thread_of left.live id)
      ≡ option_map but_state (thread_of s.live id)
  pub others : (other : ℕ) → (Contains ids other → ⊥)
      → thread_of left.live other ≡ thread_of s.live other
  pub running : left.running ≡ s.running
  pub next : left.next ≡ s.next

pub record WakingEndsOneWait : Type 0 where
  pub wakes : (s : ThreadTable) (id answer : ℕ) → IsWoken s (wakes s id answer) id answer
  -- a wakeup ends the wait of one that sleeps, with the answer 0
  pub wakes_up : (s : ThreadTable) (id : ℕ) → wait_of s id ≡ Some Sleep
      → IsWoken s (wakes_up s id).1 id 0
