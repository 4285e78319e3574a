-- How the program's table of threads stands for the threads.
use Rattle.std.specs.Prelude.{◌≡◌, ℕ, ◌<◌, true, is_some, option_map, Option, Some, None, List, length, filter, map, All, Contains}
use Rattle.iop_ready.specs.declared.entry.Entry.{Entry}
use Rattle.iop_ready.specs.declared.slot.TheConstants.{MOST_THREADS}
use Rattle.iop_ready.specs.ReadyList.{entry_of}
use Rattle.iop_exec.specs.declared.cpu.Cpu.{Cpu}
use Rattle.iop_thread.specs.declared.thread.Thread.{Thread}
use Rattle.iop_thread.specs.declared.threads.Threads.{Threads}
use Rattle.iop_thread.specs.Operations.{Dispatch}
use Rattle.iop_thread.specs.ThreadTable.{ThreadTable, thread_of, priority_of}
use Rattle.iop_thread.specs.Placing.{IsPlaced}
use Rattle.iop_thread.specs.ThreadPlaces.{thread_at}
use Rattle.iop_thread.specs.Moves.{IsIn, CanEnter}

-- a ready thread as it stands in the ready list
abbrev pub entry_in : (ℕ → ℕ) → List Thread → ℕ → Entry
entry_in place live id = entry_of (place id) (priority_of live id)

module _ {R : Type 0} (stands_for : R → List Entry → Type 0) where
  -- the table holds the threads, each in the place of its id
  pub record Holds (place : ℕ → ℕ) (t : Threads R) (s : ThreadTable) : Type 0 where
    -- each live thread stands in its place, and nothing else stands in any
    pub there : (id : ℕ) (u : Thread) → thread_of s.live id ≡ Some u
        → thread_at t.places (place id) ≡ Some u
    pub own : (slot : ℕ) (u : Thread) → thread_at t.places slot ≡ Some u → IsIn place s.live slot u
    pub count : length s.live ≡ length (filter is_some t.places)
    pub size : length t.places ≡ MOST_THREADS
    -- the ready list has the ready threads, each by its place and with its priority
    pub ready : stands_for t.ready (map (entry_in place s.live) s.ready)
    pub ready_live : All (λ id. is_some (thread_of s.live id) ≡ true) s.ready
    -- the running thread is known by its place
    pub running : t.running ≡ option_map place s.running
    pub next : s.next ≡ t.next

  -- the table stands for the threads, which are placed
  pub record Stands (t : Threads R) (s : ThreadTable) : Type 0 where
    pub place : ℕ → ℕ
    pub holds : Holds place t s
    pub placed : IsPlaced s

  -- it stands for some threads, and this one can be put into the ready list
  abbrev pub IsOpenTo : Threads R → (slot : ℕ) → Thread → Type 0
  IsOpenTo t slot u = (place : ℕ → ℕ) × (s : ThreadTable) × Holds place t s × CanEnter place s slot u

  -- it stands for some threads
  abbrev pub IsSound : Threads R → Type 0
  IsSound t = (s : ThreadTable) × Stands t s

  -- an operation answered this and left these threads
  abbrev pub Leaves : {A : Type 0} → A × ThreadTable → A → Threads R → Type 0
  Leaves did answer t = (answer ≡ did.0) × Stands t did.1

  -- a dispatch took this thread, if one, with its registers
  abbrev pub Dispatches : ThreadTable → Cpu → Option Dispatch → Option ℕ → Threads R → Cpu → Type 0
  Dispatches s registers None taken t cpu = (taken ≡ None) × Stands t s × (cpu ≡ registers)
  Dispatches s registers (Some d) taken t cpu =
      (taken ≡ Some d.id) × Stands t d.threads × (cpu ≡ d.registers)

  -- the list stands for the ready threads, each by a slot of its own and with its priority
  pub record Lends (ready : R) (s : ThreadTable) : Type 0 where
    pub slot : ℕ → ℕ
    pub below : (t : Thread) → Contains s.live t → slot t.id < MOST_THREADS
    pub distinct : (t u : Thread) → Contains s.live t → Contains s.live u → slot t.id ≡ slot u.id
        → t ≡ u
    pub stands : stands_for ready (map (λ id. entry_of (slot id) (priority_of s.live id)) s.ready)
