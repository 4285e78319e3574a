-- What the operations on threads answer, and the threads that they leave (ps2sdk: thbase; the codes are
-- those of its kerr.h). The order of refusals is this project's own profile.
use Rattle.std.specs.Prelude.{ℕ, ◌+◌, ◌-◌, ◌==◌, min, nat_lt, Bool, true, false, if◌then◌else◌, Option, Some, None, Result, Ok, Err, [], ◌∷◌, ◌++◌, filter, not}
use Rattle.iop_base.specs.declared.code.Code.{Code}
use Rattle.iop_base.specs.declared.code.TheConstants.Code.{OK, NO_MEMORY, UNKNOWN_THREAD, DORMANT, NOT_DORMANT, NOT_SUSPENDED}
use Rattle.iop_exec.specs.declared.cpu.Cpu.{Cpu}
use Rattle.iop_thread.specs.declared.param.Param.{Param}
use Rattle.iop_thread.specs.declared.state.State.{State}
use Rattle.iop_thread.specs.declared.state.State.TheVariants as states
use Rattle.iop_thread.specs.declared.thread.Thread.{Thread}
use Rattle.iop_thread.specs.declared.thread.TheConstants.{LOADER_ATTRIBUTE, LOADER_PRIORITY, LOADER_STACK, LOADER_STACK_SIZE, MOST_WAKEUPS, LOADER}
use Rattle.iop_thread.specs.declared.wait.Wait.{Wait}
use Rattle.iop_thread.specs.States.{is_dormant, wait_in, sleeps, suspended_state, with_answer, first_registers}
use Rattle.iop_thread.specs.ThreadTable.{ThreadTable, thread_of, running_thread, best_ready, first_ready, in_state, without, as_at_first, with_priority, with_wakeups, ready_last, ready_first, leaves, runs, has_room}

-- a thread as it is made: dormant
abbrev pub dormant_thread : ℕ → Param → (stack gp : ℕ) → Thread
dormant_thread id param stack gp = record {
  id = id;
  param = param;
  stack = stack;
  gp = gp;
  priority = param.priority;
  wakeups = 0;
  state = states.Dormant;
}

-- what the loader's thread is made with
abbrev pub loader_param : Param
loader_param = record {
  attr = LOADER_ATTRIBUTE;
  option = 0;
  entry = 0;
  stack_size = LOADER_STACK_SIZE;
  priority = LOADER_PRIORITY;
}

-- the threads at first: the loader's thread alone, dormant
abbrev pub opening : ThreadTable
opening = record {
  live = dormant_thread LOADER loader_param LOADER_STACK 0 ∷ [];
  ready = [];
  running = None;
  next = LOADER + 1;
}

module _ (s : ThreadTable) where
  -- a thread is made, where there is room
  abbrev pub creates : Param → (stack gp : ℕ) → Result ℕ Code × ThreadTable
  creates param stack gp =
      if has_room s
      then (
        Ok s.next,
        record s { live = s.live ++ dormant_thread s.next param stack gp ∷ []; next = s.next + 1 },
      )
      else (Err NO_MEMORY, s)

  -- a dormant thread is deleted; its stack is answered
  abbrev pub deletes_it : Option Thread → Result ℕ Code × ThreadTable
  deletes_it None = (Err UNKNOWN_THREAD, s)
  deletes_it (Some t) =
      if is_dormant t.state
      then (Ok t.stack, record s { live = filter (λ u. not (u.id == t.id)) s.live })
      else (Err NOT_DORMANT, s)

  abbrev pub deletes : ℕ → Result ℕ Code × ThreadTable
  deletes id = deletes_it (thread_of s.live id)

  -- a dormant thread is started, with the priority that it was made with and no wakeups
  abbrev pub starts_it : (argument : ℕ) → Option Thread → Code × ThreadTable
  starts_it argument None = (UNKNOWN_THREAD, s)
  starts_it argument (Some t) =
      if is_dormant t.state
      then (OK, ready_last s (as_at_first t) (first_registers t argument)) else (NOT_DORMANT, s)

  abbrev pub starts : (id argument : ℕ) → Code × ThreadTable
  starts id argument = starts_it argument (thread_of s.live id)

  -- the loader's thread, if it is dormant, becomes ready with these registers
  abbrev pub begins_it : Cpu → Option Thread → ThreadTable
  begins_it registers None = s
  begins_it registers (Some t) = if is_dormant t.state then ready_last s t registers else s

  abbrev pub begins : Cpu → ThreadTable
  begins registers = begins_it registers (thread_of s.live LOADER)

  -- the running thread ends
  abbrev pub ends_it : Option Thread → ThreadTable
  ends_it None = s
  ends_it (Some t) = in_state (leaves s t states.Running) t states.Dormant

  abbrev pub ends_running : ThreadTable
  ends_running = ends_it (running_thread s)

  -- a thread is ended by another; what it waited for is answered
  abbrev pub terminates_it : Option Thread → Result (Option Wait) Code × ThreadTable
  terminates_it None = (Err UNKNOWN_THREAD, s)
  terminates_it (Some t) =
      if is_dormant t.state then (Err DORMANT, s)
      else (Ok (wait_in t.state), in_state (leaves s t t.state) t states.Dormant)

  abbrev pub terminates : ℕ → Result (Option Wait) Code × ThreadTable
  terminates id = terminates_it (thread_of s.live id)

  -- the priority of a thread changes; what it waits for is answered
  abbrev pub changes_it : (priority : ℕ) → Option Thread → Result (Option Wait) Code × ThreadTable
  changes_it priority None = (Err UNKNOWN_THREAD, s)
  changes_it priority (Some t) =
      if is_dormant t.state then (Err DORMANT, s)
      else (Ok (wait_in t.state), with_priority s t priority)

  abbrev pub changes : (id priority : ℕ) → Result (Option Wait) Code × ThreadTable
  changes id priority = changes_it priority (thread_of s.live id)

  -- the first ready thread of a priority is moved behind all others
  abbrev pub rotates_ready : Option ℕ → ThreadTable
  rotates_ready None = s
  rotates_ready (Some id) = record s { ready = without id s.ready ++ id ∷ [] }

  -- the running thread, which has these registers, is put behind all others if it has the priority
  abbrev pub rotates_it : (priority : ℕ) → Cpu → Option Thread → ThreadTable
  rotates_it priority registers None = rotates_ready (first_ready s priority)
  rotates_it priority registers (Some t) =
      if t.priority == priority then ready_last (leaves s t states.Running) t registers
      else rotates_ready (first_ready s priority)

  abbrev pub rotates : (priority : ℕ) → Cpu → ThreadTable
  rotates priority registers = rotates_it priority registers (running_thread s)

  -- the running thread, which has these registers, waits
  abbrev pub blocks_it : Wait → Cpu → Option Thread → ThreadTable
  blocks_it wait registers None = s
  blocks_it wait registers (Some t) =
      in_state (leaves s t states.Running) t (states.Waiting wait registers)

  abbrev pub blocks : Wait → Cpu → ThreadTable
  blocks wait registers = blocks_it wait registers (running_thread s)

  -- the wait of a thread ends with an answer
  abbrev pub wakes_in : (answer : ℕ) → Thread → State → ThreadTable
  wakes_in answer t (states.Waiting wait own) = ready_last s t (with_answer own answer)
  wakes_in answer t (states.WaitingSuspended wait own) =
      in_state s t (states.Suspended (with_answer own answer))
  wakes_in answer t other = s

  abbrev pub wakes_it : (answer : ℕ) → Option Thread → ThreadTable
  wakes_it answer None = s
  wakes_it answer (Some t) = wakes_in answer t t.state

  abbrev pub wakes : (id answer : ℕ) → ThreadTable
  wakes id answer = wakes_it answer (thread_of s.live id)

  -- a thread is suspended, which had these registers if it was running
  abbrev pub suspends_it : Cpu → Option Thread → Code × ThreadTable
  suspends_it registers None = (UNKNOWN_THREAD, s)
  suspends_it registers (Some t) =
      if is_dormant t.state then (DORMANT, s)
      else (OK, in_state (leaves s t t.state) t (suspended_state registers t.state))

  abbrev pub suspends : ℕ → Cpu → Code × ThreadTable
  suspends id registers = suspends_it registers (thread_of s.live id)

  -- a suspended thread is so no longer
  abbrev pub resumes_in : Thread → State → Code × ThreadTable
  resumes_in t (states.Suspended own) = (OK, ready_last s t own)
  resumes_in t (states.WaitingSuspended wait own) = (OK, in_state s t (states.Waiting wait own))
  resumes_in t other = (NOT_SUSPENDED, s)

  abbrev pub resumes_it : Option Thread → Code × ThreadTable
  resumes_it None = (UNKNOWN_THREAD, s)
  resumes_it (Some t) = resumes_in t t.state

  abbrev pub resumes : ℕ → Code × ThreadTable
  resumes id = resumes_it (thread_of s.live id)

  -- a sleeping thread is woken, any other is woken once more when it will sleep
  abbrev pub wakes_up_by : Thread → ThreadTable
  wakes_up_by t =
      if sleeps (wait_in t.state) then wakes_in 0 t t.state
      else with_wakeups s t (min (t.wakeups + 1) MOST_WAKEUPS)

  abbrev pub wakes_up_it : Option Thread → Code × ThreadTable
  wakes_up_it None = (UNKNOWN_THREAD, s)
  wakes_up_it (Some t) =
      if is_dormant t.state then (DORMANT, s) else (OK, wakes_up_by t)

  abbrev pub wakes_up : ℕ → Code × ThreadTable
  wakes_up id = wakes_up_it (thread_of s.live id)

  -- the wakeups of a thread are forgotten; how many there were is answered
  abbrev pub cancels_it : Option Thread → Result ℕ Code × ThreadTable
  cancels_it None = (Err UNKNOWN_THREAD, s)
  cancels_it (Some t) =
      if is_dormant t.state then (Err DORMANT, s)
      else (Ok t.wakeups, with_wakeups s t 0)

  abbrev pub cancels : ℕ → Result ℕ Code × ThreadTable
  cancels id = cancels_it (thread_of s.live id)

  -- the running thread takes one of its wakeups, if it has one
  abbrev pub takes_wakeup_it : Option Thread → Bool × ThreadTable
  takes_wakeup_it None = (false, s)
  takes_wakeup_it (Some t) =
      if nat_lt 0 t.wakeups then (true, with_wakeups s t (t.wakeups - 1)) else (false, s)

  abbrev pub takes_wakeup : Bool × ThreadTable
  takes_wakeup = takes_wakeup_it (running_thread s)

-- which thread was dispatched, its registers, and the threads that this leaves
pub record Dispatch : Type 0 where
  pub id : ℕ
  pub registers : Cpu
  pub threads : ThreadTable

-- the registers of a ready thread
abbrev pub ready_registers : State → Cpu → Cpu
ready_registers (states.Ready own) registers = own
ready_registers other registers = registers

abbrev pub dispatches_it : ThreadTable → Cpu → Thread → Dispatch
dispatches_it s registers t = record {
  id = t.id;
  registers = ready_registers t.state registers;
  threads = runs s t;
}

-- the running thread, which has these registers, gives way to a better one, and is put in front of the
-- ready ones
abbrev pub dispatches_by : ThreadTable → Cpu → (running best : Option Thread) → Option Dispatch
dispatches_by s registers running None = None
dispatches_by s registers None (Some t) = Some (dispatches_it s registers t)
dispatches_by s registers (Some r) (Some t) =
    if nat_lt t.priority r.priority
    then Some (dispatches_it (ready_first s r registers) registers t) else None

-- the ready thread that is best runs, where none runs or one of a worse priority
abbrev pub dispatches : ThreadTable → Cpu → Option Dispatch
dispatches s registers = dispatches_by s registers (running_thread s) (best_ready s)
