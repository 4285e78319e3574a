-- What each operation changes: one thread, or none, and its place among the ready ones. A law, in
-- the words of what each id finds (ps2sdk: thbase).
use Rattle.std.specs.Prelude.{◌≡◌, ◌≢◌, ◌↔◌, ℕ, ◌+◌, ◌-◌, min, nat_lt, Bool, true, false, not, is_ok, is_some, if◌then◌else◌, Option, Some, None, option_map, IfOk, List, [], ◌∷◌, ◌++◌}
use Rattle.iop_base.specs.declared.code.TheConstants.Code.{OK}
use Rattle.iop_exec.specs.declared.cpu.Cpu.{Cpu}
use Rattle.iop_thread.specs.declared.param.Param.{Param}
use Rattle.iop_thread.specs.declared.state.State.{State}
use Rattle.iop_thread.specs.declared.state.State.TheVariants.{Dormant, Running, Ready, Waiting, Suspended, WaitingSuspended}
use Rattle.iop_thread.specs.declared.thread.Thread.{Thread}
use Rattle.iop_thread.specs.declared.thread.TheConstants.{LOADER, MOST_WAKEUPS}
use Rattle.iop_thread.specs.declared.wait.Wait.{Wait}
use Rattle.iop_thread.specs.Operations.{Dispatch, dormant_thread, creates, deletes, starts, begins, ends_running, terminates, changes, rotates, blocks, wakes, suspends, resumes, wakes_up, cancels, takes_wakeup, dispatches}
use Rattle.iop_thread.specs.Placing.{IsPlaced, is_in_state}
use Rattle.iop_thread.specs.States.{is_dormant, is_ready, wait_in, sleeps, with_answer, first_registers}
use Rattle.iop_thread.specs.ThreadTable.{ThreadTable, thread_of, without, has_priority, running_thread, first_ready}

-- the states that operations ask for

-- started, and not ended since
abbrev pub is_begun : State → Bool
is_begun state = not (is_dormant state)

abbrev pub is_waiting : State → Bool
is_waiting state = is_some (wait_in state)

abbrev pub is_suspended : State → Bool
is_suspended (Suspended own) = true
is_suspended (WaitingSuspended wait own) = true
is_suspended other = false

-- what a thread becomes: all that is not named stays

abbrev pub in_new_state : (State → State) → Thread → Thread
in_new_state change t = record t { state = change t.state }

-- started anew: ready, with its first registers, the priority that it was made with, and no wakeups
abbrev pub started : (argument : ℕ) → Thread → Thread
started argument t = record t {
  priority = t.param.priority;
  wakeups = 0;
  state = Ready (first_registers t argument);
}

-- its wait ended with an answer: it is ready, or suspended alone
abbrev pub woken_state : (answer : ℕ) → State → State
woken_state answer (Waiting wait own) = Ready (with_answer own answer)
woken_state answer (WaitingSuspended wait own) = Suspended (with_answer own answer)
woken_state answer other = other

-- suspended, and if it waits it waits on: one that ran keeps the registers that are given
abbrev pub suspended_with : (registers : Cpu) → State → State
suspended_with registers Running = Suspended registers
suspended_with registers (Ready own) = Suspended own
suspended_with registers (Waiting wait own) = WaitingSuspended wait own
suspended_with registers other = other

-- no longer suspended: ready, or it waits on
abbrev pub resumed_state : State → State
resumed_state (Suspended own) = Ready own
resumed_state (WaitingSuspended wait own) = Waiting wait own
resumed_state other = other

-- woken where it sleeps, else with one wakeup more
abbrev pub woken_up : Thread → Thread
woken_up t =
    if sleeps (wait_in t.state) then in_new_state (woken_state 0) t
    else record t { wakeups = min (t.wakeups + 1) MOST_WAKEUPS }

-- whether there is a thread, and it has a wakeup
abbrev pub has_wakeup : Option Thread → Bool
has_wakeup None = false
has_wakeup (Some t) = nat_lt 0 t.wakeups

-- a part of the thread of an id
abbrev pub part_of : (Thread → ℕ) → ThreadTable → (id : ℕ) → Option ℕ
part_of part s id = option_map part (thread_of s.live id)

-- the ready list when a thread changed, by whether it was ready, and whether it is: one that comes
-- stands behind all others, one that goes is taken out, and any other leaves the list as it was
abbrev pub ready_after : (was is : Bool) → (id : ℕ) → List ℕ → List ℕ
ready_after false true id ready = ready ++ id ∷ []
ready_after true false id ready = without id ready
ready_after was is id ready = ready

-- one thread alone changes, or none: all others are as they were, and the next id is
pub record ChangesOne (s left : ThreadTable) (id : ℕ) : Type 0 where
  pub others : (other : ℕ) → other ≢ id → thread_of left.live other ≡ thread_of s.live other
  pub next : left.next ≡ s.next

-- where it may be done, the thread of an id becomes another so, and no other does; else nothing
-- changes
pub record Turns (s left : ThreadTable) (id : ℕ) (may : Bool) (change : Thread → Thread)
    : Type 0 where
  pub one : ChangesOne s left id
  pub own : may ≡ true → thread_of left.live id ≡ option_map change (thread_of s.live id)
  pub refused : may ≡ false → left ≡ s

-- and it takes its place among the ready ones
pub record TurnsInPlace (s left : ThreadTable) (id : ℕ) (may : Bool) (change : Thread → Thread)
    : Type 0 where
  pub turns : Turns s left id may change
  pub ready : left.ready
      ≡ ready_after (is_in_state is_ready s.live id) (is_in_state is_ready left.live id) id s.ready

-- this is answered exactly where the thread of an id is in such a state; then it becomes another so
pub record TurnsWhere (answered : Type 0) (s left : ThreadTable) (id : ℕ) (p : State → Bool)
    (change : Thread → Thread) : Type 0 where
  pub answer : answered ↔ (is_in_state p s.live id ≡ true)
  pub turns : TurnsInPlace s left id (is_in_state p s.live id) change

-- the running thread becomes another so; where none runs nothing changes
pub record TurnsRunning (s left : ThreadTable) (change : Thread → Thread) : Type 0 where
  pub running : (id : ℕ) → s.running ≡ Some id → TurnsInPlace s left id true change
  pub idle : s.running ≡ None → left ≡ s

-- a thread is made exactly where its id is answered, the next one, which no thread has; the next
-- but that is then the next. All others are as they were, and the same are ready
pub record Makes (s left : ThreadTable) (done : Bool) (made : Thread) : Type 0 where
  pub free : thread_of s.live s.next ≡ None
  pub own : done ≡ true → thread_of left.live s.next ≡ Some made
  pub next : done ≡ true → left.next ≡ s.next + 1
  pub others : (other : ℕ) → other ≢ s.next → thread_of left.live other ≡ thread_of s.live other
  pub ready : left.ready ≡ s.ready
  pub refused : done ≡ false → left ≡ s

-- a thread is deleted exactly where this is answered: a dormant one. All others are as they were,
-- the same are ready, and no id is given again
pub record Deletes (s left : ThreadTable) (id : ℕ) (done : Bool) : Type 0 where
  pub answer : done ≡ is_in_state is_dormant s.live id
  pub one : ChangesOne s left id
  pub gone : done ≡ true → thread_of left.live id ≡ None
  pub ready : left.ready ≡ s.ready
  pub refused : done ≡ false → left ≡ s

-- the priority of a thread changes, and it stands behind all other ready ones if it is ready
pub record ChangesPriority (s left : ThreadTable) (id priority : ℕ) (done : Bool) : Type 0 where
  pub answer : done ≡ is_in_state is_begun s.live id
  pub turns : Turns s left id done (λ t. record t { priority = priority })
  pub moved : is_in_state is_ready s.live id ≡ true → left.ready ≡ without id s.ready ++ id ∷ []
  pub stays : is_in_state is_ready s.live id ≡ false → left.ready ≡ s.ready

-- the running thread is put behind the ready ones if it has the priority, and none else changes
pub record Rotates (s left : ThreadTable) (priority : ℕ) (registers : Cpu) : Type 0 where
  pub gives_way : (id : ℕ) → s.running ≡ Some id
      → has_priority priority (running_thread s) ≡ true
      → TurnsInPlace s left id true (λ t. record t { state = Ready registers })
  -- else no thread changes, and the first ready one of the priority, if there is one, is behind all
  -- others
  pub stays : has_priority priority (running_thread s) ≡ false
      → (id : ℕ) → thread_of left.live id ≡ thread_of s.live id
  pub moved : has_priority priority (running_thread s) ≡ false → (id : ℕ)
      → first_ready s priority ≡ Some id → left.ready ≡ without id s.ready ++ id ∷ []
  pub same : has_priority priority (running_thread s) ≡ false → first_ready s priority ≡ None
      → left ≡ s
  pub next : left.next ≡ s.next

-- the one that is dispatched runs, the one that ran is ready with the registers that are given;
-- nothing else of them changes, and no other thread does
pub record Switches (s : ThreadTable) (given : Cpu) (d : Dispatch) : Type 0 where
  pub runs : thread_of d.threads.live d.id
      ≡ option_map (λ (t : Thread). record t { state = Running }) (thread_of s.live d.id)
  pub gave_way : (r : ℕ) → s.running ≡ Some r → thread_of d.threads.live r
      ≡ option_map (λ (t : Thread). record t { state = Ready given }) (thread_of s.live r)
  pub others : (other : ℕ) → other ≢ d.id → s.running ≢ Some other
      → thread_of d.threads.live other ≡ thread_of s.live other
  pub next : d.threads.next ≡ s.next

pub record MovesOne (s : ThreadTable) : Type 0 where
  pub creates : (param : Param) (stack gp : ℕ) → let done = creates s param stack gp in
      Makes s done.1 (is_ok done.0) (dormant_thread s.next param stack gp)
      × IfOk done.0 (λ id. id ≡ s.next)
  pub deletes : (id : ℕ) → let done = deletes s id in
      Deletes s done.1 id (is_ok done.0)
      × IfOk done.0 (λ stack. part_of (λ t. t.stack) s id ≡ Some stack)
  pub starts : (id argument : ℕ) → let done = starts s id argument in
      TurnsWhere (done.0 ≡ OK) s done.1 id is_dormant (started argument)
  pub begins : (registers : Cpu) → TurnsInPlace s (begins s registers) LOADER
      (is_in_state is_dormant s.live LOADER) (λ t. record t { state = Ready registers })
  pub ends_running : TurnsRunning s (ends_running s) (λ t. record t { state = Dormant })
  pub terminates : (id : ℕ) → let done = terminates s id in
      TurnsWhere (is_ok done.0 ≡ true) s done.1 id is_begun (λ t. record t { state = Dormant })
  pub changes : (id priority : ℕ) → let done = changes s id priority in
      ChangesPriority s done.1 id priority (is_ok done.0)
  pub rotates : (priority : ℕ) (registers : Cpu)
      → Rotates s (rotates s priority registers) priority registers
  pub blocks : (wait : Wait) (registers : Cpu)
      → TurnsRunning s (blocks s wait registers) (λ t. record t { state = Waiting wait registers })
  pub wakes : (id answer : ℕ) → TurnsInPlace s (wakes s id answer) id
      (is_in_state is_waiting s.live id) (in_new_state (woken_state answer))
  pub suspends : (id : ℕ) (registers : Cpu) → let done = suspends s id registers in
      TurnsWhere (done.0 ≡ OK) s done.1 id is_begun (in_new_state (suspended_with registers))
  pub resumes : (id : ℕ) → let done = resumes s id in
      TurnsWhere (done.0 ≡ OK) s done.1 id is_suspended (in_new_state resumed_state)
  pub wakes_up : (id : ℕ) → let done = wakes_up s id in
      TurnsWhere (done.0 ≡ OK) s done.1 id is_begun woken_up
  pub cancels : (id : ℕ) → let done = cancels s id in
      TurnsWhere (is_ok done.0 ≡ true) s done.1 id is_begun (λ t. record t { wakeups = 0 })
      × IfOk done.0 (λ wakeups. part_of (λ t. t.wakeups) s id ≡ Some wakeups)
  pub takes_wakeup : let done = takes_wakeup s in
      TurnsRunning s done.1 (λ t. record t { wakeups = t.wakeups - 1 })
      × (done.0 ≡ has_wakeup (running_thread s))
  pub dispatches : (registers : Cpu) (d : Dispatch) → dispatches s registers ≡ Some d
      → Switches s registers d

-- each operation changes one thread, or none
abbrev pub OperationsChangeOne : Type 0
OperationsChangeOne = (s : ThreadTable) → IsPlaced s → MovesOne s
