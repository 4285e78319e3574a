-- What the laws of waits that begin say: where the thread that calls a service does not go on, and
-- what the service left of it then.
use Rattle.std.specs.Prelude.{◌≡◌, ◌≢◌, ◌⊎◌, ⊤, ℕ, ◌≤◌, true, false, Option, Some, None, ◌∷◌, [], ◌++◌}
use Rattle.iop_event.specs.EventFlags.{is_taken}
use Rattle.iop_event.specs.WakeConditions.{holds}
use Rattle.iop_exec.specs.Row.{with_reg}
use Rattle.iop_objects.specs.Objects.{state_of, waiters_of, with_waiters}
use Rattle.iop_pools.specs.Pools.{place_for}
use Rattle.iop_pools.specs.VariablePools.{place_of, pool_length}
use Rattle.iop_ready.specs.Priorities.{priority_of as priority_of_word}
use Rattle.iop_services.specs.declared.service.Service.{Service}
use Rattle.iop_services.specs.declared.service.Service.TheVariants.{Thbase, Thsemap, Thevent, Thmsgbx, Thvpool, Thfpool}
use Rattle.iop_services.specs.declared.thbase_service.ThbaseService.TheVariants.{RotateThreadReadyQueue, SleepThread, DelayThread}
use Rattle.iop_services.specs.declared.thevent_service.TheventService.TheVariants.{WaitEventFlag}
use Rattle.iop_services.specs.declared.thfpool_service.ThfpoolService.TheVariants.{AllocateFpl}
use Rattle.iop_services.specs.declared.thmsgbx_service.ThmsgbxService.TheVariants.{ReceiveMbx}
use Rattle.iop_services.specs.declared.thsemap_service.ThsemapService.TheVariants.{WaitSema}
use Rattle.iop_services.specs.declared.thvpool_service.ThvpoolService.TheVariants.{AllocateVpl}
use Rattle.iop_thread.specs.Changes.{TurnsInPlace}
use Rattle.iop_thread.specs.ThreadTable.{ThreadTable, thread_of, priority_of}
use Rattle.iop_thread.specs.Waking.{state_in}
use Rattle.iop_thread.specs.declared.kind.Kind.{Kind}
use Rattle.iop_thread.specs.declared.kind.Kind.TheVariants.{Semaphore, EventFlag, Mailbox, VariablePool, FixedPool}
use Rattle.iop_thread.specs.declared.state.State.{State}
use Rattle.iop_thread.specs.declared.state.State.TheVariants.{Ready, Waiting}
use Rattle.iop_thread.specs.declared.thread.Thread.{Thread}
use Rattle.iop_thread.specs.declared.wait.Wait.TheVariants.{Sleep, Delay, Object}
use Rattle.iop_time.specs.ClockTime.{ticks_of, moment_after}
use Rattle.iop_time.specs.Timers.{delays}
use Rattle.iop_kernel.specs.Boards.{optional_place}
use Rattle.iop_kernel.specs.Kinds.{State as KindState, Wants, table}
use Rattle.iop_kernel.specs.Placing.{IsPlaced}
use Rattle.iop_kernel.specs.Serving.{serves}
use Rattle.iop_kernel.specs.System.{System, Core, argument, may_switch, caller, words_place}
use Rattle.iop_kernel.specs.declared.after.After.TheVariants.{Switch}

-- the thread that ran is in another state, behind all others that are ready if it is. Nothing else
-- of it changes, no other thread does, and none runs
pub record Stops (s left : ThreadTable) (thread : ℕ) (state : State) : Type 0 where
  pub now : state_in left thread ≡ Some state
  pub turned : TurnsInPlace s left thread true (λ t. record t { state = state })
  pub running : left.running ≡ None

-- a thread waits for an object with the registers of its call, behind all others that wait for it,
-- with its priority and what it asks for; of the objects nothing else changes
pub record WaitsFor (kind : Kind) (c left : Core) (id : ℕ) (wants : Wants kind) (thread : ℕ)
    : Type 0 where
  pub stops : Stops c.kernel.threads left.kernel.threads thread (Waiting (Object kind id) c.cpu)
  pub objects : table kind left.kernel
      ≡ with_waiters (table kind c.kernel) id (waiters_of (table kind c.kernel) id
      ++ (record {
        priority = priority_of c.kernel.threads.live thread;
        item = record { thread = thread; wants = wants };
      }) ∷ [])

-- a service after which its caller does not go on left this
abbrev pub LeavesSo : Service → (System → Core → (thread : ℕ) → Type 0) → Type 0
LeavesSo service Leaves =
    (s : System) (thread : ℕ) → let left = (serves s service).left in
    IsPlaced s.core.kernel → caller s.core ≡ Some thread → left.after ≡ Switch
    → Leaves s left.state.core thread

-- it left its caller in a state
abbrev pub InState : (System → State) → System → Core → (thread : ℕ) → Type 0
InState state s left thread =
    Stops s.core.kernel.threads left.kernel.threads thread (state s)

-- a size that a variable pool can have fits nowhere in it
pub record VariablePoolIsFull (s : System) : Type 0 where
  pub x : KindState VariablePool
  pub known : state_of s.core.kernel.variable_pools (argument s.core 0) ≡ Some x
  pub some : argument s.core 1 ≢ 0
  pub within : argument s.core 1 ≤ x.size
  pub full : place_of x (argument s.core 1) ≡ None

-- no block of a fixed pool is free
pub record FixedPoolIsFull (s : System) : Type 0 where
  pub x : KindState FixedPool
  pub known : state_of s.core.kernel.fixed_pools (argument s.core 0) ≡ Some x
  pub full : place_for x x.unit ≡ None

-- where a call answers nothing yet: its caller waits for what the arguments name, or gives way
pub record WaitsBeginSo : Type 0 where
  pub sleeps : LeavesSo (Thbase SleepThread) (InState (λ s. Waiting Sleep s.core.cpu))
  -- until the microseconds of the first argument have passed
  pub delays : LeavesSo (Thbase DelayThread)
      (λ s left thread. let old = s.core.kernel in
      InState (λ s. Waiting Delay s.core.cpu) s left thread
      × (left.kernel.timers
      ≡ delays old.timers (moment_after old.clock (ticks_of (argument s.core 0))) thread))
  -- it is ready, with 0 in `$v0`
  pub rotates : LeavesSo (Thbase RotateThreadReadyQueue)
      (InState (λ s. Ready (with_reg s.core.cpu 2 0)))
  pub semaphore : LeavesSo (Thsemap WaitSema)
      (λ s left. WaitsFor Semaphore s.core left (argument s.core 0) tt)
  pub flag : LeavesSo (Thevent WaitEventFlag)
      (λ s left. WaitsFor EventFlag s.core left (argument s.core 0) (record {
        bits = argument s.core 1;
        mode = argument s.core 2;
        place = argument s.core 3;
      }))
  -- the message is to be written at the first argument, which names a place in RAM
  pub mailbox : LeavesSo (Thmsgbx ReceiveMbx)
      (λ s left thread.
      WaitsFor Mailbox s.core left (argument s.core 1) (argument s.core 0) thread
      × ((place : ℕ) × (words_place s.memory (argument s.core 0) 1 ≡ Some place)))
  -- for so many bytes as the second argument says, rounded up, where they fit nowhere
  pub variable_pool : LeavesSo (Thvpool AllocateVpl)
      (λ s left thread. let size = pool_length (argument s.core 1) in
      WaitsFor VariablePool s.core left (argument s.core 0) size thread × VariablePoolIsFull s)
  pub fixed_pool : LeavesSo (Thfpool AllocateFpl)
      (λ s left thread. WaitsFor FixedPool s.core left (argument s.core 0) tt thread
      × FixedPoolIsFull s)

-- a live thread calls, and another one may run
pub record MayStop (c : Core) (thread : ℕ) (t : Thread) : Type 0 where
  pub calls : caller c ≡ Some thread
  pub live : thread_of c.kernel.threads.live thread ≡ Some t
  pub may : may_switch c.kernel ≡ true

-- it does not go on after a service where this holds
abbrev pub StopsWhere : Service → (System → Thread → Type 0) → Type 0
StopsWhere service Holds =
    (s : System) (thread : ℕ) (t : Thread) → MayStop s.core thread t → Holds s t
    → (serves s service).left.after ≡ Switch

-- the count of a semaphore is 0
pub record IsZero (s : System) : Type 0 where
  pub x : KindState Semaphore
  pub known : state_of s.core.kernel.semaphores (argument s.core 0) ≡ Some x
  pub zero : x.count ≡ 0

-- some bits of an event flag are asked for, no other thread is in the way, and the condition does
-- not hold; the place for the pattern is good
pub record IsUnmet (s : System) : Type 0 where
  pub x : KindState EventFlag
  pub known : state_of s.core.kernel.event_flags (argument s.core 0) ≡ Some x
  pub some : argument s.core 1 ≢ 0
  pub free : is_taken s.core.kernel.event_flags (argument s.core 0) x ≡ false
  pub unmet : holds (argument s.core 1) (argument s.core 2) x.pattern ≡ false
  pub place : Option ℕ
  pub good : optional_place s.memory (argument s.core 3) ≡ Some place

-- a mailbox has no message; the place for one is good
pub record IsEmpty (s : System) : Type 0 where
  pub x : KindState Mailbox
  pub known : state_of s.core.kernel.mailboxes (argument s.core 1) ≡ Some x
  pub empty : x.messages ≡ []
  pub place : ℕ
  pub good : words_place s.memory (argument s.core 0) 1 ≡ Some place

-- where a call answers nothing yet
pub record WaitsBeginWhere : Type 0 where
  pub sleeps : StopsWhere (Thbase SleepThread) (λ s t. t.wakeups ≡ 0)
  -- however short the delay is
  pub delays : StopsWhere (Thbase DelayThread) (λ s t. ⊤)
  -- the threads of its own priority, which 0 stands for, are rotated
  pub rotates : StopsWhere (Thbase RotateThreadReadyQueue)
      (λ s t. (argument s.core 0 ≡ 0)
      ⊎ (priority_of_word (argument s.core 0) ≡ Some t.priority))
  pub semaphore : StopsWhere (Thsemap WaitSema) (λ s t. IsZero s)
  pub flag : StopsWhere (Thevent WaitEventFlag) (λ s t. IsUnmet s)
  pub mailbox : StopsWhere (Thmsgbx ReceiveMbx) (λ s t. IsEmpty s)
  pub variable_pool : StopsWhere (Thvpool AllocateVpl) (λ s t. VariablePoolIsFull s)
  pub fixed_pool : StopsWhere (Thfpool AllocateFpl) (λ s t. FixedPoolIsFull s)
