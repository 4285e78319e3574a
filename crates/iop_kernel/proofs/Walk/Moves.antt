-- What holds after each service, if it lasts over each small change that one can make: a law gives
-- its two properties and an instance of `Moves`, and `Services` does the rest. A premise is what is
-- known where a service makes the change. All changes are told of the state in which the service
-- was called: a service makes one of them, then stores, and then answers.
use Rattle.std.proofs.Common.{◌≡◌, ℕ, ◌+◌, ◌≤◌, ◌==◌, Bool, true, false, not, ◌&&◌, Option, Some, None, Ok, List, [], ◌∷◌, ◌++◌, length}
use Rattle.std.specs.Prelude.{⊤}
use Rattle.iop_base.specs.Piece.{Piece, Told, Traced}
use Rattle.iop_base.specs.Text.{line_bytes}
use Rattle.iop_base.specs.declared.code.TheConstants.Code.{OK, OBJECT_DELETED, WAIT_RELEASED}
use Rattle.iop_base.specs.declared.guest_fault.GuestFault.TheVariants.{Address, Service}
use Rattle.iop_base.specs.declared.line.Line.TheVariants as lines
use Rattle.iop_exec.specs.Row.{reg}
use Rattle.iop_exec.specs.declared.cpu.Cpu.{Cpu}
use Rattle.iop_intr.specs.declared.irq_line.IrqLine.{IrqLine}
use Rattle.iop_objects.specs.Objects.{object_of, state_of, waiters_of, with_state, with_waiters}
use Rattle.iop_objects.specs.Objects as objects
use Rattle.iop_queues.specs.Queue.{Choice, chooses}
use Rattle.iop_objects.specs.declared.waiter.Waiter.{Waiter}
use Rattle.iop_pools.specs.Pools.{with_ranges}
use Rattle.iop_pools.specs.Ranges.{is_out, without}
use Rattle.iop_registry.specs.declared.registry.Entry.{Entry}
use Rattle.iop_services.specs.declared.codes.TheConstants.{LOADCORE, SYSMEM, INTRMAN, THBASE, THEVENT, THVPOOL}
use Rattle.iop_sysmem.specs.Allocating.{allocating}
use Rattle.iop_sysmem.specs.BlockMap.{BlockMap, freeing}
use Rattle.iop_thread.specs.Operations as threads
use Rattle.iop_thread.specs.States.{wait_in}
use Rattle.iop_thread.specs.ThreadTable.{ThreadTable, thread_of, priority_of, is_it, has_priority, running_thread}
use Rattle.iop_thread.specs.declared.kind.Kind.{Kind}
use Rattle.iop_thread.specs.declared.kind.Kind.TheVariants.{EventFlag, VariablePool}
use Rattle.iop_thread.specs.declared.param.Param.{Param}
use Rattle.iop_thread.specs.declared.thread.TheConstants.{LOADER}
use Rattle.iop_thread.specs.declared.thread.Thread.{Thread}
use Rattle.iop_thread.specs.declared.wait.Wait.{Wait}
use Rattle.iop_thread.specs.declared.wait.Wait.TheVariants.{Sleep, Delay, Object}
use Rattle.iop_time.specs.Timers.{sets_alarm, cancels, delays}
use Rattle.iop_kernel.specs.Boards.{Board}
use Rattle.iop_kernel.specs.EventFlags.{LiveFlag}
use Rattle.iop_kernel.specs.Handlers.{handler_returned}
use Rattle.iop_kernel.specs.Kinds.{State, Wants, Live, Table, library_of, waits_by_priority, with_objects}
use Rattle.iop_kernel.specs.Kinds
use Rattle.iop_kernel.specs.NamedThreads.{is_nobody_else}
use Rattle.iop_kernel.specs.ObjectServices.{threads_in_order}
use Rattle.iop_kernel.specs.Stacks.{Owner}
use Rattle.iop_kernel.specs.System.{Core, Left, System, Done, Served, may_switch, caller, running_registers, with_threads, with_event_flags, with_variable_pools, with_timers, with_irqs, with_interrupts, opened, answered, code_word, stores, storing_lines}
use Rattle.iop_kernel.specs.ThreadStarts.{ended}
use Rattle.iop_kernel.specs.ThreadWaits.{waits}
use Rattle.iop_kernel.specs.VariablePools.{meets_all}
use Rattle.iop_kernel.specs.WaiterPlaces.{HasPlace}
use Rattle.iop_kernel.specs.Waits.{wakes_word, wakes_with, wakes_all, core_leaves, core_requeues}
use Rattle.iop_kernel.specs.declared.active_handler.ActiveHandler.{ActiveHandler}
use Rattle.iop_kernel.specs.declared.after.After.{After}
use Rattle.iop_kernel.specs.declared.after.After.TheVariants.{Resume, Switch, ModuleReturned, Fault}
use Rattle.iop_kernel.specs.declared.stacks.TheConstants.{FROM_ABOVE}
use Rattle.iop_kernel.proofs.Keeping.Meetings.{met_of, set_flags, threads_met}
use Rattle.iop_kernel.proofs.Walk.Changes.{IsFirst, IsMadeOn, GoesFrom, Changes, IsAnswer, HasToWait}

-- what a call leaves and gives, and what becomes of its caller, is such
abbrev pub Ends : (After → System → List Piece → Type 0) → Served → Type 0
Ends Q d = Q d.left.after d.left.state d.pieces

-- so is what one leaves that looks at less
module _ (Q : After → System → List Piece → Type 0) (s : System) where
  abbrev pub CoreEnds : Left Core → Type 0
  CoreEnds left = Q left.after (record s { core = left.state }) []

  abbrev pub OwnerEnds : Left Owner → Type 0
  OwnerEnds left =
      Q left.after (record s { core = left.state.core; blocks = left.state.blocks }) []

  abbrev pub BoardEnds : Done Board → Type 0
  BoardEnds d =
      Q d.left.after (record s { core = d.left.state.core; memory = d.left.state.memory }) d.pieces

-- P holds of what a service has left and given so far, Q of what it leaves in the end, by what
-- becomes of its caller; Asks is what is known where a service asks for a thread that calls it
module _ (P : System → List Piece → Type 0) (Q : After → System → List Piece → Type 0)
    (Asks : Type 0) (s : System) where
  abbrev at : Core → System
  at c = record s { core = c }

  -- the kernel and its processor are left so, and nothing was given
  abbrev Lasts : Core → Type 0
  Lasts c = P (at c) []

  -- the thread that called has left the processor
  abbrev Leaves : Core → Type 0
  Leaves c = Q Switch (at c) []

  abbrev now : Core
  now = s.core

  abbrev table : ThreadTable
  table = s.core.kernel.threads

  abbrev registers : Cpu
  registers = running_registers s.core

  abbrev those : (kind : Kind) → Table kind
  those kind = Kinds.table kind s.core.kernel

  -- the ready threads of a priority are rotated, once 0 is answered
  abbrev rotated : ℕ → Core
  rotated priority =
      with_threads now (threads.rotates table priority (running_registers (answered now 0)))

  -- the registered libraries
  pub record RegistryMoves : Type 0 where
    pub registers : (libraries : List Entry) → P (record s { libraries = libraries }) []

  -- blocks of memory
  pub record BlockMoves : Type 0 where
    pub takes : (mode size at : ℕ)
        → P (record s { blocks = (allocating s.blocks mode size at).1 }) []
    pub frees : (at : ℕ) → P (record s { blocks = (freeing s.blocks at).1 }) []

  -- interrupts, and their lines
  pub record InterruptMoves : Type 0 where
    pub lines : (left : List IrqLine) → Lasts (with_irqs now left)
    pub turns : (on : Bool) → Lasts (with_interrupts now on)

  -- alarms
  pub record AlarmMoves : Type 0 where
    pub sets : (moment handler arg : ℕ)
        → Lasts (with_timers now
        (sets_alarm now.kernel.timers moment handler arg (reg now.cpu 28)).1)
    pub cancels : (handler arg : ℕ)
        → Lasts (with_timers now (cancels now.kernel.timers handler arg).1)

  -- threads, with what they wait for; a service lets its caller not go on where it may leave
  pub record ThreadMoves (MayLeave : Type 0) : Type 0 where
    pub dispatch : (enabled : Bool) → now.kernel.interrupts ≡ true → (enabled ≡ false → Asks)
        → Lasts (record now { kernel = record now.kernel { dispatching = enabled } })
    -- with a block for the stack
    pub creates : (size : ℕ) (param : Param) (stack : ℕ) (blocks : BlockMap)
        → allocating s.blocks FROM_ABOVE size 0 ≡ (stack, blocks)
        → P (record s {
          core = with_threads now (threads.creates table param stack (reg now.cpu 28)).1;
          blocks = blocks;
        }) []
    pub deletes : (id stack : ℕ) (left : ThreadTable) → threads.deletes table id ≡ (Ok stack, left)
        → P (record s {
          core = with_threads now left;
          blocks = (freeing s.blocks stack).1;
        }) []
    pub starts : (id argument : ℕ) → Lasts (with_threads now (threads.starts table id argument).1)
    -- the thread that calls ends, or its module returns
    pub ends : (id : ℕ) → caller now ≡ Some id → (id == LOADER) ≡ false → MayLeave
        → Leaves (ended now)
    pub ends_deleted : (id stack : ℕ) (left : ThreadTable) → caller now ≡ Some id
        → (id == LOADER) ≡ false → threads.deletes (ended now).kernel.threads id ≡ (Ok stack, left)
        → MayLeave → Q Switch (record s {
          core = with_threads (ended now) left;
          blocks = (freeing s.blocks stack).1;
        }) []
    pub returns : (id word : ℕ) → caller now ≡ Some id → (id == LOADER) ≡ true → MayLeave
        → Q (ModuleReturned word) (at (opened now)) []
    -- another thread ends: one that does not run, or the one that does
    pub terminates : (id : ℕ) (wait : Option Wait) (left : ThreadTable)
        → is_nobody_else now id ≡ false → threads.terminates table id ≡ (Ok wait, left)
        → is_it table.running id ≡ false → Lasts (core_leaves (with_threads now left) id wait)
    pub terminates_running : (id : ℕ) (wait : Option Wait) (left : ThreadTable)
        → is_nobody_else now id ≡ false → threads.terminates table id ≡ (Ok wait, left)
        → is_it table.running id ≡ true
        → Lasts (core_leaves (with_threads (opened now) left) id wait)
    pub changes : (id priority : ℕ) (wait : Option Wait) (left : ThreadTable)
        → threads.changes table id priority ≡ (Ok wait, left)
        → Lasts (core_requeues (with_threads now left) id priority wait)
    -- ready threads are rotated: of another priority than that of the running thread, or of its
    -- own, which then leaves the processor, whether it calls or a handler does
    pub rotates : (priority : ℕ) → has_priority priority (running_thread table) ≡ false
        → Lasts (rotated priority)
    pub rotates_beside : (priority : ℕ) → has_priority priority (running_thread table) ≡ true
        → may_switch now.kernel ≡ true → caller now ≡ None → Lasts (rotated priority)
    pub rotates_own : (priority id : ℕ) → has_priority priority (running_thread table) ≡ true
        → may_switch now.kernel ≡ true → caller now ≡ Some id → MayLeave
        → Leaves (answered (rotated priority) 0)
    pub releases : (id : ℕ) (t : Thread) (wait : Wait) → thread_of table.live id ≡ Some t
        → wait_in t.state ≡ Some wait
        → Lasts (core_leaves (wakes_with now t.id WAIT_RELEASED) t.id (Some wait))
    pub takes_wakeup : (left : ThreadTable) → threads.takes_wakeup table ≡ (true, left)
        → Lasts (with_threads now left)
    pub sleeps : (left : ThreadTable) → threads.takes_wakeup table ≡ (false, left)
        → may_switch now.kernel ≡ true → Asks → MayLeave → Leaves (waits now Sleep).state
    pub wakes_up : (id : ℕ) → is_nobody_else now id ≡ false
        → Lasts (with_threads now (threads.wakes_up table id).1)
    pub cancels : (id : ℕ) → Lasts (with_threads now (threads.cancels table id).1)
    pub suspends : (id : ℕ) → is_nobody_else now id ≡ false
        → (is_it table.running id && not now.kernel.dispatching) ≡ false
        → Lasts (with_threads now (threads.suspends table id registers).1)
    pub resumes : (id : ℕ) → is_nobody_else now id ≡ false
        → Lasts (with_threads now (threads.resumes table id).1)
    pub delays : (moment thread : ℕ) → caller now ≡ Some thread → may_switch now.kernel ≡ true
        → MayLeave
        → Leaves (waits (with_timers now (delays now.kernel.timers moment thread)) Delay).state

  -- objects of a kind, with the threads that are woken or wait
  pub record ObjectMoves (MayLeave : Type 0) (kind : Kind) : Type 0 where
    pub makes : (x : State kind) (blocks : BlockMap) → IsFirst kind x
        → IsMadeOn kind x s.blocks blocks
        → P (record s {
          core = with_objects kind now (objects.creates (those kind) x).1;
          blocks = blocks;
        }) []
    -- those that wait are woken
    pub deletes : (o : Live kind) (blocks : BlockMap) → object_of (those kind).live o.id ≡ Some o
        → GoesFrom kind o.state s.blocks blocks
        → P (record s {
          core = with_objects kind (with_threads now
              (wakes_all table (threads_in_order kind o) (code_word OBJECT_DELETED)))
              (objects.deletes (those kind) o.id);
          blocks = blocks;
        }) []
    pub changes : (id : ℕ) (x y : State kind) → state_of (those kind) id ≡ Some x
        → Changes kind (those kind) id x y
        → Lasts (with_objects kind now (with_state (those kind) id y))
    pub wakes : (id word : ℕ) (x : State kind) (one : Choice (Waiter (Wants kind)))
        → state_of (those kind) id ≡ Some x
        → chooses (waits_by_priority kind x) (waiters_of (those kind) id) ≡ Some one
        → IsAnswer kind x word
        → Lasts (wakes_word (with_objects kind now (with_waiters (those kind) id one.others))
        one.one.item.thread word)
    pub waits : (id thread : ℕ) (x : State kind) (wants : Wants kind)
        → caller now ≡ Some thread → may_switch now.kernel ≡ true
        → state_of (those kind) id ≡ Some x → HasToWait kind (those kind) id x wants
        → HasPlace kind s.memory wants → MayLeave → let priority = priority_of table.live thread in
        Leaves (waits (with_objects kind now (objects.waits (those kind) id
        (record { priority = priority; item = record { thread = thread; wants = wants } })))
        (Object kind id)).state

  -- bits of an event flag are set, and those are woken whose conditions then hold
  abbrev pub Sets : Type 0
  Sets =
      (bits : ℕ) (o : LiveFlag) → object_of (those EventFlag).live o.id ≡ Some o
      → Lasts (with_threads (with_event_flags now (set_flags now o bits))
      (wakes_all table (threads_met (met_of o bits)) (code_word OK)))

  -- memory is given back to a variable pool, and those get theirs whose size then fits
  abbrev pub Meets : Type 0
  Meets =
      (id block : ℕ) (x : State VariablePool) → state_of (those VariablePool) id ≡ Some x
      → is_out block x.ranges ≡ true
      → Lasts (meets_all id (with_variable_pools now
      (with_ranges (those VariablePool) id x (without block x.ranges))))

  -- what every service may do, and how one ends
  pub record EachMoves : Type 0 where
    -- nothing yet
    pub begins : P s []
    -- bytes are stored inside RAM, and their lines are given
    pub stores : (d : System) (given : List Piece) (place : ℕ) (bytes : List ℕ)
        → place + length bytes ≤ length d.memory.ram → P d given
        → P (stores d (Some place) bytes) (given ++ storing_lines d (Some place) bytes)
    -- a word is answered, and the caller goes on
    pub goes_on : (d : System) (given : List Piece) (word : ℕ) → P d given
        → Q Resume (record d { core = answered d.core word }) given
    -- an address is no place
    pub bad_place : Q (Fault Address) s []
    -- no thread calls a service that asks for one
    pub no_thread : Asks → caller now ≡ None → Q (Fault Service) s []
    -- a text is printed
    pub prints : (text : List ℕ) → P s (Told text ∷ [])

  -- the services of a library make its own moves alone
  pub record ServiceMoves (MayLeave : Type 0) (library : ℕ) : Type 0 where
    pub each : EachMoves
    pub registry : library ≡ LOADCORE → RegistryMoves
    pub blocks : library ≡ SYSMEM → BlockMoves
    pub interrupts : library ≡ INTRMAN → InterruptMoves
    pub alarms : library ≡ THBASE → AlarmMoves
    pub threads : library ≡ THBASE → ThreadMoves MayLeave
    pub objects : (kind : Kind) → library ≡ library_of kind → ObjectMoves MayLeave kind
    pub sets : library ≡ THEVENT → Sets
    pub meets : library ≡ THVPOOL → Meets

  -- where each may let its caller not go on
  abbrev pub Moves : (library : ℕ) → Type 0
  Moves = ServiceMoves ⊤

  -- a call of a number that is not listed
  abbrev pub UnlistedLasts : (library number : ℕ) → Type 0
  UnlistedLasts library number =
      P s (Traced (line_bytes s.core.kernel.clock (lines.Unlisted library number)) ∷ [])

  -- what a `syscall` does beside them
  pub record CallMoves : Type 0 where
    pub unlisted : (library number : ℕ) → UnlistedLasts library number
    -- it calls nothing, or who calls may not return so
    pub no_service : Q (Fault Service) s []
    -- the handler that runs returns
    pub handler : (handler : ActiveHandler) → s.core.kernel.handler ≡ Some handler
        → Leaves (handler_returned now handler (reg now.cpu 2))
