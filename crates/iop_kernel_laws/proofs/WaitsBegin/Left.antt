-- What a service left of the thread that called it, where that thread does not go on.
use Rattle.std.proofs.Common.{◌≡◌, ℕ, ◌==◌, not, Bool, true, false, Option, Some, None, Result, refl, ap, sym, subst, arith}
use Rattle.std.proofs.lemmas.Bool.{cond_both}
use Rattle.std.proofs.lemmas.Bool.Decides.{nat_tests}
use Rattle.iop_base.specs.declared.code.Code.{Code}
use Rattle.iop_event.specs.EventFlags as flags
use Rattle.iop_event.specs.EventFlags.{EventFlags}
use Rattle.iop_event.specs.WakeConditions.{holds}
use Rattle.iop_event.specs.declared.event_flag.EventFlag as flag
use Rattle.iop_event.specs.declared.wanted.Wanted.{Wanted}
use Rattle.iop_exec.specs.Row.{with_reg}
use Rattle.iop_exec.specs.declared.cpu.Cpu.{Cpu}
use Rattle.iop_mbx.specs.Mailboxes as mailboxes
use Rattle.iop_mbx.specs.Mailboxes.{Mailboxes, next_message}
use Rattle.iop_objects.specs.Objects.{state_of}
use Rattle.iop_queues.specs.Queue.{Choice}
use Rattle.iop_ready.specs.Priorities.{priority_of as priority_of_word}
use Rattle.iop_sema.specs.Semaphores as semaphores
use Rattle.iop_sema.specs.Semaphores.{Semaphores}
use Rattle.iop_sema.specs.declared.semaphore.Semaphore as semaphore
use Rattle.iop_services.specs.declared.service.Service.TheVariants.{Thbase, Thsemap, Thevent, Thmsgbx}
use Rattle.iop_services.specs.declared.thbase_service.ThbaseService.TheVariants.{RotateThreadReadyQueue, SleepThread, DelayThread}
use Rattle.iop_services.specs.declared.thevent_service.TheventService.TheVariants.{WaitEventFlag}
use Rattle.iop_services.specs.declared.thmsgbx_service.ThmsgbxService.TheVariants.{ReceiveMbx}
use Rattle.iop_services.specs.declared.thsemap_service.ThsemapService.TheVariants.{WaitSema}
use Rattle.iop_thread.specs.Operations as threads
use Rattle.iop_thread.specs.ThreadTable.{ThreadTable, priority_of, has_priority, running_thread}
use Rattle.iop_thread.specs.declared.kind.Kind.{Kind}
use Rattle.iop_thread.specs.declared.kind.Kind.TheVariants.{Semaphore, EventFlag, Mailbox}
use Rattle.iop_thread.specs.declared.state.State.{State}
use Rattle.iop_thread.specs.declared.state.State.TheVariants.{Ready, Waiting}
use Rattle.iop_thread.specs.declared.wait.Wait.{Wait}
use Rattle.iop_thread.specs.declared.wait.Wait.TheVariants.{Sleep, Delay, Object}
use Rattle.iop_thread.proofs.Changes.{moves_one}
use Rattle.iop_thread.proofs.Waits.{moves_waits}
use Rattle.iop_time.specs.ClockTime.{ticks_of, moment_after}
use Rattle.iop_time.specs.Timers.{delays}
use Rattle.iop_kernel.specs.Boards.{Board, board_of, optional_place}
use Rattle.iop_kernel.specs.EventFlags.{wanted, tests_or_waits, waits_flag_at, wait_event_flag, serves_thevent}
use Rattle.iop_kernel.specs.Kinds.{Wants}
use Rattle.iop_kernel.specs.Mailboxes.{receives_or_waits, waits_mbx_at, receive_mbx, serves_thmsgbx}
use Rattle.iop_kernel.specs.ObjectServices.{waits_for}
use Rattle.iop_kernel.specs.Placing.{IsPlaced}
use Rattle.iop_kernel.specs.Priorities.{rotates_to, rotates_own, rotates_by}
use Rattle.iop_kernel.specs.Semaphores.{takes_or_waits, wait_sema, serves_thsemap}
use Rattle.iop_kernel.specs.Serving.{serves}
use Rattle.iop_kernel.specs.System.{Core, Left, Done, argument, may_switch, caller, running_registers, answered, words_place}
use Rattle.iop_kernel.specs.SystemClock.{waits_until, delay_thread}
use Rattle.iop_kernel.specs.Thbase.{serves_thbase}
use Rattle.iop_kernel.specs.ThreadWaits.{sleeps_by, sleep_thread}
use Rattle.iop_kernel_laws.specs.WaitingLaws.{Stops, WaitsFor, LeavesSo, InState}
use Rattle.iop_kernel.specs.declared.after.After.TheVariants.{Switch}
use Rattle.iop_kernel.proofs.Bodies.KindTables.{own_table}
use Rattle.iop_kernel_laws.proofs.Keeping.Leaving.{blocked_state, rotated_state}
use Rattle.iop_kernel.proofs.Keeping.RunningThread.{none_rotates, caller_runs, own_registers}

module _ (c : Core) (placed : IsPlaced c.kernel) (thread : ℕ) (calls : caller c ≡ Some thread) where
  abbrev Leaves : (Core → Type 0) → Left Core → Type 0
  Leaves P d = d.after ≡ Switch → P d.state

  abbrev Stopped : State → ThreadTable → Type 0
  Stopped state left = Stops c.kernel.threads left thread state

  -- it waits with the registers of its call
  blocked : (wait : Wait)
      → Stopped (Waiting wait c.cpu) (threads.blocks c.kernel.threads wait (running_registers c))
  blocked wait =
      let runs = caller_runs c thread calls in
      subst (λ (own : Cpu).
      Stopped (Waiting wait c.cpu) (threads.blocks c.kernel.threads wait own))
      (sym (own_registers c thread calls c.cpu))
      (record {
        now = blocked_state c.kernel.threads placed.threads thread runs wait c.cpu;
        turned = ((moves_one c.kernel.threads placed.threads).blocks wait c.cpu).running thread
            runs;
        running = ((moves_waits c.kernel.threads placed.threads).blocks wait c.cpu).running;
      })

  -- it sleeps
  abbrev Sleeps : Left Core → Type 0
  Sleeps = Leaves (λ left. Stopped (Waiting Sleep c.cpu) left.kernel.threads)

  slept_by : (r : Bool × ThreadTable) → Sleeps (sleeps_by c r)
  slept_by (true, left) = λ is. absurd (cc is)
  slept_by (false, left) = λ is. blocked Sleep

  pub slept : Sleeps (sleep_thread c)
  slept =
      cond_both (may_switch c.kernel) _ _ Sleeps
      (λ may. slept_by (threads.takes_wakeup c.kernel.threads)) (λ cannot is. absurd (cc is))

  -- it waits for a time
  abbrev Delays : (us : ℕ) → Left Core → Type 0
  Delays us =
      Leaves (λ left. Stopped (Waiting Delay c.cpu) left.kernel.threads
      × (left.kernel.timers
      ≡ delays c.kernel.timers (moment_after c.kernel.clock (ticks_of us)) thread))

  delayed_by : (us : ℕ) (o : Option ℕ) → caller c ≡ o
      → Delays us (waits_until c (moment_after c.kernel.clock (ticks_of us)) o)
  delayed_by us None is = absurd (cc (calls, is))
  delayed_by us (Some other) is =
      let same : other ≡ thread = cc (calls, is) in
      λ switches. (blocked Delay, ap (delays c.kernel.timers _) same)

  pub delayed : (us : ℕ) → Delays us (delay_thread c us)
  delayed us =
      cond_both (may_switch c.kernel) _ _ (Delays us)
      (λ may. delayed_by us (caller c) refl) (λ cannot is. absurd (cc is))

  -- it is put behind the ready threads of its priority
  abbrev Rotates : Left Core → Type 0
  Rotates = Leaves (λ left. Stopped (Ready (with_reg c.cpu 2 0)) left.kernel.threads)

  rotated_own : (priority : ℕ) → has_priority priority (running_thread c.kernel.threads) ≡ true
      → Stopped (Ready (with_reg c.cpu 2 0))
      (threads.rotates c.kernel.threads priority (running_registers (answered c 0)))
  rotated_own priority own =
      let given = with_reg c.cpu 2 0 in
      let runs = caller_runs c thread calls in
      subst (λ (registers : Cpu).
      Stopped (Ready given) (threads.rotates c.kernel.threads priority registers))
      (sym (own_registers c thread calls given))
      (record {
        now = rotated_state c.kernel.threads placed.threads thread runs priority given own;
        turned = ((moves_one c.kernel.threads placed.threads).rotates priority given).gives_way
            thread runs own;
        running = none_rotates c.kernel.threads placed.threads priority given own;
      })

  rotated_to : (priority : ℕ) → Rotates (rotates_to c priority)
  rotated_to priority =
      cond_both (not (has_priority priority (running_thread c.kernel.threads))) _ _ Rotates
      (λ other is. absurd (cc is))
      (λ own. cond_both (may_switch c.kernel) _ _ Rotates
      (λ may is. rotated_own priority (grind (arith, nat_tests, own)))
      (λ cannot is. absurd (cc is)))

  rotated_none : (o : Option ℕ) → Rotates (rotates_own c o)
  rotated_none None = λ is. absurd (cc is)
  rotated_none (Some id) = rotated_to (priority_of c.kernel.threads.live id)

  rotated_by : (word : ℕ) (o : Option ℕ) → Rotates (rotates_by c word o)
  rotated_by word (Some priority) = rotated_to priority
  rotated_by word None =
      cond_both (word == 0) _ _ Rotates (λ own. rotated_none (caller c))
      (λ other is. absurd (cc is))

  pub rotated : (word : ℕ) → Rotates (rotates_by c word (priority_of_word word))
  rotated word = rotated_by word (priority_of_word word)

  -- it waits for a live object
  module _ (kind : Kind) (id : ℕ) (wants : Wants kind) where
    abbrev pub Waits : Left Core → Type 0
    Waits = Leaves (λ left. WaitsFor kind c left id wants thread)

    stands : WaitsFor kind c (waits_for kind c id wants (Some thread)).state id wants thread
    stands = record { stops = blocked (Object kind id); objects = own_table kind c.kernel _ }

    pub waits_so : (o : Option ℕ) → caller c ≡ o → Waits (waits_for kind c id wants o)
    waits_so None is = absurd (cc (calls, is))
    waits_so (Some other) is =
        let same : thread ≡ other = cc (calls, is) in
        λ switches. subst
        (λ (n : ℕ). WaitsFor kind c (waits_for kind c id wants (Some n)).state id wants thread)
        same stands

  -- a semaphore, of which none is left
  sema_by : (id : ℕ) (o : Option semaphore.Semaphore)
      → Waits Semaphore id tt (takes_or_waits c id (semaphores.takes_it c.kernel.semaphores id o))
  sema_by id None = λ is. absurd (cc is)
  sema_by id (Some x) =
      cond_both (x.count == 0) _ _
      (λ (r : Code × Semaphores). Waits Semaphore id tt (takes_or_waits c id r))
      (λ zero. waits_so Semaphore id tt (caller c) refl) (λ some is. absurd (cc is))

  pub sema_waits : (id : ℕ) → Waits Semaphore id tt (wait_sema c id)
  sema_waits id =
      cond_both (may_switch c.kernel) _ _ (Waits Semaphore id tt)
      (λ may. sema_by id (state_of c.kernel.semaphores id)) (λ cannot is. absurd (cc is))

module _ (b : Board) (placed : IsPlaced b.core.kernel) (thread : ℕ)
    (calls : caller b.core ≡ Some thread) where
  abbrev now : Core
  now = b.core

  abbrev WaitsOn : (kind : Kind) (id : ℕ) → Wants kind → Done Board → Type 0
  WaitsOn kind id wants d =
      d.left.after ≡ Switch → WaitsFor kind now d.left.state.core id wants thread

  -- a mailbox without a message
  module _ (at id place : ℕ) where
    abbrev Received : Result ℕ Code × Mailboxes → Type 0
    Received r = WaitsOn Mailbox id at (receives_or_waits b at id place r)

    mailbox_next : (x : mailboxes.Mailbox) (o : Option (Choice ℕ))
        → Received (mailboxes.gets_by now.kernel.mailboxes id x o)
    mailbox_next x None = waits_so now placed thread calls Mailbox id at (caller now) refl
    mailbox_next x (Some one) = λ is. absurd (cc is)

    mailbox_by : (o : Option mailboxes.Mailbox)
        → Received (mailboxes.gets_it now.kernel.mailboxes id o)
    mailbox_by None = λ is. absurd (cc is)
    mailbox_by (Some x) = mailbox_next x (next_message x)

  mailbox_at : (at id : ℕ) (o : Option ℕ) → WaitsOn Mailbox id at (waits_mbx_at b at id o)
  mailbox_at at id None = λ is. absurd (cc is)
  mailbox_at at id (Some place) =
      cond_both (may_switch now.kernel) _ _ (WaitsOn Mailbox id at)
      (λ may. mailbox_by at id place (state_of now.kernel.mailboxes id))
      (λ cannot is. absurd (cc is))

  pub mailbox_waits : (at id : ℕ) → WaitsOn Mailbox id at (receive_mbx b at id)
  mailbox_waits at id = mailbox_at at id (words_place b.memory at 1)

  -- an event flag whose condition does not hold
  abbrev those : EventFlags
  those = now.kernel.event_flags

  module _ (id : ℕ) (asked : Wanted) (place : Option ℕ) where
    abbrev Tested : Result ℕ Code × EventFlags → Type 0
    Tested r = WaitsOn EventFlag id asked (tests_or_waits b id asked place r)

    flag_by : (o : Option flag.EventFlag)
        → Tested (flags.tests_it those id asked.bits asked.mode o)
    flag_by None = λ is. absurd (cc is)
    flag_by (Some x) =
        cond_both (asked.bits == 0) _ _ Tested (λ empty is. absurd (cc is))
        (λ some. cond_both (flags.is_taken those id x) _ _ Tested (λ taken is. absurd (cc is))
        (λ free. cond_both (holds asked.bits asked.mode x.pattern) _ _ Tested
        (λ met is. absurd (cc is))
        (λ unmet. waits_so now placed thread calls EventFlag id asked (caller now) refl)))

  flag_at : (id : ℕ) (asked : Wanted) (o : Option (Option ℕ))
      → WaitsOn EventFlag id asked (waits_flag_at b id asked o)
  flag_at id asked None = λ is. absurd (cc is)
  flag_at id asked (Some place) =
      cond_both (may_switch now.kernel) _ _ (WaitsOn EventFlag id asked)
      (λ may. flag_by id asked place (state_of those id)) (λ cannot is. absurd (cc is))

  pub flag_waits : (id : ℕ) (asked : Wanted)
      → WaitsOn EventFlag id asked (wait_event_flag b id asked)
  flag_waits id asked = flag_at id asked (optional_place b.memory asked.place)

-- a call that waits for a message has a place for it
place_by : (b : Board) (at id : ℕ) (o : Option ℕ) → (waits_mbx_at b at id o).left.after ≡ Switch
    → (place : ℕ) × (o ≡ Some place)
place_by b at id None is = absurd (cc is)
place_by b at id (Some place) is = (place, refl)

-- the services, by their arguments
pub thread_sleeps : LeavesSo (Thbase SleepThread) (InState (λ s. Waiting Sleep s.core.cpu))
unfolding serves serves_thbase
thread_sleeps s thread placed calls = slept s.core placed thread calls

pub thread_delayed : LeavesSo (Thbase DelayThread)
    (λ s left thread. let old = s.core.kernel in
    InState (λ s. Waiting Delay s.core.cpu) s left thread
    × (left.kernel.timers
    ≡ delays old.timers (moment_after old.clock (ticks_of (argument s.core 0))) thread))
unfolding serves serves_thbase
thread_delayed s thread placed calls = delayed s.core placed thread calls (argument s.core 0)

pub thread_rotates : LeavesSo (Thbase RotateThreadReadyQueue)
    (InState (λ s. Ready (with_reg s.core.cpu 2 0)))
unfolding serves serves_thbase
thread_rotates s thread placed calls = rotated s.core placed thread calls (argument s.core 0)

pub thread_takes : LeavesSo (Thsemap WaitSema)
    (λ s left. WaitsFor Semaphore s.core left (argument s.core 0) tt)
unfolding serves serves_thsemap
thread_takes s thread placed calls = sema_waits s.core placed thread calls (argument s.core 0)

pub thread_tests : LeavesSo (Thevent WaitEventFlag)
    (λ s left. WaitsFor EventFlag s.core left (argument s.core 0) (wanted s.core))
unfolding serves serves_thevent
thread_tests s thread placed calls =
    flag_waits (board_of s) placed thread calls (argument s.core 0) (wanted s.core)

pub thread_receives : LeavesSo (Thmsgbx ReceiveMbx)
    (λ s left thread.
    WaitsFor Mailbox s.core left (argument s.core 1) (argument s.core 0) thread
    × ((place : ℕ) × (words_place s.memory (argument s.core 0) 1 ≡ Some place)))
unfolding serves serves_thmsgbx
thread_receives s thread placed calls is =
    let at = argument s.core 0 in
    let id = argument s.core 1 in (
      mailbox_waits (board_of s) placed thread calls at id is,
      place_by (board_of s) at id (words_place s.memory at 1) is,
    )
