-- A kernel and its processor come back from their parts.
use Rattle.std.proofs.Common.{◌≡◌, ℕ, Bool, true, false, Option, Some, None, List, refl, sym, ap, subst, ◌∙◌}
use Rattle.std.specs.Prelude.{option_and_then, option_map, IfSome, nat_le, nat_lt}
use Rattle.std.proofs.lemmas.Bool.{and_from, lt-ltb}
use Rattle.iop_exec.specs.declared.cpu.Cpu.{Cpu}
use Rattle.iop_kernel.specs.System.{Kernel, Core}
use Rattle.iop_kernel.specs.declared.active_handler.ActiveHandler.{ActiveHandler}
use Rattle.iop_kernel.specs.declared.active_handler.Cause.{Cause}
use Rattle.iop_kernel.specs.declared.active_handler.Cause.TheVariants.{Line, Alarm}
use Rattle.iop_objects.specs.Objects.{no_objects}
use Rattle.iop_objects.specs.Restoring as objects
use Rattle.iop_saved_objects.proofs.ComingBack.{tables_back}
use Rattle.iop_saved_objects.specs.EventFlags.{saved_flags, put_event_flag}
use Rattle.iop_saved_objects.specs.FixedPools as fixed
use Rattle.iop_saved_objects.specs.FixedPools.{put_fixed_pool}
use Rattle.iop_saved_objects.specs.Laws.{TablesComeBack}
use Rattle.iop_saved_objects.specs.Mailboxes.{saved_mailboxes, put_mailbox}
use Rattle.iop_saved_objects.specs.Semaphores.{saved_semaphores, put_semaphore}
use Rattle.iop_saved_objects.specs.VariablePools as variable
use Rattle.iop_saved_objects.specs.VariablePools.{put_variable_pool}
use Rattle.iop_snapshot.specs.Putting.{put_all}
use Rattle.iop_thread.specs.Ordering.{in_order}
use Rattle.iop_thread.specs.Restoring as threads
use Rattle.iop_thread.specs.States.{zeroed_at}
use Rattle.iop_thread.specs.ThreadTable.{ThreadTable}
use Rattle.iop_thread.specs.declared.thread.Thread.{Thread}
use Rattle.iop_saved_kernel.specs.Executing.{executing_in, head_in, handler_of, had, if_there, kept_for, handler_with, cause_in}
use Rattle.iop_saved_kernel.specs.Heads.{executes}
use Rattle.iop_saved_kernel.specs.Laws.{CanBeBack, CanHaveBegun, CoresComeBack, core_in_order, own_priorities}
use Rattle.iop_saved_kernel.specs.Next.{next_in}
use Rattle.iop_saved_kernel.specs.ObjectLists.{ObjectTables, object_lists, objects_back}
use Rattle.iop_saved_kernel.specs.Parts.{parts_in, tables_in, core_back, core_with, kernel_with, with_next, had_number}
use Rattle.iop_saved_kernel.specs.ThreadLists.{thread_lists, threads_back, priorities_in, priority_among}
use Rattle.iop_saved_kernel.specs.TimerLists.{timer_lists, timers_back}
use Rattle.iop_saved_kernel.proofs.TablesBack.{IsBefore, objects_before, threads_before, timers_before}

-- where each is found, so are all
chain : {A B C D : Type 0} (a : Option A) (b : A → Option B) (c : Option C)
    (f : A → B → C → Option D) (x : A) (y : B) (z : C) → a ≡ Some x → b x ≡ Some y
    → c ≡ Some z
    → option_and_then (λ u. option_and_then (λ v. option_and_then (λ w. f u v w) c) (b u)) a
    ≡ f x y z
chain a b c f x y z is_a is_b is_c = rw (is_a, is_b, is_c) refl

-- the handler and the processor
handler_back : (c : Core)
    → (c.kernel.threads.running ≡ None
    → IfSome c.kernel.handler (λ handler. handler.kept ≡ zeroed_at 0))
    → handler_of (executing_in c) ≡ c.kernel.handler
handler_back c bare = by c.kernel.handler c.kernel.threads.running bare
  where
    by : (handler : Option ActiveHandler) (running : Option ℕ)
        → (running ≡ None → IfSome handler (λ h. h.kept ≡ zeroed_at 0))
        → option_map (handler_with (kept_for running handler)) (cause_in handler) ≡ handler
    by None running bare = refl
    by (Some h) None bare = ap (λ (kept : Cpu). Some (record h { kept = kept })) (sym (bare refl))
    by (Some h) (Some id) bare = refl

-- an alarm that the handler was begun for had a number
alarm_had : (next : ℕ) (cause : Cause) → CanHaveBegun next cause
    → had_number next (Some cause) ≡ true
alarm_had next (Line line) begun = refl
alarm_had next (Alarm number) begun =
    and_from (nat_lt 0 number) (nat_lt number next) (lt-ltb 0 number begun.0)
    (lt-ltb number next begun.1)

number_had : (next : ℕ) (handler : Option ActiveHandler)
    → IfSome handler (λ h. CanHaveBegun next h.cause) → had_number next (cause_in handler) ≡ true
number_had next None begun = refl
number_had next (Some h) begun = alarm_had next h.cause begun

cpu_back : (there : Bool) (cpu : Cpu) → (there ≡ false → cpu ≡ zeroed_at 0)
    → had (if_there there cpu) ≡ cpu
cpu_back true cpu bare = refl
cpu_back false cpu bare = sym (bare refl)

-- all of them, each before what is given out next
module _ (c : Core) (can : CanBeBack c) where
  abbrev k : Kernel
  k = c.kernel

  abbrev tables : TablesComeBack (own_priorities k)
  tables = tables_back (own_priorities k)

  semaphores : IsBefore
      (put_all (put_semaphore (own_priorities k)) no_objects (saved_semaphores k.semaphores))
      (λ t. objects.may_be_next t k.semaphores.next) (λ t. objects.with_next t k.semaphores.next)
      k.semaphores
  semaphores =
      objects_before (put_semaphore (own_priorities k)) saved_semaphores k.semaphores
      (tables.semaphores k.semaphores can.tables.semaphores.0 can.tables.semaphores.1)

  event_flags : IsBefore
      (put_all (put_event_flag (own_priorities k)) no_objects (saved_flags k.event_flags))
      (λ t. objects.may_be_next t k.event_flags.next)
      (λ t. objects.with_next t k.event_flags.next) k.event_flags
  event_flags =
      objects_before (put_event_flag (own_priorities k)) saved_flags k.event_flags
      (tables.event_flags k.event_flags can.tables.event_flags.0 can.tables.event_flags.1)

  mailboxes : IsBefore
      (put_all (put_mailbox (own_priorities k)) no_objects (saved_mailboxes k.mailboxes))
      (λ t. objects.may_be_next t k.mailboxes.next) (λ t. objects.with_next t k.mailboxes.next)
      k.mailboxes
  mailboxes =
      objects_before (put_mailbox (own_priorities k)) saved_mailboxes k.mailboxes
      (tables.mailboxes k.mailboxes can.tables.mailboxes.0 can.tables.mailboxes.1)

  variable_pools : IsBefore
      (put_all (put_variable_pool (own_priorities k)) no_objects
      (variable.saved_pools k.variable_pools))
      (λ t. objects.may_be_next t k.variable_pools.next)
      (λ t. objects.with_next t k.variable_pools.next) k.variable_pools
  variable_pools =
      objects_before (put_variable_pool (own_priorities k)) variable.saved_pools k.variable_pools
      (tables.variable_pools k.variable_pools can.tables.variable_pools.0
      can.tables.variable_pools.1)

  fixed_pools : IsBefore
      (put_all (put_fixed_pool (own_priorities k)) no_objects (fixed.saved_pools k.fixed_pools))
      (λ t. objects.may_be_next t k.fixed_pools.next)
      (λ t. objects.with_next t k.fixed_pools.next) k.fixed_pools
  fixed_pools =
      objects_before (put_fixed_pool (own_priorities k)) fixed.saved_pools k.fixed_pools
      (tables.fixed_pools k.fixed_pools can.tables.fixed_pools.0 can.tables.fixed_pools.1)

  threads_are : IsBefore (threads_back k.threads.running (thread_lists k.threads))
      (λ t. threads.may_be_next t k.threads.next) (λ t. threads.with_next t k.threads.next)
      (in_order k.threads)
  threads_are = threads_before k.threads can.tables.threads

  timers : IsBefore (timers_back (timer_lists k.timers)) (λ t. nat_le t.next k.timers.next)
      (λ t. record t { next = k.timers.next }) k.timers
  timers = timers_before k.timers can.tables.timers can.tables.numbers

  same_live : threads_are.table.live ≡ k.threads.live
  same_live = ap (λ (t : ThreadTable). t.live) threads_are.leaves

  -- with each of them in its place
  made : Some (record {
    kernel = with_next (kernel_with (executing_in c) threads_are.table (record {
      semaphores = semaphores.table;
      event_flags = event_flags.table;
      mailboxes = mailboxes.table;
      variable_pools = variable_pools.table;
      fixed_pools = fixed_pools.table;
    }) timers.table k.irqs) (next_in k);
    cpu = had (if_there (executes (head_in k)) c.cpu);
  }) ≡ Some (core_in_order c)
  made = λ i. Some (record {
    kernel = record {
      clock = k.clock;
      interrupts = k.interrupts;
      dispatching = k.dispatching;
      handler = handler_back c can.kept i;
      threads = threads_are.leaves i;
      semaphores = semaphores.leaves i;
      event_flags = event_flags.leaves i;
      mailboxes = mailboxes.leaves i;
      variable_pools = variable_pools.leaves i;
      fixed_pools = fixed_pools.leaves i;
      timers = timers.leaves i;
      irqs = k.irqs;
    };
    cpu = cpu_back (executes (head_in k)) c.cpu can.cpu i;
  })

  abbrev tables_found : ObjectTables
  tables_found = record {
    semaphores = semaphores.table;
    event_flags = event_flags.table;
    mailboxes = mailboxes.table;
    variable_pools = variable_pools.table;
    fixed_pools = fixed_pools.table;
  }

  objects_found : objects_back (own_priorities k) (object_lists (tables_in k)) ≡ Some tables_found
  unfolding objects_back
  objects_found = rw (
    semaphores.is_found,
    event_flags.is_found,
    mailboxes.is_found,
    variable_pools.is_found,
    fixed_pools.is_found,
  ) refl

  -- their waiters have the priorities that the threads have which were put back
  objects_behind :
      objects_back (priority_among (priorities_in threads_are.table.live))
      (object_lists (tables_in k)) ≡ Some tables_found
  objects_behind =
      subst (λ (live : List Thread).
      objects_back (priority_among (priorities_in live)) (object_lists (tables_in k))
      ≡ Some tables_found) (sym same_live) objects_found

  last : core_with (executing_in c) (next_in k)
      (kernel_with (executing_in c) threads_are.table tables_found timers.table k.irqs)
      ≡ Some (core_in_order c)
  last = rw (
    number_had k.timers.next k.handler can.cause,
    threads_are.may_be,
    semaphores.may_be,
    event_flags.may_be,
    mailboxes.may_be,
    variable_pools.may_be,
    fixed_pools.may_be,
    timers.may_be,
  ) made

  pub core_is_back : core_back (parts_in c) ≡ Some (core_in_order c)
  unfolding core_back
  core_is_back =
      chain (threads_back k.threads.running (thread_lists k.threads))
      (λ t. objects_back (priority_among (priorities_in t.live)) (object_lists (tables_in k)))
      (timers_back (timer_lists k.timers))
      (λ t o m. core_with (executing_in c) (next_in k) (kernel_with (executing_in c) t o m k.irqs))
      threads_are.table tables_found timers.table threads_are.is_found objects_behind
      timers.is_found
      ∙ last

pub cores_back : CoresComeBack
cores_back c can = core_is_back c can
