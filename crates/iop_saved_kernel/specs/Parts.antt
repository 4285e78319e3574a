-- The part of a snapshot that the kernel and its processor have: how it is spelled, and how it is
-- put back. This project's own profile.
use Rattle.std.specs.Prelude.{◌≡◌, ℕ, nat_lt, nat_le, Bool, true, is_some, if◌then◌else◌, ◌&&◌, Option, Some, None, option_and_then, option_map, List}
use Rattle.iop_exec.specs.declared.cpu.Cpu.{Cpu}
use Rattle.iop_intr.specs.declared.irq_line.IrqLine.{IrqLine}
use Rattle.iop_kernel.specs.System.{Kernel, Core}
use Rattle.iop_kernel.specs.declared.active_handler.Cause.{Cause}
use Rattle.iop_kernel.specs.declared.active_handler.Cause.TheVariants.{Line, Alarm}
use Rattle.iop_objects.specs.Restoring as objects
use Rattle.iop_saved_tables.specs.Lines.{lines_form}
use Rattle.iop_saved_threads.specs.Processors.{cpu_form, steady_form, kept_form}
use Rattle.iop_snapshot.specs.Forms.{Form, both, seen_as, tested}
use Rattle.iop_thread.specs.Restoring as threads
use Rattle.iop_thread.specs.ThreadTable.{ThreadTable}
use Rattle.iop_time.specs.Timers.{Timers}
use Rattle.iop_saved_kernel.specs.Executing.{executing_form, executing_in, handler_of, had}
use Rattle.iop_saved_kernel.specs.Heads.{head_form, read_head}
use Rattle.iop_saved_kernel.specs.Next.{next_form, next_in}
use Rattle.iop_saved_kernel.specs.ObjectLists.{ObjectLists, ObjectTables, objects_form, object_lists, objects_back}
use Rattle.iop_saved_kernel.specs.Restoring.{that_go_back}
use Rattle.iop_saved_kernel.specs.ThreadLists.{ThreadLists, written_threads, read_threads, thread_lists, threads_back, priorities_in, priority_among}
use Rattle.iop_saved_kernel.specs.TimerLists.{TimerLists, timers_form, timer_lists, timers_back}
use Rattle.iop_saved_kernel.specs.declared.executing.Executing.{Executing}
use Rattle.iop_saved_kernel.specs.declared.head.KernelHead.{KernelHead}
use Rattle.iop_saved_kernel.specs.declared.next.Next.{Next}

pub record Parts : Type 0 where
  -- what the kernel has beside its tables, and the processors that somebody has
  pub executing : Executing
  pub threads : ThreadLists
  pub objects : ObjectLists
  pub timers : TimerLists
  -- the interrupt lines
  pub irqs : List IrqLine
  -- what is given out next
  pub next : Next

-- the same, one behind the other
abbrev pub Nest : Type 0
Nest = Executing × (ThreadLists × (ObjectLists × (TimerLists × (List IrqLine × Next))))

abbrev pub parts_with : Nest → Parts
parts_with nest = record {
  executing = nest.0;
  threads = nest.1.0;
  objects = nest.1.1.0;
  timers = nest.1.1.1.0;
  irqs = nest.1.1.1.1.0;
  next = nest.1.1.1.1.1;
}

abbrev pub nest_of : Parts → Nest
nest_of p = (p.executing, (p.threads, (p.objects, (p.timers, (p.irqs, p.next)))))

-- they stand one behind the other; what executes and the threads by these forms
abbrev pub nest_form : Form Executing → Form ThreadLists → Form Nest
nest_form executing threads =
    both executing (λ _. both threads (λ _. both objects_form (λ _. both timers_form
    (λ _. both lines_form (λ _. next_form)))))

unfoldable pub parts_form : Form Executing → Form ThreadLists → Form Parts
parts_form executing threads =
    seen_as (nest_form executing threads) (λ nest. Some (parts_with nest)) nest_of

-- the tables of objects that a kernel has
abbrev pub tables_in : Kernel → ObjectTables
tables_in k = record {
  semaphores = k.semaphores;
  event_flags = k.event_flags;
  mailboxes = k.mailboxes;
  variable_pools = k.variable_pools;
  fixed_pools = k.fixed_pools;
}

-- the parts of a kernel and its processor
abbrev pub parts_in : Core → Parts
parts_in c = record {
  executing = executing_in c;
  threads = thread_lists c.kernel.threads;
  objects = object_lists (tables_in c.kernel);
  timers = timer_lists c.kernel.timers;
  irqs = c.kernel.irqs;
  next = next_in c.kernel;
}

-- how they are written: whatever registers somebody has
abbrev pub written_form : Form Parts
written_form = parts_form (executing_form head_form cpu_form cpu_form) written_threads

-- how they are read: registers are those of steady processors, and those that are kept, of ones
-- that do not execute
abbrev pub steady_form_of_parts : Form Parts
steady_form_of_parts = parts_form (executing_form read_head steady_form kept_form) read_threads

-- the tables of a kernel, before what is given out next is put back
abbrev pub kernel_with : Executing → ThreadTable → ObjectTables → Timers → List IrqLine → Kernel
kernel_with e threads objects timers irqs = record {
  clock = e.head.clock;
  interrupts = e.head.interrupts;
  dispatching = e.head.dispatching;
  handler = handler_of e;
  threads = threads;
  semaphores = objects.semaphores;
  event_flags = objects.event_flags;
  mailboxes = objects.mailboxes;
  variable_pools = objects.variable_pools;
  fixed_pools = objects.fixed_pools;
  timers = timers;
  irqs = irqs;
}

-- an alarm that a handler was begun for had a number
abbrev pub had_number : (next : ℕ) → Option Cause → Bool
had_number next (Some (Alarm number)) = nat_lt 0 number && nat_lt number next
had_number next (Some (Line line)) = true
had_number next None = true

-- whether this may be given out next, by each table
abbrev pub may_be_next : Kernel → Next → Bool
may_be_next k next =
    threads.may_be_next k.threads next.thread && objects.may_be_next k.semaphores next.semaphore
    && objects.may_be_next k.event_flags next.event_flag
    && objects.may_be_next k.mailboxes next.mailbox
    && objects.may_be_next k.variable_pools next.variable_pool
    && objects.may_be_next k.fixed_pools next.fixed_pool && nat_le k.timers.next next.timer

abbrev pub with_next : Kernel → Next → Kernel
with_next k next = record k {
  threads = threads.with_next k.threads next.thread;
  semaphores = objects.with_next k.semaphores next.semaphore;
  event_flags = objects.with_next k.event_flags next.event_flag;
  mailboxes = objects.with_next k.mailboxes next.mailbox;
  variable_pools = objects.with_next k.variable_pools next.variable_pool;
  fixed_pools = objects.with_next k.fixed_pools next.fixed_pool;
  timers = record k.timers { next = next.timer };
}

-- the kernel and its processor, where this may be given out next
abbrev pub core_with : Executing → Next → Kernel → Option Core
core_with e next k =
    if had_number next.timer e.head.cause && may_be_next k next
    then Some (record { kernel = with_next k next; cpu = had e.cpu })
    else None

-- all parts are put back: the threads, the objects, whose waiters have the priorities of their
-- threads, the alarms and delays, the lines, and what is given out next
unfoldable pub core_back : Parts → Option Core
core_back p =
    option_and_then (λ threads. option_and_then (λ objects. option_and_then
    (λ timers. core_with p.executing p.next
    (kernel_with p.executing threads objects timers p.irqs)) (timers_back p.timers))
    (objects_back (priority_among (priorities_in threads.live)) p.objects))
    (threads_back p.executing.head.running p.threads)

-- the parts that can be read: those that can be put back
unfoldable pub core_form : Form Parts
core_form = that_go_back steady_form_of_parts core_back
