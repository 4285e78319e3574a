-- Whether the tables of a kernel agree with each other and with memory, so that it is one in which
-- a machine can stand where the budget of a run ends: this project's own profile.
use Rattle.std.specs.Prelude.{Bool, ◌&&◌, ◌||◌, is_some, length}
use Rattle.iop_kernel.specs.System.{Kernel, in_handler}
use Rattle.iop_stubs.specs.Stubs.{Memory}
use Rattle.iop_thread.specs.declared.kind.Kind.TheVariants.{Semaphore, EventFlag, Mailbox, VariablePool, FixedPool}
use Rattle.iop_saved_checks.specs.Made.{threads_can_be, pools_are_inside}
use Rattle.iop_saved_checks.specs.Objects.{objects_agree}
use Rattle.iop_saved_checks.specs.Threads.{threads_agree, delays_agree}

-- whether a thread runs, or another may, at once or once the handler that runs has returned
abbrev pub is_awake : Kernel → Bool
is_awake k = is_some k.threads.running || k.dispatching && (in_handler k || k.interrupts)

-- whether the objects of all kinds agree with the threads and with memory
unfoldable pub all_objects_agree : Memory → Kernel → Bool
all_objects_agree memory k =
    objects_agree memory k.threads Semaphore k.semaphores
    && objects_agree memory k.threads EventFlag k.event_flags
    && objects_agree memory k.threads Mailbox k.mailboxes
    && objects_agree memory k.threads VariablePool k.variable_pools
    && objects_agree memory k.threads FixedPool k.fixed_pools

unfoldable pub agrees : Memory → Kernel → Bool
agrees memory k =
    is_awake k && threads_agree k && delays_agree k && all_objects_agree memory k
    && threads_can_be (length memory.ram) k.threads && pools_are_inside (length memory.ram) k
