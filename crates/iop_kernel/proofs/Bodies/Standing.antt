-- Kernels that hold what others have, and what calls take.
use Rattle.std.proofs.Common.{◌≡◌, ◌++◌, Bool, Option, Some, None, List, refl, ap, sym, subst, rules}
use Rattle.iop_base.specs.Output.{Output, Gives}
use Rattle.iop_base.specs.Piece.{Piece}
use Rattle.iop_base.proofs.Giving.{gives_none, gives_then}
use Rattle.iop_event.specs.EventFlags.{EventFlags}
use Rattle.iop_exec.specs.declared.cpu.Cpu.{Cpu}
use Rattle.iop_intr.specs.declared.irq_line.IrqLine.{IrqLine}
use Rattle.iop_mbx.specs.Mailboxes.{Mailboxes}
use Rattle.iop_pools.specs.FixedPools.{FixedPools}
use Rattle.iop_pools.specs.VariablePools.{VariablePools}
use Rattle.iop_ready.specs.declared.entry.Entry.{Entry}
use Rattle.iop_sema.specs.Semaphores.{Semaphores}
use Rattle.iop_stubs.specs.Stubs.{Memory}
use Rattle.iop_thread.specs.Standing as threads
use Rattle.iop_thread.specs.ThreadTable.{ThreadTable}
use Rattle.iop_thread.specs.declared.kind.Kind.{Kind}
use Rattle.iop_thread.specs.declared.kind.Kind.TheVariants.{Semaphore, EventFlag, Mailbox, VariablePool, FixedPool}
use Rattle.iop_thread.specs.declared.threads.Threads.{Threads}
use Rattle.iop_time.specs.Timers.{Timers}
use Rattle.iop_kernel.specs.Boards.{Board, quiet}
use Rattle.iop_kernel.specs.Dispatching.{Dispatched}
use Rattle.iop_kernel.specs.Kinds.{table}
use Rattle.iop_kernel.specs.Standing.{Holds, IsSound, TakesCore, TakesBoard, Dispatches, held}
use Rattle.iop_kernel.specs.System.{Kernel, Left, Done, Core}
use Rattle.iop_kernel.specs.declared.after.After.{After}
use Rattle.iop_kernel.specs.declared.kernel.Kernel.{Kernel as Program}

-- the kernel that the program's kernel has, with the threads that it stands for
abbrev pub kernel_of : {R : Type 0} → Program R → ThreadTable → Kernel
kernel_of p threads = record {
  clock = p.clock;
  interrupts = p.interrupts;
  dispatching = p.dispatching;
  handler = p.handler;
  threads = threads;
  semaphores = p.semaphores;
  event_flags = p.event_flags;
  mailboxes = p.mailboxes;
  variable_pools = p.variable_pools;
  fixed_pools = p.fixed_pools;
  timers = p.timers;
  irqs = p.irqs;
}

-- what holds of that one holds of each kernel that is held, since there is no other
pub over : {R : Type 0} (stands_for : R → List Entry → Type 0) {p : Program R} (P : Kernel → Type 0)
    → ((t : ThreadTable) → Holds stands_for p (kernel_of p t) → P (kernel_of p t)) → (k : Kernel)
    → Holds stands_for p k → P k
over stands_for {p} P so k h =
    let is : k ≡ kernel_of p k.threads =
    rw (
      h.clock,
      h.interrupts,
      h.dispatching,
      h.handler,
      h.semaphores,
      h.event_flags,
      h.mailboxes,
      h.variable_pools,
      h.fixed_pools,
      h.timers,
      h.irqs,
    ) refl in
    subst P (sym is) (so k.threads (subst (Holds stands_for p) is h))

-- what an operation answered, and what it left
pub told : {A B : Type 0} (did : A × B) {answer : A} → answer ≡ did.0 → did ≡ (answer, did.1)
told did is = ap (λ x. (x, did.1)) (sym is)

module _ {R : Type 0} (stands_for : R → List Entry → Type 0) {p : Program R} {k : Kernel} where
  -- other threads
  pub holds_with : {t : Threads R} {s : ThreadTable} → Holds stands_for p k
      → threads.Stands stands_for t s
      → Holds stands_for (record p { threads = t }) (record k { threads = s })
  holds_with h now = search rules

  -- other semaphores
  pub holds_semaphores : {t s : Semaphores} → Holds stands_for p k → s ≡ t
      → Holds stands_for (record p { semaphores = t }) (record k { semaphores = s })
  holds_semaphores h now = search rules

  -- other event flags
  pub holds_flags : {t s : EventFlags} → Holds stands_for p k → s ≡ t
      → Holds stands_for (record p { event_flags = t }) (record k { event_flags = s })
  holds_flags h now = search rules

  -- other mailboxes
  pub holds_mailboxes : {t s : Mailboxes} → Holds stands_for p k → s ≡ t
      → Holds stands_for (record p { mailboxes = t }) (record k { mailboxes = s })
  holds_mailboxes h now = search rules

  -- other variable pools
  pub holds_variable : {t s : VariablePools} → Holds stands_for p k → s ≡ t
      → Holds stands_for (record p { variable_pools = t }) (record k { variable_pools = s })
  holds_variable h now = search rules

  -- other fixed pools
  pub holds_fixed : {t s : FixedPools} → Holds stands_for p k → s ≡ t
      → Holds stands_for (record p { fixed_pools = t }) (record k { fixed_pools = s })
  holds_fixed h now = search rules

  -- other alarms and delays
  pub holds_timers : {t s : Timers} → Holds stands_for p k → s ≡ t
      → Holds stands_for (record p { timers = t }) (record k { timers = s })
  holds_timers h now = search rules

  -- other interrupt lines
  pub holds_irqs : {t s : List IrqLine} → Holds stands_for p k → s ≡ t
      → Holds stands_for (record p { irqs = t }) (record k { irqs = s })
  holds_irqs h now = search rules

  -- interrupts are on, or off
  pub holds_interrupts : (on : Bool) → Holds stands_for p k
      → Holds stands_for (record p { interrupts = on }) (record k { interrupts = on })
  holds_interrupts on h = search rules

  -- its objects of a kind are those of the kernel
  pub holds_table : Holds stands_for p k → (kind : Kind) → table kind k ≡ held kind p
  holds_table h Semaphore = h.semaphores
  holds_table h EventFlag = h.event_flags
  holds_table h Mailbox = h.mailboxes
  holds_table h VariablePool = h.variable_pools
  holds_table h FixedPool = h.fixed_pools

-- after a dispatch, made or not, it stands for some kernel
pub sound_after_dispatch : {R : Type 0} (stands_for : R → List Entry → Type 0) (c : Core)
    (o : Option Dispatched) (made : Bool) (cpu : Cpu) (a b : Output) {p : Program R}
    → Dispatches stands_for c o made p cpu a b → IsSound stands_for p
sound_after_dispatch stands_for c None made cpu a b left = (c.kernel, left.1)
sound_after_dispatch stands_for c (Some d) made cpu a b left = (d.core.kernel, left.1)

module _ {R : Type 0} {stands_for : R → List Entry → Type 0} {memory : Memory} {left : Left Core}
    {after : After} {p : Program R} {cpu : Cpu} {a : Output} where
  -- a call that looks at the kernel alone leaves memory and gives nothing
  pub takes_quiet : TakesCore stands_for left after p cpu
      → TakesBoard stands_for (quiet memory left) after p cpu memory a a
  takes_quiet h = record { core = h; ram = refl; gives = gives_none a }

  -- so does one that answers, or faults
  pub answers_quiet : after ≡ left.after → Holds stands_for p left.state.kernel
      → cpu ≡ left.state.cpu → TakesBoard stands_for (quiet memory left) after p cpu memory a a
  answers_quiet answer kernel processor =
      takes_quiet (record { answer = answer; kernel = kernel; processor = processor })

-- pieces are given before a call
pub takes_after : {R : Type 0} {stands_for : R → List Entry → Type 0} {done : Done Board}
    {after : After} {p : Program R} {cpu : Cpu} {memory : Memory} {a b c : Output}
    {pieces : List Piece} → Gives a b pieces → TakesBoard stands_for done after p cpu memory b c
    → TakesBoard stands_for (record done { pieces = pieces ++ done.pieces }) after p cpu memory a c
takes_after g h = record { core = h.core; ram = h.ram; gives = gives_then g h.gives }
