-- How the processors are spelled that somebody has: that of what executes, and the registers that a
-- handler keeps of the thread that it interrupted. This project's own profile.
use Rattle.std.specs.Prelude.{◌≡◌, ℕ, Bool, if◌then◌else◌, Option, Some, None, option_map, is_some}
use Rattle.iop_exec.specs.declared.cpu.Cpu.{Cpu}
use Rattle.iop_kernel.specs.System.{Kernel, Core}
use Rattle.iop_kernel.specs.declared.active_handler.ActiveHandler.{ActiveHandler}
use Rattle.iop_kernel.specs.declared.active_handler.Cause.{Cause}
use Rattle.iop_snapshot.specs.Forms.{Form, both, seen_as, present}
use Rattle.iop_thread.specs.States.{zeroed_at}
use Rattle.iop_saved_kernel.specs.Heads.{executes, has_interrupted}
use Rattle.iop_saved_kernel.specs.declared.executing.Executing.{Executing}
use Rattle.iop_saved_kernel.specs.declared.head.KernelHead.{KernelHead}

-- what is there only where something else says so
abbrev pub if_there : {X : Type 0} → Bool → X → Option X
if_there there x = if there then Some x else None

abbrev pub executing_of : KernelHead × (Option Cpu × Option Cpu) → Executing
executing_of parts = record { head = parts.0; cpu = parts.1.0; kept = parts.1.1 }

abbrev pub executing_parts : Executing → KernelHead × (Option Cpu × Option Cpu)
executing_parts e = (e.head, (e.cpu, e.kept))

-- the head, the processor of what executes, if something does, and the registers that are kept, if
-- a handler has interrupted a thread: each by a form of its own
abbrev pub executing_nest : Form KernelHead → (cpu kept : Form Cpu)
    → Form (KernelHead × (Option Cpu × Option Cpu))
executing_nest head cpu kept =
    both head (λ h. both (present (executes h) cpu) (λ _. present (has_interrupted h) kept))

unfoldable pub executing_form : Form KernelHead → (cpu kept : Form Cpu) → Form Executing
executing_form head cpu kept =
    seen_as (executing_nest head cpu kept) (λ parts. Some (executing_of parts)) executing_parts

-- what the kernel has beside its tables
abbrev pub cause_in : Option ActiveHandler → Option Cause
cause_in handler = option_map (λ handler. handler.cause) handler

abbrev pub head_in : Kernel → KernelHead
head_in k = record {
  clock = k.clock;
  interrupts = k.interrupts;
  dispatching = k.dispatching;
  running = k.threads.running;
  cause = cause_in k.handler;
}

abbrev pub kept_in : Option ActiveHandler → Option Cpu
kept_in handler = option_map (λ handler. handler.kept) handler

-- what a handler keeps, where a thread runs
abbrev pub kept_for : (running : Option ℕ) → Option ActiveHandler → Option Cpu
kept_for None handler = None
kept_for (Some id) handler = kept_in handler

abbrev pub executing_with : KernelHead → Cpu → Option ActiveHandler → Executing
executing_with head cpu handler = record {
  head = head;
  cpu = if_there (executes head) cpu;
  kept = kept_for head.running handler;
}

abbrev pub executing_in : Core → Executing
executing_in c = executing_with (head_in c.kernel) c.cpu c.kernel.handler

-- registers that nobody has are zero
abbrev pub had : Option Cpu → Cpu
had None = zeroed_at 0
had (Some cpu) = cpu

-- the handler that is active, with what it keeps
abbrev pub handler_with : (kept : Option Cpu) → Cause → ActiveHandler
handler_with kept cause = record { cause = cause; kept = had kept }

abbrev pub handler_of : Executing → Option ActiveHandler
handler_of e = option_map (handler_with e.kept) e.head.cause
