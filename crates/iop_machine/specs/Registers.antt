-- How registers that nobody has are forgotten: this project's own profile.
use Rattle.std.specs.Prelude.{◌≡◌, ℕ, Bool, true, false, Option, Some, None, option_map}
use Rattle.iop_exec.specs.declared.cpu.Cpu.{Cpu}
use Rattle.iop_kernel.specs.System.{Core, in_handler, is_active}
use Rattle.iop_kernel.specs.declared.active_handler.ActiveHandler.{ActiveHandler}
use Rattle.iop_kernel.specs.Registers.{nobodys, IsBare}
use Rattle.iop_machine.specs.Iop.{Iop, core_of, with_core, later}

-- registers that somebody has, or nobody
abbrev pub if_had : (had : Bool) → Cpu → Cpu
if_had true cpu = cpu
if_had false cpu = nobodys

-- a handler keeps the registers of the thread that runs
abbrev pub keeps_for : (running : Option ℕ) → ActiveHandler → ActiveHandler
keeps_for (Some id) handler = handler
keeps_for None handler = record handler { kept = nobodys }

-- the registers that nobody has are forgotten
abbrev pub forgets : Core → Core
forgets c = record {
  kernel = record c.kernel {
    handler = option_map (keeps_for c.kernel.threads.running) c.kernel.handler;
  };
  cpu = if_had (is_active c.kernel) c.cpu;
}

abbrev pub forgotten : Iop → Iop
forgotten s = with_core s (forgets (core_of s))

-- a call has ended: a moment later, with no registers that nobody has
abbrev pub ends_call : Iop → Iop
ends_call s = later (forgotten s)

-- nobody has others, and what somebody has is not forgotten
pub record RegistersAreForgotten : Type 0 where
  pub bare : (c : Core) → IsBare (forgets c)
  -- where a thread runs, nothing is
  pub thread : (c : Core) (id : ℕ) → c.kernel.threads.running ≡ Some id → forgets c ≡ c
  -- where a handler is active, nothing of the processor, nor what it was begun for
  pub handler : (c : Core) → in_handler c.kernel ≡ true → (forgets c).cpu ≡ c.cpu
  pub cause : (c : Core)
      → option_map (λ handler. handler.cause) (forgets c).kernel.handler
      ≡ option_map (λ handler. handler.cause) c.kernel.handler
  -- and nothing else of the kernel
  pub kernel : (c : Core)
      → (forgets c).kernel ≡ record c.kernel { handler = (forgets c).kernel.handler }
