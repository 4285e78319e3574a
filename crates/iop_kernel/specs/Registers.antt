-- Registers that nobody has: those of the processor where no thread runs and no handler is active,
-- and those that a handler keeps where no thread runs. They are zero, so that a machine has nothing
-- but what somebody has. This project's own profile.
use Rattle.std.specs.Prelude.{◌≡◌, false, None, IfSome}
use Rattle.iop_exec.specs.declared.cpu.Cpu.{Cpu}
use Rattle.iop_kernel.specs.System.{Core, is_active}
use Rattle.iop_kernel.specs.declared.active_handler.ActiveHandler.{ActiveHandler}
use Rattle.iop_thread.specs.States.{zeroed_at}

abbrev pub nobodys : Cpu
nobodys = zeroed_at 0

-- the processor's are zero where nothing executes, and those that a handler keeps where no thread
-- runs
pub record IsBare (c : Core) : Type 0 where
  pub processor : is_active c.kernel ≡ false → c.cpu ≡ nobodys
  pub kept : IfSome c.kernel.handler
      (λ handler. c.kernel.threads.running ≡ None → handler.kept ≡ nobodys)
