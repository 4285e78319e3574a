-- Dispatch (ps2sdk: thbase). That the running thread gives way to one of a strictly smaller
-- priority number alone, and is then the first of the ready ones, is this project's own profile.
use Rattle.std.specs.Prelude.{if◌then◌else◌, Option, None, option_map}
use Rattle.iop_base.specs.Piece.{Piece, Traced}
use Rattle.iop_base.specs.Text.{line_bytes}
use Rattle.iop_base.specs.declared.line.Line.TheVariants.{Run}
use Rattle.iop_thread.specs.Operations as threads
use Rattle.iop_kernel.specs.System.{Kernel, Core, may_dispatch}

-- what a dispatch leaves, and its line
pub record Dispatched : Type 0 where
  pub core : Core
  pub line : Piece

abbrev pub dispatched : Kernel → threads.Dispatch → Dispatched
dispatched k d = record {
  core = record { kernel = record k { threads = d.threads }; cpu = d.registers };
  line = Traced (line_bytes k.clock (Run d.id));
}

-- the best ready thread runs, where interrupts are on and dispatch is enabled, no handler runs, and
-- no thread or a worse one
unfoldable pub dispatches : Core → Option Dispatched
dispatches c =
    if may_dispatch c.kernel
    then option_map (dispatched c.kernel) (threads.dispatches c.kernel.threads c.cpu) else None
