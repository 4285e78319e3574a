-- How the program's sets of lines and its table of handlers stand for the lines.
use Rattle.std.specs.Prelude.{ℕ, if◌then◌else◌, None, List, map}
use Rattle.std.specs.List.{slice_get, range_with_len}
use Rattle.iop_base.specs.Bits.{has}
use Rattle.iop_intr.specs.declared.irq_line.IrqLine.{IrqLine}
use Rattle.iop_intr.specs.declared.irqs.TheConstants.{IRQ_LINES}
use Rattle.iop_intr.specs.declared.irqs.Irqs.TheInside.{Inside}

-- the line of a number
abbrev pub line_in : Inside → ℕ → IrqLine
line_in irqs n = record {
  raised = has irqs.raised n;
  enabled = has irqs.enabled n;
  handler = if has irqs.handled n then slice_get irqs.handlers n else None;
}

unfoldable pub lines_in : Inside → List IrqLine
lines_in irqs = map (line_in irqs) (range_with_len 0 IRQ_LINES)
