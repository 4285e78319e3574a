-- How interrupt lines are spelled: this project's own profile.
use Rattle.std.specs.Prelude.{ℕ, ◌==◌, Bool, ◌&&◌, if◌then◌else◌, Option, Some, None, option_map, option_and_then, List, [], ◌∷◌, slice_index}
use Rattle.iop_base.specs.Numbers.{one_if}
use Rattle.iop_intr.specs.InterruptLines.{handler_of}
use Rattle.iop_intr.specs.Laws.{line_with}
use Rattle.iop_intr.specs.declared.handler.Handler.{Handler}
use Rattle.iop_intr.specs.declared.irq_line.IrqLine.{IrqLine}
use Rattle.iop_intr.specs.declared.irqs.TheConstants.{IRQ_LINES}
use Rattle.iop_snapshot.specs.Flags.{flag_of}
use Rattle.iop_snapshot.specs.Forms.{Form, item, seen_as, repeated}
use Rattle.iop_snapshot.specs.declared.widths.TheConstants.{LINE}

-- whether there is a handler, and what it has, which is 0 where there is none
abbrev pub handler_numbers : Option Handler → List ℕ
handler_numbers None = 0 ∷ 0 ∷ 0 ∷ 0 ∷ []
handler_numbers (Some h) = 1 ∷ h.address ∷ h.arg ∷ h.gp ∷ []

abbrev pub irq_line_numbers : IrqLine → List ℕ
irq_line_numbers l = one_if l.raised ∷ one_if l.enabled ∷ handler_numbers l.handler

abbrev pub is_nowhere : Handler → Bool
is_nowhere h = h.address == 0 && h.arg == 0 && h.gp == 0

-- a handler that is there, or none, where all that it has is 0
abbrev pub handler_where : Bool → Handler → Option (Option Handler)
handler_where there h =
    if there then Some (Some h) else if is_nowhere h then Some None else None

abbrev pub handler_in : List ℕ → Option (Option Handler)
handler_in ns =
    option_and_then
    (λ there. handler_where there
    (handler_of (slice_index ns 3) (slice_index ns 4) (slice_index ns 5)))
    (flag_of (slice_index ns 2))

abbrev pub irq_line_of : List ℕ → Option IrqLine
irq_line_of ns =
    option_and_then
    (λ raised. option_and_then (λ enabled. option_map (line_with raised enabled) (handler_in ns))
    (flag_of (slice_index ns 1)))
    (flag_of (slice_index ns 0))

unfoldable pub irq_line_form : Form IrqLine
irq_line_form = seen_as (item LINE) irq_line_of irq_line_numbers

-- all lines, one behind the other, without a count
abbrev pub lines_form : Form (List IrqLine)
lines_form = repeated IRQ_LINES irq_line_form
