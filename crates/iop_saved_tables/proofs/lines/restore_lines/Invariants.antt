use Rattle.std.proofs.Common.{◌≡◌, ◌-◌, [], length, take}
use Rattle.iop_intr.specs.declared.irqs.TheConstants.{IRQ_LINES}
use Rattle.iop_snapshot.specs.Forms.{read_items}
use Rattle.iop_snapshot.proofs.Restoring.{Restored}
use Rattle.iop_saved_tables.specs.Lines.{irq_line_form}
use Rattle.iop_saved_tables.proofs.lines.restore_lines.Given as goal

abbrev pub invariant-loop-number : goal.invariant-loop-number
invariant-loop-number l =
    (length l.irqs ≡ IRQ_LINES)
    × Restored (λ _. irq_line_form) (λ xs. take l.number l.irqs ≡ xs) (IRQ_LINES - l.number)
    l.decoder (read_items (λ _. irq_line_form) [] IRQ_LINES l.fn.decoder)
