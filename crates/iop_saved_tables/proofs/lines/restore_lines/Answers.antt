use Rattle.std.proofs.Common.{◌≡◌, ◌∙◌, ◌++◌, ◌∷◌, [], Some, List, length, take, ap, sym, arith, ◌+◌}
use Rattle.std.proofs.Math.ListN.{length-set}
use Rattle.std.proofs.lemmas.List.{take_all, take_more_set}
use Rattle.iop_intr.specs.declared.irq_line.IrqLine.{IrqLine}
use Rattle.iop_intr.specs.declared.irqs.TheConstants.{IRQ_LINES}
use Rattle.iop_snapshot.specs.declared.fault.SnapFault.TheVariants.{Bad}
use Rattle.iop_snapshot.proofs.Restoring.{restored_more, restored_short, restored_all}
use Rattle.iop_saved_tables.specs.Lines.{irq_line_form}
use Rattle.iop_saved_tables.proofs.lines.restore_lines.Goals as goal

pub returns-in_err-restore : goal.returns-in_err-restore
returns-in_err-restore c =
    rw c.from_residual.ensures
    (restored_short (λ _. irq_line_form) _ IRQ_LINES c.loop-number.number c.loop-number.decoder _
    c.loop-number-test.true c.loop-number.invariant.1 Bad c.in_err-restore.ensures)

pub loop-number-preserved : goal.loop-number-preserved
loop-number-preserved c =
    let n = c.loop-number.number in
    let lines = c.loop-number.irqs in
    let line = c.in_ok-restore.field-0 in
    let (long, kept) = c.loop-number.invariant in
    let longer : take (n + 1) c.put_line.new.self ≡ kept.front ++ line ∷ [] =
    ap (take (n + 1)) c.put_line.ensures ∙ take_more_set lines n line (omega (arith, long))
    ∙ ap (λ (xs : List IrqLine). xs ++ line ∷ []) kept.there in (
      ap length c.put_line.ensures ∙ length-set lines n line ∙ long,
      restored_more (λ _. irq_line_form) _ _ IRQ_LINES n c.loop-number.decoder c.restore.new.decoder _
          c.loop-number-test.true kept (line, longer, c.in_ok-restore.ensures),
    )

pub returns : goal.returns
returns c =
    let n = c.loop-number.number in
    let lines = c.loop-number.irqs in
    let (long, kept) = c.loop-number.invariant in
    let (xs, are, read) = restored_all (λ _. irq_line_form) _ IRQ_LINES n c.loop-number.decoder _
    c.loop-number-test.false kept in
    let all : xs ≡ lines = sym are ∙ take_all n lines (omega (arith, long)) in
    read ∙ ap (λ (ys : List IrqLine). Some (ys, c.loop-number.decoder)) all
