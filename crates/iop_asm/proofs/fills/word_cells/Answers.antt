use Rattle.std.proofs.Common.{◌∙◌, ap, sym}
use Rattle.iop_asm.specs.declared.value.Value.{Value}
use Rattle.iop_asm.specs.Values.{view}
use Rattle.iop_asm.proofs.FillLemmas.{fitting_cell, fitting_cells}
use Rattle.iop_asm.proofs.AllLemmas.{read_on-end, read_on-wrong}
use Rattle.iop_asm.proofs.fills.word_cells.Goals as goal

pub returns-in_default : goal.returns-in_default
returns-in_default c =
    let made = λ (value : Value). fitting_cell c.args.line (view value) in
    let none = sym (c.in_default.ensures ∙ ap made c.value-item.is) in
    sym (read_on-wrong made _ c.args.values.now c.loop-value.value-index c.value-item.result
    c.loop-value-test.true none)
    ∙ c.loop-value.invariant ∙ fitting_cells c.args.line c.args.values.now

pub returns : goal.returns
returns c =
    sym (read_on-end _ _ _ _ c.loop-value-test.false)
    ∙ c.loop-value.invariant ∙ fitting_cells c.args.line c.args.values.now
