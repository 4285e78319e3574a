use Rattle.std.proofs.Common.{ℕ, ◌+◌, List, length, ap, sym, ◌∙◌}
use Rattle.std.specs.Prelude.{is_some}
use Rattle.iop_base.specs.Places.{range_at}
use Rattle.iop_printf.specs.Formatting.{format_text}
use Rattle.iop_sysclib.proofs.ServedTexts.{sprintf_outside, sprintf_inside}
use Rattle.iop_sysclib.proofs.sprintf.sprintf.Goals as goal

pub returns-then-not-contains-clause-served : goal.returns-then-not-contains-clause-served
returns-then-not-contains-clause-served g c =
    let text = c.format_regs.new.out.items in
    let is_inside = λ (ram : List ℕ) (n : ℕ). is_some (range_at (length ram) c.args.to (n + 1)) in
    sprintf_outside c.args.guest.now c.args.to c.args.format c.args.sp c.args.registers text
    (c.format_regs.ensures
    ∙ ap (λ ram. format_text ram c.args.format c.args.registers c.args.sp) c.ram.ensures.value)
    c.args.now _
    (ap (λ (ram : List ℕ). is_inside ram (length text)) (sym c.ram-2.ensures.value)
    ∙ ap (is_inside c.ram-2.result.now) (sym c.len-len.ensures.value)
    ∙ sym c.contains.ensures ∙ c.if-not-contains.true)

pub returns-clause-served : goal.returns-clause-served
returns-clause-served g c =
    let text = c.format_regs.new.out.items in
    let is_inside = λ (ram : List ℕ). is_some (range_at (length ram) c.args.to (c.len-len.result + 1))
    in
    sprintf_inside c.args.guest.now c.args.to c.args.format c.args.sp c.args.registers text
    (c.format_regs.ensures
    ∙ ap (λ ram. format_text ram c.args.format c.args.registers c.args.sp) c.ram.ensures.value)
    c.ram-2.ensures.sound c.len-len.result c.len-len.ensures.value c.deref.result.now
    c.deref.ensures.0 c.args.now _ _ _ c.store_bytes.new.self c.fill.new.self
    c.store_bytes.ensures.memory c.store_bytes.ensures.lines c.fill.ensures.memory
    c.fill.ensures.lines
    (ap is_inside (sym c.ram-2.ensures.value) ∙ sym c.contains.ensures ∙ c.if-not-contains.false)
