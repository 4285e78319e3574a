use Rattle.std.proofs.Common.{refl, ap, sym, ◌∙◌}
use Rattle.std.specs.Prelude.{is_some}
use Rattle.iop_kernel.proofs.kernel.Kernel.is_in_slot.Goals as goal

pub returns-then-is_some : goal.returns-then-is_some
returns-then-is_some g c = λ k h.
    let runs = sym (ap is_some (c.running.ensures k.threads h.holds.threads))
    ∙ sym c.is_some.ensures ∙ c.if-is_some.true in
    rw runs refl

pub returns-else-is_some : goal.returns-else-is_some
returns-else-is_some g c = λ k h.
    let runs = sym (ap is_some (c.running.ensures k.threads h.holds.threads))
    ∙ sym c.is_some.ensures ∙ c.if-is_some.false in
    rw runs c.if-is_some.false
