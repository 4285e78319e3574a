use Rattle.std.proofs.Common.{ap, sym, ◌∙◌}
use Rattle.std.specs.Prelude.{is_some}
use Rattle.iop_kernel.proofs.kernel.Kernel.active.Goals as goal

pub returns-else-is_some : goal.returns-else-is_some
returns-else-is_some g c = λ k h.
    let outside = ap is_some h.holds.handler ∙ sym c.is_some.ensures ∙ c.if-is_some.false in
    let runs = ap is_some (c.running.ensures k.threads h.holds.threads) in
    rw outside (c.is_some-else-is_some.ensures ∙ runs)
