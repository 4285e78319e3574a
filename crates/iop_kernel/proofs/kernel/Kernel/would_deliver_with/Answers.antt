use Rattle.std.proofs.Common.{ap, refl, sym, ◌∙◌}
use Rattle.std.specs.Prelude.{is_some}
use Rattle.iop_time.specs.Turns.{due}
use Rattle.iop_kernel.specs.Standing.{core}
use Rattle.iop_kernel.specs.System.{with_irqs}
use Rattle.iop_kernel.proofs.Order.Nothing.{delivers_some}
use Rattle.iop_kernel.proofs.kernel.Kernel.would_deliver_with.Goals as goal

pub returns-then-is_some : goal.returns-then-is_some
returns-then-is_some g c = λ k h.
    let may = sym (c.may_deliver.ensures k h) ∙ c.if-may_deliver.true in
    let line = sym (ap is_some c.deliverable.ensures.lowest) ∙ sym c.is_some.ensures
    ∙ c.if-is_some.true in
    c.if-is_some.true
    ∙ sym (delivers_some (with_irqs (core k c.args.cpu.now) c.args.irqs.now)
    ∙ rw (may, line) refl)

pub returns-else-is_some : goal.returns-else-is_some
returns-else-is_some g c = λ k h.
    let may = sym (c.may_deliver.ensures k h) ∙ c.if-may_deliver.true in
    let line = sym (ap is_some c.deliverable.ensures.lowest) ∙ sym c.is_some.ensures
    ∙ c.if-is_some.false in
    let told = c.is_some-else-is_some.ensures ∙ ap is_some c.due.ensures.number
    ∙ sym (ap (λ timers. is_some (due timers c.args.self.now.clock)) h.holds.timers)
    ∙ sym (ap (λ t. is_some (due k.timers t)) h.holds.clock) in
    told
    ∙ sym (delivers_some (with_irqs (core k c.args.cpu.now) c.args.irqs.now)
    ∙ rw (may, line) refl)

pub returns-else-may_deliver : goal.returns-else-may_deliver
returns-else-may_deliver g c = λ k h.
    let may = sym (c.may_deliver.ensures k h) ∙ c.if-may_deliver.false in
    c.if-may_deliver.false
    ∙ sym (delivers_some (with_irqs (core k c.args.cpu.now) c.args.irqs.now) ∙ rw may refl)
