use Rattle.std.proofs.Common.{◌≡◌, [], ap, ◌∙◌, arith}
use Rattle.std.proofs.lemmas.Grind.{common_steps}
use Rattle.std.specs.Prelude.{is_some}
use Rattle.iop_kernel.specs.Deliveries.{delivers}
use Rattle.iop_kernel.specs.Standing.{core}
use Rattle.iop_kernel.specs.System.{with_irqs}
use Rattle.iop_machine.specs.Looking.{after_events}
use Rattle.iop_machine.proofs.LookingLemmas.{delivers_behind}
use Rattle.iop_machine.proofs.iop.Iop.would_deliver.Goals as goal

pub returns-then-is_empty : goal.returns-then-is_empty
returns-then-is_empty c =
    let none : [] ≡ c.due-due.result.now =
    grind (arith, common_steps, c.is_empty.ensures, c.if-is_empty.true) in
    delivers_behind c.args.self.now c.now.result [] c.would_deliver.result c.now.ensures.moment
    (none ∙ c.due-due.ensures.due) c.would_deliver.ensures

pub returns : goal.returns
returns c =
    delivers_behind c.args.self.now c.now.result c.due-due.result.now c.would_deliver_with.result
    c.now.ensures.moment c.due-due.ensures.due (λ k h.
    c.would_deliver_with.ensures k h
    ∙ ap (λ irqs. is_some (delivers (with_irqs (core k c.args.self.now.cpu) irqs)))
    (c.after_events-irqs.ensures
    ∙ ap (λ irqs. after_events irqs c.due-due.result.now) (c.copied.ensures ∙ c.irqs.ensures k h)))
