use Rattle.std.proofs.Common.{◌+◌, drop, ap, sym, ◌∙◌}
use Rattle.std.proofs.lemmas.List.{drop_all}
use Rattle.iop_machine.specs.Looking.{after_events}
use Rattle.iop_machine.proofs.DueEvents.{event_at}
use Rattle.iop_machine.proofs.looking.after_events.Goals as goal

pub loop-event-preserved : goal.loop-event-preserved
loop-event-preserved c =
    let i = c.loop-event.event-index in
    ap (λ irqs. after_events irqs (drop (i + 1) c.args.events.now)) c.change_line.ensures
    ∙ ap (after_events c.loop-event.irqs)
    (sym (event_at c.args.events.now i _ c.loop-event-test.true))
    ∙ c.loop-event.invariant

pub returns : goal.returns
returns c =
    sym (ap (after_events c.loop-event.irqs)
    (drop_all c.loop-event.event-index c.args.events.now c.loop-event-test.false))
    ∙ c.loop-event.invariant
