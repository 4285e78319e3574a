use Rattle.std.proofs.Common.{◌≡◌, ◌+◌, drop, get_or, ap, sym, ◌∙◌}
use Rattle.std.proofs.lemmas.List.{drop_all}
use Rattle.std.specs.Prelude.{◌&&◌, false}
use Rattle.iop_script.specs.declared.raise.Raise.{Raise}
use Rattle.iop_machine.specs.Restoring.{may_come_behind}
use Rattle.iop_machine.proofs.ListsLeft.{left_at}
use Rattle.iop_machine.proofs.restoring.events_may_come.Goals as goal

-- what an index behind the last one tells
abbrev none : Raise
none = record { at = 0; line = 0; up = false }

pub returns-then-not-may_come : goal.returns-then-not-may_come
returns-then-not-may_come c =
    let events = c.args.events.now in
    let i = c.loop-event.event-index in
    sym (c.loop-event.invariant
    ∙ ap (may_come_behind c.loop-event.last) (left_at events i none c.loop-event-test.true)
    ∙ ap (λ may. may && may_come_behind (get_or events i none).at (drop (i + 1) events))
    (sym c.may_come.ensures ∙ c.if-not-may_come.true))

pub loop-event-preserved : goal.loop-event-preserved
loop-event-preserved c =
    let events = c.args.events.now in
    let i = c.loop-event.event-index in
    c.loop-event.invariant
    ∙ ap (may_come_behind c.loop-event.last) (left_at events i none c.loop-event-test.true)
    ∙ ap (λ may. may && may_come_behind (get_or events i none).at (drop (i + 1) events))
    (sym c.may_come.ensures ∙ c.if-not-may_come.false)

pub returns : goal.returns
returns c =
    sym (c.loop-event.invariant
    ∙ ap (may_come_behind c.loop-event.last)
    (drop_all c.loop-event.event-index c.args.events.now c.loop-event-test.false))
