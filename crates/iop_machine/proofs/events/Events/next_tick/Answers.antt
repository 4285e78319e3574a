use Rattle.std.proofs.Common.{◌∙◌, ap, sym}
use Rattle.iop_machine.specs.Events.{next_tick}
use Rattle.iop_machine.proofs.Elements.{looked_up}
use Rattle.iop_machine.proofs.EventLemmas.{next_below, next_is_first}
use Rattle.iop_machine.proofs.events.Events.next_tick.Goals as goal

pub returns-clause-tick : goal.returns-clause-tick
returns-clause-tick c =
    let at = looked_up c.deref.ensures.value c.get.ensures.lookup c.in_ok-event.was in
    sym (next_is_first c.self.inside c.in_ok-event.event.now at c.self.invariant.come)
    ∙ ap next_tick c.self.view_is

pub returns-clause-comes : goal.returns-clause-comes
returns-clause-comes c =
    let at = looked_up c.deref.ensures.value c.get.ensures.lookup c.in_ok-event.was in
    next_below c.self.inside c.in_ok-event.event.now at c.self.invariant.come
