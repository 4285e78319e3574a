use Rattle.std.proofs.Common.{◌+◌, Some, List, ◌∙◌, ap, sym, subst, refl, arith}
use Rattle.std.proofs.lemmas.Option.{slice_get_within}
use Rattle.iop_script.specs.declared.raise.Raise.{Raise}
use Rattle.iop_machine.specs.Events.{due_events, events_of, TakesDue}
use Rattle.iop_machine.proofs.Elements.{looked_up}
use Rattle.iop_machine.proofs.EventLemmas.{behind_comes, not_taken, one_taken}
use Rattle.iop_machine.proofs.events.Events.take_due.Goals as goal

pub returns-then-event-moment : goal.returns-then-event-moment
returns-then-event-moment c =
    let at = looked_up c.deref.ensures.value c.get.ensures.lookup c.in_ok-event.was in (
      refl,
      ap (due_events c.args.moment) (sym c.self.view_is)
          ∙ not_taken c.self.inside c.in_ok-event.field-0.now at c.self.invariant.come c.args.moment
          c.if-event-moment.true,
    )

pub invariant_of-self : goal.invariant_of-self
invariant_of-self c =
    let at = looked_up c.deref.ensures.value c.get.ensures.lookup c.in_ok-event.was in
    let within = slice_get_within c.self.inside.events.items c.self.inside.taken
    c.in_ok-event.field-0.now at in record {
      come = behind_comes c.self.inside c.in_ok-event.field-0.now at c.self.invariant.come;
      short = c.self.invariant.short;
      taken = omega (arith, within);
    }

pub returns : goal.returns
returns c =
    let at = looked_up c.deref.ensures.value c.get.ensures.lookup c.in_ok-event.was in
    let event = c.in_ok-event.field-0.now in
    subst (λ (old : List Raise). TakesDue (Some event) c.args.moment old
    (events_of (record c.self.inside { taken = c.self.inside.taken + 1 }))) c.self.view_is
    (one_taken c.self.inside event at c.self.invariant.come c.args.moment c.if-event-moment.false)
