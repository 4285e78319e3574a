use Rattle.std.proofs.Common.{false, ap, sym, ◌∙◌}
use Rattle.iop_script.specs.declared.raise.Raise.{Raise}
use Rattle.iop_machine.specs.Events.{due_events}
use Rattle.iop_machine.proofs.DueEvents.{due_until, due_all}
use Rattle.iop_machine.proofs.events.Events.due.Goals as goal

-- an event that is not there
abbrev none : Raise
none = record { at = 0; line = 0; up = false }

pub returns-in-Some-clause-due : goal.returns-in-Some-clause-due
returns-in-Some-clause-due c =
    sym (due_until c.args.moment c.in-Some.count c.left-left.result.now none
    c.left-left.ensures.come (sym c.first_later.ensures ∙ c.in-Some.is))
    ∙ ap (due_events c.args.moment) c.left-left.ensures.left

pub returns-in-None-clause-due : goal.returns-in-None-clause-due
returns-in-None-clause-due c =
    sym (due_all c.args.moment c.left-left.result.now none
    (sym c.first_later.ensures ∙ c.in-None.is))
    ∙ ap (due_events c.args.moment) c.left-left.ensures.left
