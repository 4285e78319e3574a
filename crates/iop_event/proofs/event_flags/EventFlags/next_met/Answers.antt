use Rattle.std.proofs.Common.{◌≡◌, Some, sym, ap, ◌∙◌}
use Rattle.iop_event.specs.EventFlags.{meets_next, with_pattern}
use Rattle.iop_event.specs.WakeConditions.{is_met}
use Rattle.iop_event.proofs.Settling.{meets_next-taken}
use Rattle.iop_event.proofs.event_flags.EventFlags.next_met.Goals as goal
use Rattle.iop_objects.specs.Objects.{state_of, with_state, takes_where}

pub returns-clause-answer : goal.returns-clause-answer
returns-clause-answer c =
    let s = c.self.inside.objects in
    let x = c.in_ok-flag.flag in
    let live : state_of s c.args.id ≡ Some x =
    ap (λ t. state_of t c.args.id) c.self.view_is ∙ sym c.in_ok-flag.ensures.flag in
    let met = meets_next-taken s c.args.id x live c.in_ok-waiter.waiter
    (sym c.in_ok-waiter.ensures.answer) in
    sym (ap (λ r. r.0) met) ∙ ap (λ t. (meets_next t c.args.id).0) c.self.view_is

pub returns-clause-left : goal.returns-clause-left
returns-clause-left c =
    let s = c.self.inside.objects in
    let x = c.in_ok-flag.flag in
    let live : state_of s c.args.id ≡ Some x =
    ap (λ t. state_of t c.args.id) c.self.view_is ∙ sym c.in_ok-flag.ensures.flag in
    let met = meets_next-taken s c.args.id x live c.in_ok-waiter.waiter
    (sym c.in_ok-waiter.ensures.answer) in
    let left = (takes_where s c.args.id (is_met x.pattern)).1 in
    c.set_state.ensures
    ∙ ap (λ t. with_state t c.args.id (with_pattern x c.pattern_after-pattern.result))
    c.take_where.ensures.left
    ∙ ap (λ p. with_state left c.args.id (with_pattern x p)) c.pattern_after-pattern.ensures
    ∙ sym (ap (λ r. r.1) met) ∙ ap (λ t. (meets_next t c.args.id).1) c.self.view_is
