use Rattle.std.proofs.Common.{◌∙◌, sym, ap, arith, length}
use Rattle.std.specs.Prelude.{option_map}
use Rattle.std.specs.List.{list_all}
use Rattle.iop_saved_checks.specs.Made.{thread_can_be}
use Rattle.iop_saved_checks.proofs.ThreadsLeft.{all_at_first, none_left, passed, failed, one_less}
use Rattle.iop_saved_checks.proofs.made.each_can_be.Goals as goal

pub loop-init : goal.loop-init
loop-init g c s h = all_at_first h (thread_can_be (length c.args.ram.now))

pub returns-in_default : goal.returns-in_default
returns-in_default g c s h =
    let none = none_left h c.loop.last
    (sym (c.next_above.ensures s h) ∙ ap (option_map (λ t. t.now)) c.in_default.is) in
    ap (list_all (thread_can_be (length c.args.ram.now))) (sym none) ∙ (c.loop.invariant s h).0

pub returns-then-not-thread_can_be : goal.returns-then-not-thread_can_be
returns-then-not-thread_can_be g c s h =
    failed h c.loop.last (thread_can_be (length c.args.ram.now)) c.in-Some.thread.now
    (sym (c.next_above.ensures s h) ∙ ap (option_map (λ t. t.now)) c.in-Some.is)
    (sym c.if-not-thread_can_be.true ∙ c.thread_can_be.ensures)
    ∙ (c.loop.invariant s h).0

pub loop-preserved : goal.loop-preserved
loop-preserved g c s h =
    let is = sym (c.next_above.ensures s h) ∙ ap (option_map (λ t. t.now)) c.in-Some.is in
    let left = c.loop.invariant s h in (
      passed h c.loop.last (thread_can_be (length c.args.ram.now)) c.in-Some.thread.now is
          (sym c.if-not-thread_can_be.false ∙ c.thread_can_be.ensures)
          ∙ left.0,
      omega (
        arith,
        left.1,
        one_less h c.loop.last (thread_can_be (length c.args.ram.now)) c.in-Some.thread.now is,
      ),
    )
