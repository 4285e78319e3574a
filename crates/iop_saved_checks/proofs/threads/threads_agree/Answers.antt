use Rattle.std.proofs.Common.{◌∙◌, sym, ap, arith}
use Rattle.std.specs.Prelude.{option_map}
use Rattle.std.specs.List.{list_all}
use Rattle.iop_saved_checks.specs.Threads.{thread_agrees, threads_agree}
use Rattle.iop_saved_checks.proofs.ThreadsLeft.{all_at_first, none_left, passed, failed, one_less}
use Rattle.iop_saved_checks.proofs.threads.threads_agree.Goals as goal

pub loop-init : goal.loop-init
unfolding threads_agree
loop-init g c k h = all_at_first h.threads (thread_agrees k)

pub returns-in_default : goal.returns-in_default
returns-in_default g c k h =
    let none = none_left h.threads c.loop.last
    (sym (c.next_above.ensures k.threads h.threads)
    ∙ ap (option_map (λ t. t.now)) c.in_default.is) in
    ap (list_all (thread_agrees k)) (sym none) ∙ (c.loop.invariant k h).0

pub returns-then-not-thread_agrees : goal.returns-then-not-thread_agrees
returns-then-not-thread_agrees g c k h =
    failed h.threads c.loop.last (thread_agrees k) c.in-Some.thread.now
    (sym (c.next_above.ensures k.threads h.threads) ∙ ap (option_map (λ t. t.now)) c.in-Some.is)
    (sym c.if-not-thread_agrees.true ∙ c.thread_agrees.ensures k h)
    ∙ (c.loop.invariant k h).0

pub loop-preserved : goal.loop-preserved
loop-preserved g c k h =
    let is = sym (c.next_above.ensures k.threads h.threads)
    ∙ ap (option_map (λ t. t.now)) c.in-Some.is in
    let left = c.loop.invariant k h in (
      passed h.threads c.loop.last (thread_agrees k) c.in-Some.thread.now is
          (sym c.if-not-thread_agrees.false ∙ c.thread_agrees.ensures k h)
          ∙ left.0,
      omega (
        arith,
        left.1,
        one_less h.threads c.loop.last (thread_agrees k) c.in-Some.thread.now is,
      ),
    )
