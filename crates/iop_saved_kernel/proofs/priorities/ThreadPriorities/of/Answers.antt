use Rattle.std.proofs.Common.{◌≡◌, ◌∷◌, [], length, length-append, ap, sym, ◌∙◌, arith}
use Rattle.std.specs.Prelude.{option_map}
use Rattle.iop_saved_kernel.specs.declared.priorities.ThreadPriority.{ThreadPriority}
use Rattle.iop_saved_kernel.proofs.PriorityLemmas.{first_found, more_found, all_found, most_found}
use Rattle.iop_saved_kernel.proofs.priorities.ThreadPriorities.of.Goals as goal

pub loop-init : goal.loop-init
loop-init g c = (
  ap length c.new-threads.ensures,
  λ s h. rw c.new-threads.ensures (first_found h),
)

pub returns-in_default : goal.returns-in_default
returns-in_default g c s h =
    all_found h c.loop.threads.items c.loop.last
    (sym (c.next_above.ensures s h) ∙ ap (option_map (λ t. t.now)) c.in_default.is)
    (c.loop.invariant.1 s h)

pub loop-preserved : goal.loop-preserved
loop-preserved g c =
    let thread = c.in-Some.thread.now in
    let one : ThreadPriority = record { thread = thread.id; priority = c.number.result } in (
      omega (
        arith,
        ap length c.push.ensures.items,
        length-append c.loop.threads.items (one ∷ []),
        c.loop.invariant.0,
      ),
      λ s h. rw (c.push.ensures.items, c.number.ensures.same)
          (more_found h c.loop.threads.items c.loop.last thread
          (sym (c.next_above.ensures s h) ∙ ap (option_map (λ t. t.now)) c.in-Some.is)
          (c.loop.invariant.1 s h)),
    )

pub returns : goal.returns
returns g c s h =
    most_found h c.loop.threads.items c.loop.last
    (omega (arith, c.loop.invariant.0, c.loop-test.false)) (c.loop.invariant.1 s h)
