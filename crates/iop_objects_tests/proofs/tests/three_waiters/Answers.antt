use Rattle.std.proofs.Common.{◌≡◌, ◌<◌, ◌∙◌, ap, sym, subst, rules, lit<}
use Rattle.iop_objects.specs.Objects.{Objects, no_objects, creates, waits, waiting}
use Rattle.iop_objects.specs.declared.objects.TheConstants.{MOST_WAITERS}
use Rattle.iop_objects_tests.proofs.tests.three_waiters.Goals as goal

abbrev HasRoom : {A W : Type 0} → Objects A W → Type 0
HasRoom objects = waiting objects < MOST_WAITERS

pub wait-requires-2-clause-room : goal.wait-requires-2-clause-room
wait-requires-2-clause-room c =
    let none : c.in_ok-objects.objects ≡ no_objects = search rules in
    let made = c.create.ensures.left ∙ ap (λ s. (creates s 5).1) none in
    let one =
    c.wait.ensures
    ∙ ap (λ s. waits s 1 (record { priority = 30; item = c.waiter.result })) made in
    subst HasRoom (sym one) (lit< tt)

pub wait-requires-3-clause-room : goal.wait-requires-3-clause-room
wait-requires-3-clause-room c =
    let none : c.in_ok-objects.objects ≡ no_objects = search rules in
    let made = c.create.ensures.left ∙ ap (λ s. (creates s 5).1) none in
    let one =
    c.wait.ensures
    ∙ ap (λ s. waits s 1 (record { priority = 30; item = c.waiter.result })) made in
    let two =
    c.wait-2.ensures
    ∙ ap (λ s. waits s 1 (record { priority = 20; item = c.waiter-2.result })) one in
    subst HasRoom (sym two) (lit< tt)
