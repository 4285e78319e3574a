use Rattle.std.proofs.Common.{◌≡◌, ◌<◌, ◌≤◌, ◌∙◌, ℕ, true, nat_le, [], ◌∷◌, ap, sym, subst, refl, rules, lit<, arith}
use Rattle.std.proofs.lemmas.Bool.Decides.{nat_tests}
use Rattle.iop_objects.specs.Objects.{no_objects, waiting}
use Rattle.iop_objects.specs.declared.objects.TheConstants.{MOST_WAITERS}
use Rattle.iop_sema.specs.Semaphores.{Semaphores, creates, waits}
use Rattle.iop_sema_tests.proofs.tests.three_wait.Goals as goal

abbrev HasRoom : Semaphores → Type 0
HasRoom s = waiting s < MOST_WAITERS

-- one semaphore, for which no thread waits
abbrev one_made : ℕ → Semaphores
one_made attr = record {
  live =
      record {
        id = 1;
        state = record { attr = attr; option = 0; initial = 0; max = 1; count = 0 };
        waiters = [];
      }
      ∷ [];
  next = 2;
}

creates-one : (attr : ℕ) → attr ≤ 1 → (creates no_objects attr 0 0 1).1 ≡ one_made attr
creates-one attr low =
    let accepted : nat_le attr 1 ≡ true = grind (arith, nat_tests) in rw accepted refl

pub wait-requires-2-clause-room : goal.wait-requires-2-clause-room
wait-requires-2-clause-room c =
    let attr = c.args.attr in
    let none : c.in_ok-semaphores.semaphores ≡ no_objects = search rules in
    let made =
    c.create.ensures.left ∙ ap (λ s. (creates s attr 0 0 1).1) none
    ∙ creates-one attr c.requires in
    let one = c.wait.ensures ∙ ap (λ s. waits s 1 11 30) made in
    subst HasRoom (sym one) (lit< tt)

pub wait-requires-3-clause-room : goal.wait-requires-3-clause-room
wait-requires-3-clause-room c =
    let attr = c.args.attr in
    let none : c.in_ok-semaphores.semaphores ≡ no_objects = search rules in
    let made =
    c.create.ensures.left ∙ ap (λ s. (creates s attr 0 0 1).1) none
    ∙ creates-one attr c.requires in
    let one = c.wait.ensures ∙ ap (λ s. waits s 1 11 30) made in
    let two = c.wait-2.ensures ∙ ap (λ s. waits s 1 12 20) one in
    subst HasRoom (sym two) (lit< tt)
