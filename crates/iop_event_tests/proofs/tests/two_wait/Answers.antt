use Rattle.std.proofs.Common.{◌≡◌, ◌<◌, ◌⊎◌, ◌∙◌, ℕ, true, [], ◌∷◌, ap, sym, subst, refl, rules, lit<, arith}
use Rattle.std.proofs.lemmas.Bool.Decides.{nat_tests}
use Rattle.iop_objects.specs.Objects.{no_objects, waiting}
use Rattle.iop_objects.specs.declared.objects.TheConstants.{MOST_WAITERS}
use Rattle.iop_event.specs.EventFlags.{EventFlags, creates, is_attribute, waits}
use Rattle.iop_event_tests.proofs.tests.two_wait.Goals as goal

abbrev HasRoom : EventFlags → Type 0
HasRoom s = waiting s < MOST_WAITERS

-- one event flag, for which no thread waits
abbrev one_made : ℕ → EventFlags
one_made attr = record {
  live =
      record {
        id = 1;
        state = record { attr = attr; option = 0; first = 0; pattern = 0 };
        waiters = [];
      }
      ∷ [];
  next = 2;
}

creates-one : (attr : ℕ) → (attr ≡ 0) ⊎ (attr ≡ 2) → (creates no_objects attr 0 0).1 ≡ one_made attr
creates-one attr known =
    let accepted : is_attribute attr ≡ true = grind (arith, nat_tests, known) in rw accepted refl

pub wait-requires-2-clause-room : goal.wait-requires-2-clause-room
wait-requires-2-clause-room c =
    let attr = c.args.attr in
    let none : c.in_ok-flags.flags ≡ no_objects = search rules in
    let made =
    c.create.ensures.left ∙ ap (λ s. (creates s attr 0 0).1) none
    ∙ creates-one attr c.requires in
    let one = c.wait.ensures ∙ ap (λ s. waits s 1 11 30 c.wanted.result) made in
    subst HasRoom (sym one) (lit< tt)
