use Rattle.std.proofs.Common.{◌≡◌, ◌<◌, ◌∙◌, [], ◌∷◌, ap, sym, subst, refl, rules, lit<}
use Rattle.iop_objects.specs.Objects.{no_objects, waiting}
use Rattle.iop_objects.specs.declared.objects.TheConstants.{MOST_WAITERS}
use Rattle.iop_mbx.specs.Mailboxes.{Mailboxes, creates, waits}
use Rattle.iop_mbx_tests.proofs.tests.two_wait.Goals as goal

abbrev HasRoom : Mailboxes → Type 0
HasRoom s = waiting s < MOST_WAITERS

-- one mailbox, for which no thread waits
abbrev one_made : Mailboxes
one_made = record {
  live =
      record { id = 1; state = record { attr = 1; option = 0; messages = [] }; waiters = [] } ∷ [];
  next = 2;
}

creates-one : (creates no_objects 1 0).1 ≡ one_made
creates-one = refl

pub wait-requires-2-clause-room : goal.wait-requires-2-clause-room
wait-requires-2-clause-room c =
    let none : c.in_ok-mailboxes.mailboxes ≡ no_objects = search rules in
    let made = c.create.ensures.left ∙ ap (λ s. (creates s 1 0).1) none ∙ creates-one in
    let one = c.wait.ensures ∙ ap (λ s. waits s 1 11 30 0x100) made in
    subst HasRoom (sym one) (lit< tt)
