use Rattle.std.proofs.Common.{◌≡◌, ◌∙◌, ◌&&◌, ℕ, Bool, ap}
use Rattle.iop_base.specs.Bits.{has}
use Rattle.iop_intr.proofs.Finding.{deliverable_is, found_is}
use Rattle.iop_intr.proofs.irqs.Irqs.deliverable.Goals as goal

all_are : (c : goal.After-first) → (n : ℕ) →
    has c.intersection-2.result n
    ≡ (has c.self.inside.raised n && has c.self.inside.enabled n && has c.self.inside.handled n)
all_are c n =
    c.intersection-2.ensures n
    ∙ ap (λ (b : Bool). b && has c.self.inside.handled n) (c.intersection.ensures n)

pub returns-clause-lowest : goal.returns-clause-lowest
returns-clause-lowest c =
    deliverable_is c.self.inside c.self.view_is c.self.invariant _ (all_are c) _
    c.first.ensures.lowest c.first.ensures.below

pub returns-clause-found : goal.returns-clause-found
returns-clause-found c =
    found_is c.self.inside c.self.view_is c.self.invariant _ (all_are c) _
    c.first.ensures.lowest c.first.ensures.below
