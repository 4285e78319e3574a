-- The lowest line that can be delivered.
use Rattle.std.proofs.Common.{◌≡◌, ℕ, ◌<◌, false, ◌&&◌, Option, None, Some, IfSome, MatchOption, List, length, replicate, refl, sym, subst, ◌∙◌, arith}
use Rattle.std.proofs.lemmas.List.{same_lists, get_or-replicate, length-replicate}
use Rattle.iop_base.specs.Bits.{has, IsLeast}
use Rattle.iop_base.proofs.Searching.{position-at, position-none}
use Rattle.iop_intr.specs.InterruptLines.{idle, line_of, is_deliverable, deliverable, IsDeliverable}
use Rattle.iop_intr.specs.LineViews.{lines_in}
use Rattle.iop_intr.specs.declared.irq_line.IrqLine.{IrqLine}
use Rattle.iop_intr.specs.declared.irqs.TheConstants.{IRQ_LINES}
use Rattle.iop_intr.specs.declared.irqs.Irqs.TheInside.{Inside}
use Rattle.iop_intr.proofs.Views.{same_line, length-lines_in, get_or-lines_in}
use Rattle.iop_intr.proofs.Calls.{is_deliverable_is}

-- all : the set of those that are raised, enabled and have a handler
module _ (a : Inside) {lines : List IrqLine} (view : lines_in a ≡ lines)
    (size : length a.handlers ≡ IRQ_LINES) (all : ℕ)
    (all_are : (n : ℕ) → has all n ≡ (has a.raised n && has a.enabled n && has a.handled n)) where
  passes_is : (n : ℕ) → n < IRQ_LINES → is_deliverable (line_of lines n) ≡ has all n
  passes_is n below = is_deliverable_is a view n below size ∙ sym (all_are n)

  count : length lines ≡ IRQ_LINES
  count = subst (λ (xs : List IrqLine). length xs ≡ IRQ_LINES) view (length-lines_in a)

  pub deliverable_is : (found : Option ℕ) →
      MatchOption found ((n : ℕ) → has all n ≡ false) (IsLeast all) →
      IfSome found (λ n. n < IRQ_LINES) → found ≡ deliverable lines
  deliverable_is None none below =
      sym (position-none is_deliverable lines idle
      (λ k h. passes_is k (omega (arith, count)) ∙ none k))
  deliverable_is (Some n) least below =
      sym (position-at is_deliverable lines idle n (omega (arith, below, count))
      (passes_is n below ∙ least.in_set)
      (λ k h. passes_is k (omega (arith, below)) ∙ least.lower k h))

  pub found_is : (found : Option ℕ) →
      MatchOption found ((n : ℕ) → has all n ≡ false) (IsLeast all) →
      IfSome found (λ n. n < IRQ_LINES) → IfSome found (IsDeliverable lines)
  found_is None none below = tt
  found_is (Some n) least below = record {
    below = below;
    is = passes_is n below ∙ least.in_set;
  }

pub all_idle : (a : Inside) → ((n : ℕ) → has a.raised n ≡ false) →
    ((n : ℕ) → has a.enabled n ≡ false) → ((n : ℕ) → has a.handled n ≡ false) →
    lines_in a ≡ replicate IRQ_LINES idle
all_idle a lowered disabled unhandled =
    same_lists (lines_in a) (replicate IRQ_LINES idle)
    (length-lines_in a ∙ sym (length-replicate IRQ_LINES idle)) (λ k d h.
    let below : k < IRQ_LINES = omega (arith, length-lines_in a) in
    get_or-lines_in a k d below
    ∙ same_line _ _ _ _ _ _ (lowered k) (disabled k) (rw (unhandled k) refl)
    ∙ sym (get_or-replicate IRQ_LINES k idle d below))
