-- The lines that the sets and the table stand for, where one line changes.
use Rattle.std.proofs.Common.{◌≡◌, ◌≢◌, ℕ, ◌<◌, Bool, Option, List, length, get_or, sym, ap, subst, ◌∙◌, arith}
use Rattle.std.proofs.Math.ListN.{set, length-set}
use Rattle.std.proofs.lemmas.List.{same_lists, get_or-set_same, get_or-set_other, set-get_or}
use Rattle.std.proofs.lemmas.List.FromFn.{get_or-map-range_with_len, length-map-range_with_len}
use Rattle.std.proofs.lemmas.Bool.{cases_eq}
use mathlib.Core.Logic.{◌⊎◌, inl, inr}
use Rattle.iop_intr.specs.InterruptLines.{idle, line_of}
use Rattle.iop_intr.specs.Laws.{line_with}
use Rattle.iop_intr.specs.LineViews.{line_in, lines_in}
use Rattle.iop_intr.specs.declared.handler.Handler.{Handler}
use Rattle.iop_intr.specs.declared.irq_line.IrqLine.{IrqLine}
use Rattle.iop_intr.specs.declared.irqs.TheConstants.{IRQ_LINES}
use Rattle.iop_intr.specs.declared.irqs.Irqs.TheInside.{Inside}

pub same_line : (r s e f : Bool) (h g : Option Handler) → r ≡ s → e ≡ f → h ≡ g →
    line_with r e h ≡ line_with s f g
same_line r s e f h g same_raised same_enabled same_handler = cc

pub length-lines_in : (a : Inside) → length (lines_in a) ≡ IRQ_LINES
unfolding lines_in
length-lines_in a = length-map-range_with_len (line_in a) 0 IRQ_LINES

pub get_or-lines_in : (a : Inside) (n : ℕ) (d : IrqLine) → n < IRQ_LINES →
    get_or (lines_in a) n d ≡ line_in a n
unfolding lines_in
get_or-lines_in a n d below =
    get_or-map-range_with_len (line_in a) 0 IRQ_LINES n n d below (omega arith)

-- the lines are those that the sets and the table stand for
module _ (a : Inside) {lines : List IrqLine} (view : lines_in a ≡ lines) (n : ℕ)
    (below : n < IRQ_LINES) where
  pub line_is : line_of lines n ≡ line_in a n
  line_is =
      subst (λ (xs : List IrqLine). get_or xs n idle ≡ line_in a n) view
      (get_or-lines_in a n idle below)

  module _ (b : Inside) (l : IrqLine) (here : line_in b n ≡ l)
      (others : (i : ℕ) → i < IRQ_LINES → i ≢ n → line_in b i ≡ line_in a i) where
    same_at : (i : ℕ) (d : IrqLine) → i < IRQ_LINES → (i ≡ n) ⊎ (i ≡ n → ⊥) →
        get_or (lines_in b) i d ≡ get_or (set (lines_in a) n l) i d
    same_at i d h (inl same) =
        let within : n < length (lines_in a) = omega (arith, length-lines_in a) in
        subst (λ (k : ℕ). get_or (lines_in b) k d ≡ get_or (set (lines_in a) n l) k d) (sym same)
        (get_or-lines_in b n d below ∙ here ∙ sym (get_or-set_same (lines_in a) n l d within))
    same_at i d h (inr other) =
        get_or-lines_in b i d h ∙ others i h other ∙ sym (get_or-lines_in a i d h)
        ∙ sym (get_or-set_other (lines_in a) n i l d other)

    pub set_is : lines_in b ≡ set lines n l
    set_is =
        same_lists (lines_in b) (set (lines_in a) n l)
        (length-lines_in b ∙ sym (length-lines_in a) ∙ sym (length-set (lines_in a) n l))
        (λ i d h. same_at i d (omega (arith, length-lines_in b)) (cases_eq i n))
        ∙ ap (λ (xs : List IrqLine). set xs n l) view

  pub unchanged : set lines n (line_of lines n) ≡ lines
  unchanged = set-get_or lines n idle
