-- The form of interrupt lines is lawful.
use Rattle.std.proofs.Common.{◌≡◌, ℕ, Bool, true, false, ◌&&◌, cond, eqb, Option, Some, None, List, [], ◌∷◌, length, get_or, refl, sym, ap, ◌∙◌}
use Rattle.std.specs.Prelude.{option_map, option_and_then}
use Rattle.std.proofs.lemmas.Bool.{and_parts, eqb-true}
use Rattle.std.proofs.lemmas.Option.{same_Some}
use Rattle.iop_base.specs.Numbers.{one_if}
use Rattle.iop_intr.specs.InterruptLines.{handler_of}
use Rattle.iop_intr.specs.Laws.{line_with}
use Rattle.iop_intr.specs.declared.handler.Handler.{Handler}
use Rattle.iop_intr.specs.declared.irq_line.IrqLine.{IrqLine}
use Rattle.iop_intr.specs.declared.irqs.TheConstants.{IRQ_LINES}
use Rattle.iop_snapshot.specs.Flags.{flag_of}
use Rattle.iop_snapshot.specs.Forms.{IsLawful, item}
use Rattle.iop_snapshot.specs.declared.widths.TheConstants.{LINE}
use Rattle.iop_snapshot.proofs.Combining.{item_lawful, seen_lawful, then_some, map_some}
use Rattle.iop_snapshot.proofs.Flags.{flag_again, flag_is}
use Rattle.iop_snapshot.proofs.Laying.{repeated_lawful}
use Rattle.iop_snapshot.proofs.Numbers.{numbers_from-all, fits_long}
use Rattle.iop_saved_tables.specs.Lines.{handler_numbers, irq_line_numbers, is_nowhere, handler_where, handler_in, irq_line_of, irq_line_form, lines_form}

-- a line is seen in its own numbers
again : (raised enabled : Bool) (handler : Option Handler)
    → irq_line_of (one_if raised ∷ one_if enabled ∷ handler_numbers handler)
    ≡ Some (line_with raised enabled handler)
again raised enabled None = rw (flag_again raised, flag_again enabled) refl
again raised enabled (Some h) = rw (flag_again raised, flag_again enabled) refl

-- all that it has is 0
nowhere_is : (a b c : ℕ) → is_nowhere (handler_of a b c) ≡ true
    → a ∷ b ∷ c ∷ [] ≡ 0 ∷ 0 ∷ 0 ∷ []
nowhere_is a b c e =
    let last = and_parts (eqb a 0 && eqb b 0) (eqb c 0) e in
    let first = and_parts (eqb a 0) (eqb b 0) last.0 in
    rw (eqb-true a 0 first.0, eqb-true b 0 first.1, eqb-true c 0 last.1) refl

handler_is : (there : Bool) (a b c : ℕ) (handler : Option Handler)
    → handler_where there (handler_of a b c) ≡ Some handler
    → handler_numbers handler ≡ one_if there ∷ a ∷ b ∷ c ∷ []
handler_is true a b c handler e =
    ap handler_numbers (sym (same_Some (Some (handler_of a b c)) handler e))
handler_is false a b c handler e = by (is_nowhere (handler_of a b c)) refl e
  where
    by : (bit : Bool) → is_nowhere (handler_of a b c) ≡ bit
        → cond bit (Some None) None ≡ Some handler
        → handler_numbers handler ≡ 0 ∷ a ∷ b ∷ c ∷ []
    by true is e =
        ap handler_numbers (sym (same_Some None handler e))
        ∙ ap (λ (l : List ℕ). 0 ∷ l) (sym (nowhere_is a b c is))
    by false is e = absurd cc

-- and numbers are those of the line that is seen in them
back : (ns : List ℕ) (line : IrqLine) → length ns ≡ 6 → irq_line_of ns ≡ Some line
    → irq_line_numbers line ≡ ns
back ns line long e =
    let at = λ (k : ℕ). get_or ns k 0 in
    let one = then_some (flag_of (at 0))
    (λ raised. option_and_then (λ enabled. option_map (line_with raised enabled) (handler_in ns))
    (flag_of (at 1))) line e in
    let two = then_some (flag_of (at 1))
    (λ enabled. option_map (line_with one.0 enabled) (handler_in ns)) line one.2 in
    let three = map_some (handler_in ns) (line_with one.0 two.0) line two.2 in
    let four = then_some (flag_of (at 2))
    (λ there. handler_where there (handler_of (at 3) (at 4) (at 5))) three.0 three.1 in
    let handler = handler_is four.0 (at 3) (at 4) (at 5) three.0 four.2 in
    ap irq_line_numbers (sym three.2)
    ∙ rw (flag_is (at 0) one.0 one.1, flag_is (at 1) two.0 two.1, handler, flag_is (at 2) four.0 four.1)
    (numbers_from-all 0 6 ns long)

irq_line_lawful : IsLawful irq_line_form
unfolding irq_line_form item
irq_line_lawful =
    seen_lawful (item LINE) irq_line_of irq_line_numbers (item_lawful LINE)
    (λ l fits. again l.raised l.enabled l.handler)
    (λ ns l fits e. back ns l (fits_long LINE ns fits) e)

pub lines_lawful : IsLawful lines_form
lines_lawful = repeated_lawful IRQ_LINES irq_line_form irq_line_lawful
