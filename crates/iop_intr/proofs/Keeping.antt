-- The laws of the interrupt lines.
use Rattle.std.proofs.Common.{◌≡◌, ℕ, ◌<◌, ◌≤◌, Bool, true, false, ◌&&◌, Option, None, Some, is_some, nat_lt, MatchOption, length, refl, sym, ap, ◌∙◌, arith}
use Rattle.std.specs.List.{position_or_len}
use Rattle.std.proofs.Math.ListN.{set, length-set, get_or-eq_default}
use Rattle.std.proofs.lemmas.List.{get_or-set_same, get_or-set_other, set-get_or}
use Rattle.std.proofs.lemmas.List.Quantifiers.{position-Some}
use Rattle.std.proofs.lemmas.Bool.{true≢false, and_parts, and_from, cases_Bool, cases_lt, ltb-false}
use Rattle.std.proofs.lemmas.List.Sums.{fails_before_first}
use mathlib.Core.Logic.{◌⊎◌, inl, inr}
use Rattle.iop_intr.specs.InterruptLines.{idle, line_of, is_deliverable, deliverable, delivering, finishing}
use Rattle.iop_intr.specs.Laws.{CanBeDelivered, IsLowest, DeliverableIsLowest, RaisedStaysRaised, LoweredStaysLowered, DeliveryChangesOneLine, ZeroDisables}
use Rattle.iop_intr.specs.declared.irq_line.IrqLine.{IrqLine}

can_be : (l : IrqLine) → is_deliverable l ≡ true → CanBeDelivered l
can_be l is =
    let last = and_parts (l.raised && l.enabled) (is_some l.handler) is in
    let first = and_parts l.raised l.enabled last.0 in
    record { raised = first.0; enabled = first.1; handler = last.1 }

can_not_be : (l : IrqLine) → is_deliverable l ≡ false → CanBeDelivered l → ⊥
can_not_be l is can =
    true≢false
    (sym (and_from _ _ (and_from _ _ can.raised can.enabled) can.handler) ∙ is)

pub deliverable-lowest : DeliverableIsLowest
deliverable-lowest lines = at (deliverable lines) refl
  where
    first : ℕ
    first = position_or_len is_deliverable lines

    is_none : (n : ℕ) → deliverable lines ≡ Some n → deliverable lines ≡ None → ⊥
    is_none n some none = cc

    before : (k : ℕ) → k < length lines → deliverable lines ≡ None →
        k < first
    before k h none =
        elim (cases_Bool (nat_lt first (length lines))) [
          | inl within ↦ absurd (is_none first (rw within refl) none)
          | inr past ↦ let le = ltb-false _ _ past in omega arith
        ]

    at : (found : Option ℕ) → deliverable lines ≡ found →
        MatchOption found ((k : ℕ) → k < length lines → CanBeDelivered (line_of lines k) → ⊥)
        (IsLowest lines)
    at None none = λ k h. can_not_be (line_of lines k)
        (fails_before_first is_deliverable lines k idle (before k h none))
    at (Some n) some =
        let found = position-Some is_deliverable lines n idle some in
        record {
          below = found.0;
          can = can_be (line_of lines n) found.1;
          lower = λ k h. can_not_be (line_of lines k) (found.2 k h);
        }

-- a line that is raised, or lowered, as it is
same_line : (l : IrqLine) (up : Bool) → l.raised ≡ up → record l { raised = up } ≡ l
same_line l up is = rw (sym is) refl

pub raised-raising : RaisedStaysRaised
raised-raising lines n raised =
    ap (λ (l : IrqLine). set lines n l) (same_line (line_of lines n) true raised)
    ∙ set-get_or lines n idle

pub lowered-lowering : LoweredStaysLowered
lowered-lowering lines n lowered =
    ap (λ (l : IrqLine). set lines n l) (same_line (line_of lines n) false lowered)
    ∙ set-get_or lines n idle

pub delivering-lines : DeliveryChangesOneLine
delivering-lines lines n within = record {
  lowered = ap (λ (l : IrqLine). l.raised) here;
  disabled = ap (λ (l : IrqLine). l.enabled) here;
  handler = ap (λ (l : IrqLine). l.handler) here;
  others = λ k other. get_or-set_other lines n k _ idle other;
}
  where
    here : line_of (delivering lines n) n
        ≡ record (line_of lines n) { raised = false; enabled = false }
    here = get_or-set_same lines n _ idle within

pub finishing-zero : ZeroDisables
finishing-zero lines n = at (cases_lt n (length lines))
  where
    disabled : IrqLine
    disabled = record (line_of lines n) { enabled = false }

    at : (n < length lines) ⊎ (length lines ≤ n) → (line_of (finishing lines n 0) n).enabled ≡ false
    at (inl within) =
        ap (λ (l : IrqLine). l.enabled) (get_or-set_same lines n disabled idle within)
    at (inr past) =
        ap (λ (l : IrqLine). l.enabled)
        (get_or-eq_default (set lines n disabled) idle (omega (arith, length-set lines n disabled)))
