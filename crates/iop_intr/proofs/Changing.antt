-- What a call and a handler's result do to their line, and that all others are as they were.
use Rattle.std.proofs.Common.{◌≡◌, ◌≢◌, ℕ, ◌<◌, ◌≤◌, Bool, true, false, None, Some, is_some, IsSome, List, length, pos, negsuc, refl, sym, ap, ◌∙◌, arith}
use Rattle.std.proofs.lemmas.List.{get_or-set_same, get_or-set_other}
use Rattle.std.proofs.lemmas.Bool.{cases_lt, lt-ltb, ne_eqb}
use mathlib.Core.Logic.{◌⊎◌, inl, inr}
use Rattle.iop_base.specs.declared.code.Code.{Code}
use Rattle.iop_base.specs.declared.code.TheConstants.Code.{OK, ILLEGAL_INTERRUPT, HANDLER_FOUND, HANDLER_NOT_FOUND}
use Rattle.iop_intr.specs.InterruptLines.{idle, line_of, on_line, changed, lowered, register_line, release_line, enable_line, disable_line, finished}
use Rattle.iop_intr.specs.Laws.{ChangesOneLine, line_with, ResultsEnableOrDisable, LeavesOneLine, EachCallChangesOneLine}
use Rattle.iop_intr.specs.declared.handler.Handler.{Handler}
use Rattle.iop_intr.specs.declared.irq_line.IrqLine.{IrqLine}
use Rattle.iop_intr.specs.declared.irqs.TheConstants.{IRQ_LINES}
use Rattle.iop_intr.proofs.Calls.{past}

-- a refusal is not OK
refused : {P : Type 0} (n : ℕ) (code : Code) → code.0 ≡ negsuc n → code ≡ OK → P
refused n code number ok =
    let is_ok : negsuc n ≡ pos 0 = sym number ∙ ap (λ (c : Code). c.0) ok in
    let never : ⊥ = cc in
    absurd never

changes : (change : IrqLine → IrqLine) (lines : List IrqLine) (n : ℕ) (l : IrqLine) →
    n < length lines → change (line_of lines n) ≡ l →
    ChangesOneLine lines (changed change lines n) n l
changes change lines n l within is = record {
  here = get_or-set_same lines n (change (line_of lines n)) idle within ∙ is;
  others = λ k other. get_or-set_other lines n k _ idle other;
}

-- what a result other than 0 makes of a line
enables : (value : ℕ) (l : IrqLine) → value ≢ 0 → IsSome l.handler →
    finished value l ≡ line_with l.raised true l.handler
enables value l other some = rw (ne_eqb value 0 other, some) refl

stays : (value : ℕ) (l : IrqLine) → value ≢ 0 → l.handler ≡ None → finished value l ≡ l
stays value l other none = rw (ne_eqb value 0 other, none) refl

pub results_enable_or_disable : ResultsEnableOrDisable
results_enable_or_disable lines n within = record {
  zero = changes (finished 0) lines n _ within refl;
  another = λ value other some. changes (finished value) lines n _ within
      (enables value (line_of lines n) other some);
  no_handler = λ value other none. changes (finished value) lines n _ within
      (stays value (line_of lines n) other none);
}

-- a call that makes this of a line where it answers OK
abbrev Makes : (IrqLine → Code × IrqLine) → IrqLine → IrqLine → Type 0
Makes call l made = (call l).0 ≡ OK → (call l).1 ≡ made

leaves : (call : IrqLine → Code × IrqLine) (lines : List IrqLine) (n : ℕ) (made : IrqLine) →
    length lines ≡ IRQ_LINES → Makes call (line_of lines n) made →
    LeavesOneLine lines n (on_line call lines n) made
leaves call lines n made size makes = at (cases_lt n IRQ_LINES)
  where
    at : (n < IRQ_LINES) ⊎ (IRQ_LINES ≤ n) → LeavesOneLine lines n (on_line call lines n) made
    at (inl below) =
        rw (lt-ltb n IRQ_LINES below)
        (λ ok. changes (λ l. (call l).1) lines n made (omega arith) (makes ok))
    at (inr over) = rw (past call lines n over) (refused 100 ILLEGAL_INTERRUPT refl)

register_makes : (handler : Handler) (l : IrqLine) (b : Bool) → is_some l.handler ≡ b →
    Makes (register_line handler) l (line_with l.raised l.enabled (Some handler))
register_makes handler l true some = rw some (refused 103 HANDLER_FOUND refl)
register_makes handler l false none = rw none (λ ok. refl)

release_makes : (l : IrqLine) (b : Bool) → is_some l.handler ≡ b →
    Makes release_line l (line_with l.raised false None)
release_makes l true some = rw some (λ ok. refl)
release_makes l false none = rw none (refused 104 HANDLER_NOT_FOUND refl)

disable_makes : (l : IrqLine) (b : Bool) → l.enabled ≡ b →
    Makes disable_line l (line_with l.raised false l.handler)
disable_makes l true on = rw on (λ ok. refl)
disable_makes l false off = rw off (λ ok. cc)

pub calls : EachCallChangesOneLine
calls lines n size = record {
  register = λ handler. leaves (register_line handler) lines n _ size
      (register_makes handler (line_of lines n) _ refl);
  release = leaves release_line lines n _ size (release_makes (line_of lines n) _ refl);
  enable = leaves enable_line lines n _ size (λ ok. refl);
  disable = leaves disable_line lines n _ size (disable_makes (line_of lines n) _ refl);
  raise = λ below. changes (λ l. record l { raised = true }) lines n _ (omega (arith, size)) refl;
  lower = λ below. changes lowered lines n _ (omega (arith, size)) refl;
}
