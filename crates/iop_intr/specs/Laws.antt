-- What the laws of the interrupt lines say.
use Rattle.std.specs.Prelude.{◌≡◌, ◌≢◌, ℕ, ◌<◌, Bool, true, false, Option, Some, None, IsSome, MatchOption, List, length}
use Rattle.iop_base.specs.declared.code.Code.{Code}
use Rattle.iop_base.specs.declared.code.TheConstants.Code.{OK}
use Rattle.iop_intr.specs.InterruptLines.{line_of, registering, releasing, enabling, disabling, raising, lowering, deliverable, delivering, finishing}
use Rattle.iop_intr.specs.Restoring.{with_lines}
use Rattle.iop_intr.specs.declared.handler.Handler.{Handler}
use Rattle.iop_intr.specs.declared.irq_line.IrqLine.{IrqLine}
use Rattle.iop_intr.specs.declared.irqs.TheConstants.{IRQ_LINES}

pub record CanBeDelivered (l : IrqLine) : Type 0 where
  pub raised : l.raised ≡ true
  pub enabled : l.enabled ≡ true
  pub handler : IsSome l.handler

-- the lowest line that can be delivered
pub record IsLowest (lines : List IrqLine) (n : ℕ) : Type 0 where
  pub below : n < length lines
  pub can : CanBeDelivered (line_of lines n)
  pub lower : (k : ℕ) → k < n → CanBeDelivered (line_of lines k) → ⊥

abbrev pub DeliverableIsLowest : Type 0
DeliverableIsLowest = (lines : List IrqLine)
    → MatchOption (deliverable lines)
    ((k : ℕ) → k < length lines → CanBeDelivered (line_of lines k) → ⊥)
    (IsLowest lines)

abbrev pub RaisedStaysRaised : Type 0
RaisedStaysRaised = (lines : List IrqLine) (n : ℕ)
    → (line_of lines n).raised ≡ true → raising lines n ≡ lines

abbrev pub LoweredStaysLowered : Type 0
LoweredStaysLowered = (lines : List IrqLine) (n : ℕ)
    → (line_of lines n).raised ≡ false → lowering lines n ≡ lines

-- what a delivery leaves of the line, and of the others
pub record IsDelivered (old new : List IrqLine) (n : ℕ) : Type 0 where
  pub lowered : (line_of new n).raised ≡ false
  pub disabled : (line_of new n).enabled ≡ false
  pub handler : (line_of new n).handler ≡ (line_of old n).handler
  pub others : (k : ℕ) → k ≢ n → line_of new k ≡ line_of old k

abbrev pub DeliveryChangesOneLine : Type 0
DeliveryChangesOneLine = (lines : List IrqLine) (n : ℕ)
    → n < length lines → IsDelivered lines (delivering lines n) n

abbrev pub ZeroDisables : Type 0
ZeroDisables = (lines : List IrqLine) (n : ℕ) → (line_of (finishing lines n 0) n).enabled ≡ false

-- line n is this one afterwards, and all others are as they were
pub record ChangesOneLine (old new : List IrqLine) (n : ℕ) (line : IrqLine) : Type 0 where
  pub here : line_of new n ≡ line
  pub others : (k : ℕ) → k ≢ n → line_of new k ≡ line_of old k

abbrev pub line_with : (raised enabled : Bool) (handler : Option Handler) → IrqLine
line_with raised enabled handler =
    record { raised = raised; enabled = enabled; handler = handler }

-- what a handler's result does to its line, which was this one
pub record ResultsChangeOneLine (lines : List IrqLine) (n : ℕ) (was : IrqLine) : Type 0 where
  pub zero : ChangesOneLine lines (finishing lines n 0) n (line_with was.raised false was.handler)
  pub another : (value : ℕ) → value ≢ 0 → IsSome was.handler
      → ChangesOneLine lines (finishing lines n value) n (line_with was.raised true was.handler)
  pub no_handler : (value : ℕ) → value ≢ 0 → was.handler ≡ None
      → ChangesOneLine lines (finishing lines n value) n
      (line_with was.raised was.enabled was.handler)

abbrev pub ResultsEnableOrDisable : Type 0
ResultsEnableOrDisable = (lines : List IrqLine) (n : ℕ)
    → n < length lines → ResultsChangeOneLine lines n (line_of lines n)

-- where a call answers OK, it left line n as this one, and all others as they were
abbrev pub LeavesOneLine : List IrqLine → ℕ → Code × List IrqLine → IrqLine → Type 0
LeavesOneLine lines n did line = did.0 ≡ OK → ChangesOneLine lines did.1 n line

-- what each call does to its line, which was this one
pub record CallsChangeOneLine (lines : List IrqLine) (n : ℕ) (was : IrqLine) : Type 0 where
  pub register : (handler : Handler) → LeavesOneLine lines n (registering lines n handler)
      (line_with was.raised was.enabled (Some handler))
  pub release : LeavesOneLine lines n (releasing lines n) (line_with was.raised false None)
  pub enable : LeavesOneLine lines n (enabling lines n)
      (line_with was.raised true was.handler)
  pub disable : LeavesOneLine lines n (disabling lines n)
      (line_with was.raised false was.handler)
  pub raise : n < IRQ_LINES
      → ChangesOneLine lines (raising lines n) n (line_with true was.enabled was.handler)
  pub lower : n < IRQ_LINES
      → ChangesOneLine lines (lowering lines n) n (line_with false was.enabled was.handler)

abbrev pub EachCallChangesOneLine : Type 0
EachCallChangesOneLine = (lines : List IrqLine) (n : ℕ)
    → length lines ≡ IRQ_LINES → CallsChangeOneLine lines n (line_of lines n)

-- all lines put back as others are, whatever they were, are those others
abbrev pub LinesArePutBack : Type 0
LinesArePutBack = (lines others : List IrqLine)
    → length lines ≡ IRQ_LINES → length others ≡ IRQ_LINES → with_lines lines 0 others ≡ others
