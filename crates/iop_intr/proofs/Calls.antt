-- What the calls on a line answer and leave, by the sets and the table.
use Rattle.std.proofs.Common.{◌≡◌, ◌≢◌, ℕ, ◌<◌, ◌≤◌, Bool, true, false, ◌&&◌, None, Some, is_some, List, length, get_or, refl, sym, ap, ◌∙◌, arith}
use Rattle.std.specs.Bool.{then_some}
use Rattle.std.specs.List.{slice_get}
use Rattle.std.proofs.Math.ListN.{set, length-set}
use Rattle.std.proofs.lemmas.List.{get_or-set_same, get_or-set_other}
use Rattle.std.proofs.lemmas.Option.{slice_get-get_or}
use Rattle.std.proofs.lemmas.Bool.{lt-ltb, le-ltb, eq-eqb, ne_eqb, and_parts}
use Rattle.iop_base.specs.Bits.{has, ChangesOnly}
use Rattle.iop_base.specs.declared.code.Code.{Code}
use Rattle.iop_base.specs.declared.code.TheConstants.Code.{OK, ILLEGAL_INTERRUPT, LINE_DISABLED, HANDLER_FOUND, HANDLER_NOT_FOUND}
use Rattle.iop_intr.specs.InterruptLines.{line_of, on_line, is_deliverable, register_line, release_line, enable_line, disable_line, registering, releasing, enabling, disabling, raising, lowering, delivering, finished, finishing}
use Rattle.iop_intr.specs.Laws.{line_with}
use Rattle.iop_intr.specs.LineViews.{line_in, lines_in}
use Rattle.iop_intr.specs.declared.handler.Handler.{Handler}
use Rattle.iop_intr.specs.declared.irq_line.IrqLine.{IrqLine}
use Rattle.iop_intr.specs.declared.irqs.TheConstants.{IRQ_LINES}
use Rattle.iop_intr.specs.declared.irqs.Irqs.TheInside.{Inside}
use Rattle.iop_intr.proofs.Views.{same_line, line_is, set_is, unchanged}

pub past : (call : IrqLine → Code × IrqLine) (lines : List IrqLine) (n : ℕ) → IRQ_LINES ≤ n →
    on_line call lines n ≡ (ILLEGAL_INTERRUPT, lines)
past call lines n over = rw (le-ltb n IRQ_LINES over) refl

pub code_of : {did other : Code × List IrqLine} → did ≡ other → did.0 ≡ other.0
code_of same = ap (λ (did : Code × List IrqLine). did.0) same

pub lines_of : {did other : Code × List IrqLine} → did ≡ other → did.1 ≡ other.1
lines_of same = ap (λ (did : Code × List IrqLine). did.1) same

-- what stands in the table for a line without a handler
abbrev no_handler : Handler
no_handler = record { address = 0; arg = 0; gp = 0 }

-- the lines are those that the sets and the table stand for
module _ (a : Inside) {lines : List IrqLine} (view : lines_in a ≡ lines) (n : ℕ)
    (below : n < IRQ_LINES) where
  sets : (call : IrqLine → Code × IrqLine) (code : Code) (l : IrqLine) →
      call (line_of lines n) ≡ (code, l) → on_line call lines n ≡ (code, set lines n l)
  sets call code l answer =
      rw (lt-ltb n IRQ_LINES below)
      (ap (λ (did : Code × IrqLine). (did.0, set lines n did.1)) answer)

  keeps : (call : IrqLine → Code × IrqLine) (code : Code) →
      call (line_of lines n) ≡ (code, line_of lines n) → on_line call lines n ≡ (code, lines)
  keeps call code answer =
      sets call code (line_of lines n) answer
      ∙ ap (λ (xs : List IrqLine). (code, xs)) (unchanged a view n below)

  -- the line's handler, where it has none and where it has one
  has_none : has a.handled n ≡ false → (line_of lines n).handler ≡ None
  has_none none = ap (λ (l : IrqLine). l.handler) (line_is a view n below) ∙ (rw none refl)

  has_one : length a.handlers ≡ IRQ_LINES → (d : Handler) → has a.handled n ≡ true →
      (line_of lines n).handler ≡ Some (get_or a.handlers n d)
  has_one size d found =
      ap (λ (l : IrqLine). l.handler) (line_is a view n below)
      ∙ rw found (slice_get-get_or a.handlers n d (omega arith))

  is_enabled : (line_of lines n).enabled ≡ has a.enabled n
  is_enabled = ap (λ (l : IrqLine). l.enabled) (line_is a view n below)

  -- one that changes the set of those that are enabled, or raised
  with_enabled : (enabled : ℕ) (is_in : Bool) → ChangesOnly a.enabled enabled n is_in →
      lines_in (record a { enabled = enabled })
      ≡ set lines n (record (line_of lines n) { enabled = is_in })
  with_enabled enabled is_in change =
      set_is a view n below (record a { enabled = enabled })
      (record (line_of lines n) { enabled = is_in })
      (same_line _ _ _ _ _ _ (ap (λ (l : IrqLine). l.raised) here) change.changed
      (ap (λ (l : IrqLine). l.handler) here))
      (λ i h other. same_line _ _ _ _ _ _ refl (change.others i other) refl)
    where
      here : line_in a n ≡ line_of lines n
      here = sym (line_is a view n below)

  -- one that changes the set of those that are raised
  with_raised : (raised : ℕ) (is_in : Bool) → ChangesOnly a.raised raised n is_in →
      lines_in (record a { raised = raised })
      ≡ set lines n (record (line_of lines n) { raised = is_in })
  with_raised raised is_in change =
      set_is a view n below (record a { raised = raised }) _
      (same_line _ _ _ _ _ _ change.changed (ap (λ (l : IrqLine). l.enabled) here)
      (ap (λ (l : IrqLine). l.handler) here))
      (λ i h other. same_line _ _ _ _ _ _ (change.others i other) refl refl)
    where
      here : line_in a n ≡ line_of lines n
      here = sym (line_is a view n below)

  pub raises : (raised : ℕ) → ChangesOnly a.raised raised n true →
      lines_in (record a { raised = raised }) ≡ raising lines n
  raises raised = with_raised raised true

  pub lowers : (raised : ℕ) → ChangesOnly a.raised raised n false →
      lines_in (record a { raised = raised }) ≡ lowering lines n
  lowers raised = with_raised raised false

  pub delivers : (raised enabled : ℕ) → ChangesOnly a.raised raised n false →
      ChangesOnly a.enabled enabled n false →
      lines_in (record a { raised = raised; enabled = enabled }) ≡ delivering lines n
  delivers raised enabled lowered disabled =
      set_is a view n below (record a { raised = raised; enabled = enabled }) _
      (same_line _ _ _ _ _ _ lowered.changed disabled.changed
      (ap (λ (l : IrqLine). l.handler) (sym (line_is a view n below))))
      (λ i h other. same_line _ _ _ _ _ _ (lowered.others i other) (disabled.others i other)
      refl)

  -- what a handler that gave 0, or another value, leaves
  pub finishes_disabled : (enabled : ℕ) (value : ℕ) → value ≡ 0 →
      ChangesOnly a.enabled enabled n false →
      lines_in (record a { enabled = enabled }) ≡ finishing lines n value
  finishes_disabled enabled value none change =
      with_enabled enabled false change
      ∙ ap (λ (l : IrqLine). set lines n l) (sym ends)
    where
      ends : finished value (line_of lines n) ≡ record (line_of lines n) { enabled = false }
      ends = rw (eq-eqb value 0 none) refl

  pub finishes_without : (value : ℕ) → value ≢ 0 → has a.handled n ≡ false →
      lines ≡ finishing lines n value
  finishes_without value some none =
      sym (unchanged a view n below) ∙ ap (λ (l : IrqLine). set lines n l) (sym ends)
    where
      ends : finished value (line_of lines n) ≡ line_of lines n
      ends = rw (ne_eqb value 0 some, has_none none) refl

  module _ (size : length a.handlers ≡ IRQ_LINES) where
    -- the handler of a line is there exactly where its bit is set
    pub is_handled : is_some (line_of lines n).handler ≡ has a.handled n
    is_handled = by_bit (has a.handled n) refl
      where
        by_bit : (bit : Bool) → has a.handled n ≡ bit →
            is_some (line_of lines n).handler ≡ has a.handled n
        by_bit true found = rw (has_one size no_handler found, found) refl
        by_bit false none = rw (has_none none, none) refl

    -- the line as the sets and the table tell it
    pub tells : (d : Handler) (r e is_in : Bool) → r ≡ has a.raised n → e ≡ has a.enabled n →
        is_in ≡ has a.handled n →
        line_with r e (then_some is_in (get_or a.handlers n d)) ≡ line_of lines n
    tells d r e is_in is_raised is_enabled is_in_set =
        same_line _ _ _ _ _ _ is_raised is_enabled (its_own is_in is_in_set)
        ∙ sym (line_is a view n below)
      where
        its_own : (bit : Bool) → bit ≡ has a.handled n →
            then_some bit (get_or a.handlers n d) ≡ (line_in a n).handler
        its_own true found =
            rw (← found) (sym (slice_get-get_or a.handlers n d (omega arith)))
        its_own false none = rw (← none) refl

    pub finishes_enabled : (enabled : ℕ) (value : ℕ) → value ≢ 0 → has a.handled n ≡ true →
        ChangesOnly a.enabled enabled n true →
        lines_in (record a { enabled = enabled }) ≡ finishing lines n value
    finishes_enabled enabled value some found change =
        with_enabled enabled true change
        ∙ ap (λ (l : IrqLine). set lines n l) (sym ends)
      where
        ends : finished value (line_of lines n) ≡ record (line_of lines n) { enabled = true }
        ends = rw (ne_eqb value 0 some, has_one size no_handler found) refl

    -- whether a line is deliverable, by the three sets
    pub is_deliverable_is :
        is_deliverable (line_of lines n) ≡ (has a.raised n && has a.enabled n && has a.handled n)
    is_deliverable_is = rw (is_handled, line_is a view n below) refl

    pub its_handler_is : is_deliverable (line_of lines n) ≡ true → (d : Handler) →
        (line_of lines n).handler ≡ Some (get_or a.handlers n d)
    its_handler_is deliverable d =
        has_one size d (and_parts _ _ (sym is_deliverable_is ∙ deliverable)).1

  pub enables : (enabled : ℕ) → ChangesOnly a.enabled enabled n true →
      (OK, lines_in (record a { enabled = enabled })) ≡ enabling lines n
  enables enabled change =
      ap (λ (xs : List IrqLine). (OK, xs)) (with_enabled enabled true change)
      ∙ sym (sets enable_line OK _ refl)

  pub is_disabled : has a.enabled n ≡ false → (LINE_DISABLED, lines) ≡ disabling lines n
  is_disabled disabled = sym (keeps disable_line LINE_DISABLED (rw (is_enabled, disabled) refl))

  pub disables : (enabled : ℕ) → has a.enabled n ≡ true →
      ChangesOnly a.enabled enabled n false →
      (OK, lines_in (record a { enabled = enabled })) ≡ disabling lines n
  disables enabled was change =
      ap (λ (xs : List IrqLine). (OK, xs)) (with_enabled enabled false change)
      ∙ sym (sets disable_line OK _ (rw (is_enabled, was) refl))

  pub is_not_found : has a.handled n ≡ false → (HANDLER_NOT_FOUND, lines) ≡ releasing lines n
  is_not_found none = sym (keeps release_line HANDLER_NOT_FOUND (rw (has_none none) refl))

  module _ (handled : ℕ) (h : Handler) (size : length a.handlers ≡ IRQ_LINES)
      (change : ChangesOnly a.handled handled n true) where
    abbrev registered : Inside
    registered = record a { handled = handled; handlers = set a.handlers n h }

    its_handler : (line_in registered n).handler ≡ Some h
    its_handler =
        rw change.changed
        (slice_get-get_or (set a.handlers n h) n h (omega (arith, length-set a.handlers n h))
        ∙ ap Some (get_or-set_same a.handlers n h h (omega arith)))

    other_handlers : (i : ℕ) → i < IRQ_LINES → i ≢ n →
        (line_in registered i).handler ≡ (line_in a i).handler
    other_handlers i below other =
        let same : slice_get (set a.handlers n h) i ≡ slice_get a.handlers i =
        slice_get-get_or (set a.handlers n h) i h (omega (arith, length-set a.handlers n h))
        ∙ ap Some (get_or-set_other a.handlers n i h h other)
        ∙ sym (slice_get-get_or a.handlers i h (omega arith)) in
        rw (change.others i other, same) refl

    pub registers : has a.handled n ≡ false → (OK, lines_in registered) ≡ registering lines n h
    registers none =
        ap (λ (xs : List IrqLine). (OK, xs))
        (set_is a view n below registered (record (line_of lines n) { handler = Some h })
        (same_line _ _ _ _ _ _ (ap (λ (l : IrqLine). l.raised) here)
        (ap (λ (l : IrqLine). l.enabled) here) its_handler)
        (λ i h other. same_line _ _ _ _ _ _ refl refl (other_handlers i h other)))
        ∙ sym (sets (register_line h) OK (record (line_of lines n) { handler = Some h })
        (rw (has_none none) refl))
      where
        here : line_in a n ≡ line_of lines n
        here = sym (line_is a view n below)

    pub puts : (raised enabled : ℕ) (r e : Bool) → ChangesOnly a.raised raised n r →
        ChangesOnly a.enabled enabled n e →
        lines_in (record registered { raised = raised; enabled = enabled })
        ≡ set lines n (line_with r e (Some h))
    puts raised enabled r e to_raised to_enabled =
        set_is a view n below (record registered { raised = raised; enabled = enabled })
        (line_with r e (Some h))
        (same_line _ _ _ _ _ _ to_raised.changed to_enabled.changed its_handler)
        (λ i h other. same_line _ _ _ _ _ _ (to_raised.others i other)
        (to_enabled.others i other) (other_handlers i h other))

  pub puts_without : (raised enabled handled : ℕ) (r e : Bool) →
      ChangesOnly a.raised raised n r → ChangesOnly a.enabled enabled n e →
      ChangesOnly a.handled handled n false →
      lines_in (record a { raised = raised; enabled = enabled; handled = handled })
      ≡ set lines n (line_with r e None)
  puts_without raised enabled handled r e to_raised to_enabled taken =
      set_is a view n below
      (record a { raised = raised; enabled = enabled; handled = handled }) (line_with r e None)
      (same_line _ _ _ _ _ _ to_raised.changed to_enabled.changed (rw taken.changed refl))
      (λ i h other. same_line _ _ _ _ _ _ (to_raised.others i other) (to_enabled.others i other)
      (rw (taken.others i other) refl))

  module _ (size : length a.handlers ≡ IRQ_LINES) (found : has a.handled n ≡ true) where
    pub is_found : (h : Handler) → (HANDLER_FOUND, lines) ≡ registering lines n h
    is_found h =
        sym (keeps (register_line h) HANDLER_FOUND (rw (has_one size no_handler found) refl))

    pub releases : (handled enabled : ℕ) → ChangesOnly a.handled handled n false →
        ChangesOnly a.enabled enabled n false →
        (OK, lines_in (record a { handled = handled; enabled = enabled })) ≡ releasing lines n
    releases handled enabled taken disabled =
        ap (λ (xs : List IrqLine). (OK, xs))
        (set_is a view n below (record a { handled = handled; enabled = enabled })
        (record (line_of lines n) { enabled = false; handler = None })
        (same_line _ _ _ _ _ _ (ap (λ (l : IrqLine). l.raised) (sym (line_is a view n below)))
        disabled.changed (rw taken.changed refl))
        (λ i h other. same_line _ _ _ _ _ _ refl (disabled.others i other)
        (rw (taken.others i other) refl)))
        ∙ sym (sets release_line OK (record (line_of lines n) { enabled = false; handler = None })
        (rw (has_one size no_handler found) refl))
