use Rattle.std.proofs.Common.{◌≡◌, Bool, true, false, refl, ◌∙◌}
use mir.Val.{bool_byte}
use Rattle.iop_base.specs.Numbers.{one_if}
use Rattle.iop_kernel.specs.Interrupts.{suspended_code}
use Rattle.iop_kernel.proofs.Bodies.Standing.{over, holds_interrupts}
use Rattle.iop_kernel.proofs.kernel.Kernel.suspend_interrupts.Goals as goal
use Rattle.iop_kernel.proofs.kernel.Kernel.suspend_interrupts.Goals.{then-were_on, else-were_on}

-- a bool as a number
number_is : (on : Bool) → bool_byte on ≡ one_if on
number_is true = refl
number_is false = refl

pub returns : goal.returns
returns g c = over g.R.Ready.stands _ (λ t h.
    let on = c.args.self.now.interrupts in
    let code : c.if-were_on.code ≡ suspended_code on =
    elim c.if-were_on.branch [
      | then-were_on w ↦ rw w.if-were_on.true w.code-is
      | else-were_on w ↦ rw w.if-were_on.false w.code-is
    ] in
    rw (← c.in-Some.ensures.place, ← (c.from.ensures ∙ number_is on), ← code)
    (c.answer_code_at.ensures _ (holds_interrupts g.R.Ready.stands false h)))
