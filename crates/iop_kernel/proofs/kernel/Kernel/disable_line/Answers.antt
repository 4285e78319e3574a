use Rattle.std.proofs.Common.{◌≡◌, false, sym, rules}
use Rattle.iop_base.specs.declared.code.TheConstants.Code.{ILLEGAL_INTERRUPT}
use Rattle.iop_intr.specs.InterruptLines.{disabling}
use Rattle.iop_kernel.specs.Waits.{is_code}
use Rattle.iop_kernel.proofs.Bodies.Standing.{over, told, holds_irqs}
use Rattle.iop_kernel.proofs.kernel.Kernel.disable_line.Goals as goal

pub returns-in_default-disable : goal.returns-in_default-disable
returns-in_default-disable g c = over g.R.Ready.stands _ (λ t h.
    let did = disabling c.args.self.now.irqs c.args.line in
    let other : is_code c.disable.result ILLEGAL_INTERRUPT ≡ false = search rules in
    rw (← c.in-Some.ensures.place, told did c.disable.ensures.code, other)
    (c.answer_code_at.ensures _ (holds_irqs g.R.Ready.stands h (sym c.disable.ensures.lines))))
