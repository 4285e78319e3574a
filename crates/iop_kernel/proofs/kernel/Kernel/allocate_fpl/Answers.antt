use Rattle.std.proofs.Common.{◌≡◌, true, ap, sym, ◌∙◌, rules}
use Rattle.iop_base.specs.declared.code.TheConstants.Code.{NO_MEMORY}
use Rattle.iop_kernel.specs.Waits.{is_code}
use Rattle.iop_kernel.proofs.Bodies.Pools.{block_refused}
use Rattle.iop_kernel.proofs.Bodies.Standing.{over, holds_fixed}
use Rattle.iop_kernel.proofs.kernel.Kernel.allocate_fpl.Goals as goal

pub returns-in-Err-NO_MEMORY : goal.returns-in-Err-NO_MEMORY
returns-in-Err-NO_MEMORY g c = over g.R.Ready.stands _ (λ t h.
    let arm = c.in-Err-NO_MEMORY in
    let refused =
    block_refused c.args.self.now.fixed_pools c.args.id arm.field-0 arm.ensures.answer in
    let same = arm.ensures.left ∙ ap (λ d. d.1) refused in
    let full : is_code arm.field-0 NO_MEMORY ≡ true = search rules in
    rw (sym (c.may_switch.ensures _ h) ∙ c.if-not-may_switch.false, refused, full)
    (c.wait_for_block.ensures _ (holds_fixed g.R.Ready.stands h (sym same))))
