use Rattle.std.proofs.Common.{sym, ◌∙◌}
use Rattle.std.proofs.lemmas.Bool.{ne_eqb}
use Rattle.iop_thread.specs.declared.thread.TheConstants.{LOADER}
use Rattle.iop_kernel.proofs.kernel.Kernel.exit_delete_thread.Goals as goal

pub returns-in-Some : goal.returns-in-Some
returns-in-Some g c = λ k h.
    let arm = c.in-Some in
    rw (sym (c.caller.ensures.id k h) ∙ arm.is, ne_eqb arm.id LOADER arm.id-test.1)
    (c.delete_ended.ensures k c.args.cpu.now (c.end.ensures k h))
