use Rattle.std.proofs.Common.{sym, ◌∙◌}
use Rattle.iop_kernel.specs.Standing.{core}
use Rattle.iop_kernel.proofs.Bodies.Callers.{caller_is, rotates_own_is}
use Rattle.iop_kernel.proofs.kernel.Kernel.rotate_own.Goals as goal

pub returns-in-Some : goal.returns-in-Some
returns-in-Some g c = λ k h.
    let own = sym (c.running_priority.ensures k h) ∙ c.in-Some.is in
    rw (
      caller_is k.handler k.threads.running,
      sym (c.in_handler.ensures k h) ∙ c.if-in_handler.false,
      rotates_own_is (core k c.args.cpu.now) c.in-Some.priority k.threads.running own,
    )
    (c.rotate_to.ensures k h)
