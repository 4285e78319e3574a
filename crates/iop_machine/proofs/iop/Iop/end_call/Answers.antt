use Rattle.std.proofs.Common.{◌+◌, subst}
use Rattle.iop_kernel.specs.Standing.{Stands}
use Rattle.iop_ready.specs.KernelReady.{KernelStands}
use Rattle.iop_machine.specs.Registers.{forgotten}
use Rattle.iop_machine.proofs.StandingLemmas.{stands_with_kernel}
use Rattle.iop_machine.proofs.iop.Iop.end_call.Goals as goal

pub returns : goal.returns
returns c s h =
    stands_with_kernel c.forget_registers.new.self c.advance.new.self
    (λ k. record k { clock = k.clock + 1 })
    (λ k h. subst (λ t. Stands KernelStands c.advance.new.self (record k { clock = t + 1 }))
    (c.now-now.ensures.moment k h) (c.advance.ensures k h))
    (forgotten s) (c.forget_registers.ensures s h)
