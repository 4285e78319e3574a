use Rattle.std.proofs.Common.{length}
use Rattle.iop_objects.specs.Objects.{waiters_of}
use Rattle.iop_kernel.specs.Standing.{Holds}
use Rattle.iop_kernel.specs.System.{Kernel}
use Rattle.iop_kernel.proofs.Bodies.Pools.{IsMeeting}
use Rattle.iop_kernel.proofs.kernel.Kernel.meet_vpl.Given as goal

abbrev pub invariant-loop-met : goal.invariant-loop-met
invariant-loop-met g l =
    (k : Kernel) → Holds g.R.Ready.stands l.fn.self k
    → IsMeeting g.R.Ready.stands l.id l.fn.cpu k l.self

abbrev pub decreases-loop-met : goal.decreases-loop-met
decreases-loop-met g l = length (waiters_of l.self.variable_pools l.id)
