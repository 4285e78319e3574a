use Rattle.std.proofs.Common.{length}
use Rattle.iop_objects.specs.Objects.{waiters_of}
use Rattle.iop_kernel.specs.Standing.{Holds, held}
use Rattle.iop_kernel.specs.System.{Kernel}
use Rattle.iop_kernel.proofs.Bodies.Deletions.{IsWaking}
use Rattle.iop_kernel.proofs.kernel.Kernel.delete_object.Given as goal

abbrev pub invariant-loop-thread : goal.invariant-loop-thread
invariant-loop-thread g l =
    (k : Kernel) → Holds g.R.Ready.stands l.fn.self k
    → IsWaking g.R.Ready.stands l.kind l.id k l.self

abbrev pub decreases-loop-thread : goal.decreases-loop-thread
decreases-loop-thread g l = length (waiters_of (held l.kind l.self) l.id)
