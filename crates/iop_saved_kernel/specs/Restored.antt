-- How a kernel and its processor that were put back stand for them.
use Rattle.std.specs.Prelude.{◌≡◌, List}
use Rattle.iop_kernel.specs.Standing.{Holds}
use Rattle.iop_kernel.specs.System.{Core}
use Rattle.iop_ready.specs.declared.entry.Entry.{Entry}
use Rattle.iop_saved_kernel.specs.declared.kernel.RestoredKernel.{RestoredKernel}

pub record HoldsCore {R : Type 0} (stands_for : R → List Entry → Type 0) (made : RestoredKernel R)
    (c : Core) : Type 0 where
  pub kernel : Holds stands_for made.kernel c.kernel
  pub cpu : c.cpu ≡ made.cpu
