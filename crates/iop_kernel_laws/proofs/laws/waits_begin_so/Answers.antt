use Rattle.iop_kernel_laws.proofs.WaitsBegin.Begins.{waits_begin_so}
use Rattle.iop_kernel_laws.proofs.laws.waits_begin_so.Goals as goal

pub returns : goal.returns
returns c = waits_begin_so
