use Rattle.std.proofs.Common.{rules}
use Rattle.iop_kernel.proofs.Placing.Opening.{opening_placed}
use Rattle.iop_kernel.proofs.kernel.Kernel.new.Goals as goal

pub returns : goal.returns
returns g c = record { holds = search rules; placed = opening_placed }
