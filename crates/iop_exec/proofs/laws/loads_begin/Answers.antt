use Rattle.iop_exec.proofs.LoadDelays.{loads_begin}
use Rattle.iop_exec.proofs.laws.loads_begin.Goals as goal

pub returns : goal.returns
returns c = loads_begin
