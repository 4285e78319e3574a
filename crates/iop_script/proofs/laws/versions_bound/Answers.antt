use Rattle.iop_script.proofs.ScriptLaws.{script_of-bound}
use Rattle.iop_script.proofs.laws.versions_bound.Goals as goal

pub returns : goal.returns
returns c = script_of-bound
