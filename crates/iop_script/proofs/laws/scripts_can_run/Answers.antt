use Rattle.iop_script.proofs.ScriptLaws.{script_of-can_run}
use Rattle.iop_script.proofs.laws.scripts_can_run.Goals as goal

pub returns : goal.returns
returns c = script_of-can_run
