use Rattle.iop_script.proofs.ScriptLaws.{script_of-can}
use Rattle.iop_script.proofs.laws.scripts_can_be_written.Goals as goal

pub returns : goal.returns
returns c = script_of-can
