use Rattle.iop_script.proofs.RuleLists.{first_broken_told}
use Rattle.iop_script.proofs.laws.first_broken_rules_are_told.Goals as goal

pub returns : goal.returns
returns c = first_broken_told
