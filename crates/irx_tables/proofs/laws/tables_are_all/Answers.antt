use Rattle.irx_tables.proofs.Following.{all_there}
use Rattle.irx_tables.proofs.laws.tables_are_all.Goals as goal

pub returns : goal.returns
returns c = all_there
