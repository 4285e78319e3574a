use Rattle.irx_tables.proofs.Following.{follow}
use Rattle.irx_tables.proofs.laws.tables_follow.Goals as goal

pub returns : goal.returns
returns c = follow
