use Rattle.iop_saved_objects.proofs.ComingBack.{tables_back}
use Rattle.iop_saved_objects.proofs.laws.tables_come_back.Goals as goal

pub returns : goal.returns
returns c = tables_back
