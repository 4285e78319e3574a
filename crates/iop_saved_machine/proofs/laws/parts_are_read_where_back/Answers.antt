use Rattle.iop_saved_machine.proofs.ReadingBack.{parts_read_where_back}
use Rattle.iop_saved_machine.proofs.laws.parts_are_read_where_back.Goals as goal

pub returns : goal.returns
returns c = parts_read_where_back
