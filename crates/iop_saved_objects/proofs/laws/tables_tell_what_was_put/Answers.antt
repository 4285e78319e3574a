use Rattle.iop_saved_objects.proofs.TellingBack.{tables_tell}
use Rattle.iop_saved_objects.proofs.laws.tables_tell_what_was_put.Goals as goal

pub returns : goal.returns
returns c = tables_tell
