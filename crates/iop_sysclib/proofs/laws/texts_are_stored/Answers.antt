use Rattle.iop_sysclib.proofs.WritingLaws.{texts_are_stored}
use Rattle.iop_sysclib.proofs.laws.texts_are_stored.Goals as goal

pub returns : goal.returns
returns c = texts_are_stored
