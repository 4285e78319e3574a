use Rattle.iop_saved_objects.proofs.Lawful.{forms_lawful}
use Rattle.iop_saved_objects.proofs.laws.forms_are_lawful.Goals as goal

pub returns : goal.returns
returns c = forms_lawful
