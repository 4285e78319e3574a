use Rattle.iop_saved_script.proofs.Lawful.{forms_lawful}
use Rattle.iop_saved_script.proofs.laws.forms_are_lawful.Goals as goal

pub returns : goal.returns
returns c = forms_lawful
