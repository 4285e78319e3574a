use Rattle.iop_snapshot.proofs.Combining.{forms_agree}
use Rattle.iop_snapshot.proofs.laws.lawful_forms_agree.Goals as goal

pub returns : goal.returns
returns g c = forms_agree
