use Rattle.iop_mbx.proofs.Restored.{are_restored}
use Rattle.iop_mbx.proofs.laws.mailboxes_are_restored.Goals as goal

pub returns : goal.returns
returns c = are_restored
