use Rattle.iop_mbx.proofs.Receiving.{mailbox_keeps}
use Rattle.iop_mbx.proofs.laws.mailboxes_keep.Goals as goal

pub returns : goal.returns
returns c = mailbox_keeps
