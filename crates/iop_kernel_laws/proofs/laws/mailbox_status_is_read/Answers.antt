use Rattle.iop_kernel_laws.proofs.Readings.Statuses.{mailbox_status_is_read}
use Rattle.iop_kernel_laws.proofs.laws.mailbox_status_is_read.Goals as goal

pub returns : goal.returns
returns c = mailbox_status_is_read
