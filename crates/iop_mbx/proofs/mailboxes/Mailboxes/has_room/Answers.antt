use Rattle.std.proofs.Common.{arith}
use Rattle.iop_mbx.proofs.MailboxTables.{total-messages}
use Rattle.iop_mbx.proofs.mailboxes.Mailboxes.has_room.Goals as goal

pub returns : goal.returns
returns c = grind (arith, total-messages c.self.inside.objects c.self.invariant)
