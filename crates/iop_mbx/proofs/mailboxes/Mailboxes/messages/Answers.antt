use Rattle.std.proofs.Common.{arith}
use Rattle.iop_mbx.proofs.LiveMailboxes.{queue_inside}
use Rattle.iop_mbx.proofs.mailboxes.Mailboxes.messages.Goals as goal

pub count-requires : goal.count-requires
count-requires c = (
  omega arith,
  queue_inside c.in-Some.ensures.sound c.self.invariant c.args.id c.in-Some.ensures.known,
)
