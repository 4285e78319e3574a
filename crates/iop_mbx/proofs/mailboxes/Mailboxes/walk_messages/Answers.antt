use Rattle.std.proofs.Common.{arith}
use Rattle.iop_mbx.proofs.LiveMailboxes.{queue_inside}
use Rattle.iop_mbx.proofs.mailboxes.Mailboxes.walk_messages.Goals as goal

pub walk-requires : goal.walk-requires
walk-requires c = (
  omega arith,
  queue_inside c.in_ok-numbered.ensures.sound c.self.invariant c.args.id
      c.in_ok-numbered.ensures.known,
)
