use Rattle.std.proofs.Common.{arith}
use Rattle.iop_mbx.proofs.LiveMailboxes.{queue_inside}
use Rattle.iop_mbx.proofs.mailboxes.Mailboxes.next_message.Goals as goal

pub peek-requires : goal.peek-requires
peek-requires c = (
  omega arith,
  queue_inside c.in_ok-numbered.ensures.sound c.self.invariant c.args.id
      c.in_ok-numbered.ensures.known,
)
