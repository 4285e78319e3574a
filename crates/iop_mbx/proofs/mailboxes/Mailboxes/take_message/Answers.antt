use Rattle.std.proofs.Common.{arith}
use Rattle.std.proofs.lemmas.List.{set-get_or}
use Rattle.iop_mbx.proofs.Reading.{state_of-in}
use Rattle.iop_mbx.proofs.LiveMailboxes.{queue_inside, mailboxes_in-changed}
use Rattle.iop_mbx.proofs.mailboxes.Mailboxes.take_message.Goals as goal

pub take-requires : goal.take-requires
take-requires c = (
  omega arith,
  queue_inside c.in-Some.ensures.sound c.self.invariant c.args.id c.in-Some.ensures.known,
)

pub returns-clause-left : goal.returns-clause-left
returns-clause-left c =
    let changed =
    mailboxes_in-changed c.in-Some.ensures.sound c.self.invariant c.args.id
    c.in-Some.ensures.known in
    grind (arith, state_of-in, set-get_or, changed)
