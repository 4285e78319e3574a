use Rattle.std.proofs.Common.{arith}
use Rattle.iop_mbx.proofs.Reading.{state_of-in, deletes-in, deletes-with_state}
use Rattle.iop_mbx.proofs.LiveMailboxes.{queue_inside, AreAssigned-deleted, mailboxes_in-changed}
use Rattle.iop_mbx.proofs.mailboxes.Mailboxes.delete.Goals as goal

pub clear-requires : goal.clear-requires
clear-requires c = (
  omega arith,
  queue_inside c.in-Some.ensures.sound c.self.invariant c.args.id c.in-Some.ensures.known,
)

pub invariant_of-self : goal.invariant_of-self
invariant_of-self c =
    rw (c.delete.ensures, c.give_back.ensures, c.clear.ensures)
    (AreAssigned-deleted c.in-Some.ensures.sound c.self.invariant c.args.id
    c.in-Some.ensures.known)

pub returns-clause-left : goal.returns-clause-left
returns-clause-left c =
    let changed =
    mailboxes_in-changed c.in-Some.ensures.sound c.self.invariant c.args.id
    c.in-Some.ensures.known in
    grind (arith, state_of-in, deletes-in, deletes-with_state, changed)
