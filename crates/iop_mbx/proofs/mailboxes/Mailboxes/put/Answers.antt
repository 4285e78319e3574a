use Rattle.std.proofs.Common.{◌∙◌, sym, arith}
use Rattle.std.proofs.lemmas.Bool.Decides.{nat_tests}
use Rattle.iop_mbx.proofs.Reading.{state_of-in}
use Rattle.iop_mbx.proofs.LiveMailboxes.{queue_inside, AreAssigned-put, mailboxes_in-changed}
use Rattle.iop_mbx.proofs.MailboxTables.{total-messages}
use Rattle.iop_mbx.proofs.mailboxes.Mailboxes.put.Goals as goal

pub push-requires : goal.push-requires
push-requires c =
    let inside =
    queue_inside c.in-Some.ensures.sound c.self.invariant c.args.id c.in-Some.ensures.known in
    let room = sym c.has_room.ensures ∙ c.if-not-has_room.false in
    let all = total-messages c.self.inside.objects c.self.invariant in
    (omega arith, (inside, grind (arith, nat_tests, room, all)))

pub invariant_of-self : goal.invariant_of-self
invariant_of-self c =
    rw c.push.ensures
    (AreAssigned-put c.in-Some.ensures.sound c.self.invariant c.args.id c.in-Some.ensures.known _)

pub returns-clause-left : goal.returns-clause-left
returns-clause-left c =
    let changed =
    mailboxes_in-changed c.in-Some.ensures.sound c.self.invariant c.args.id
    c.in-Some.ensures.known in
    grind (arith, state_of-in, changed)
