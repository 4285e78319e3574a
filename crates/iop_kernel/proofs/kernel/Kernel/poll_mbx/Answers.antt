use Rattle.std.proofs.Common.{sym}
use Rattle.iop_mbx.specs.Mailboxes.{gets}
use Rattle.iop_kernel.proofs.Bodies.Standing.{over, told, holds_mailboxes}
use Rattle.iop_kernel.proofs.kernel.Kernel.poll_mbx.Goals as goal

pub returns-in-Ok : goal.returns-in-Ok
returns-in-Ok g c = over g.R.Ready.stands _ (λ t h.
    let did = gets c.args.self.now.mailboxes c.args.id in
    rw (← c.in-Some.ensures.place, told did c.in-Ok.ensures.answer)
    (c.answer_word_at.ensures _ (holds_mailboxes g.R.Ready.stands h (sym c.in-Ok.ensures.left))))
