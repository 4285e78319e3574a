use Rattle.std.proofs.Common.{sym}
use Rattle.iop_event.specs.EventFlags.{tests}
use Rattle.iop_kernel.proofs.Bodies.Standing.{over, told, holds_flags}
use Rattle.iop_kernel.proofs.kernel.Kernel.poll_event_flag.Goals as goal

pub returns-in-Ok : goal.returns-in-Ok
returns-in-Ok g c = over g.R.Ready.stands _ (λ t h.
    let wanted = c.args.wanted in
    let did = tests c.args.self.now.event_flags c.args.id wanted.bits wanted.mode in
    rw (← c.in-Some.ensures.place, told did c.in-Ok.ensures.answer)
    (c.answer_word_at.ensures _ (holds_flags g.R.Ready.stands h (sym c.in-Ok.ensures.left))))
