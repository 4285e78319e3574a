use Rattle.std.proofs.Common.{◌≡◌, Some, refl, sym, ◌∙◌}
use Rattle.std.specs.Prelude.{Ok}
use Rattle.iop_mbx.specs.Mailboxes.{takes_waiter_of}
use Rattle.iop_kernel.proofs.Bodies.Standing.{over, told, holds_mailboxes}
use Rattle.iop_kernel.proofs.kernel.Kernel.send_mbx.Goals as goal

pub wake-requires : goal.wake-requires
wake-requires g c =
    record { sound = (_, holds_mailboxes g.R.Ready.stands c.requires.sound.1 refl) }

pub returns-in-Ok-Some : goal.returns-in-Ok-Some
returns-in-Ok-Some g c = over g.R.Ready.stands _ (λ t h.
    let did = takes_waiter_of c.args.self.now.mailboxes c.args.id in
    let arm = c.in-Ok-Some in
    let answer : Ok (Some arm.waiter) ≡ did.0 =
    sym (rw arm.field-0-is at arm.is) ∙ c.waiter.ensures.answer in
    rw (told did answer, ← c.words_place-place.ensures.place)
    (c.answer_word_at.ensures _ (c.wake.ensures _ c.args.cpu.now
    (holds_mailboxes g.R.Ready.stands h (sym c.waiter.ensures.left)))))
