use Rattle.std.proofs.Common.{◌≡◌, true, false, sym, ◌∙◌, rules}
use Rattle.iop_base.specs.declared.code.TheConstants.Code.{NO_MESSAGE}
use Rattle.iop_mbx.specs.Mailboxes.{gets}
use Rattle.iop_kernel.specs.Waits.{is_code}
use Rattle.iop_kernel.proofs.Bodies.Refusals.{get_refused}
use Rattle.iop_kernel.proofs.Bodies.Standing.{over, told, holds_mailboxes, takes_quiet, answers_quiet}
use Rattle.iop_kernel.proofs.kernel.Kernel.receive_mbx.Goals as goal

pub returns-in-Ok : goal.returns-in-Ok
returns-in-Ok g c = over g.R.Ready.stands _ (λ t h.
    let did = gets c.args.self.now.mailboxes c.args.id in
    rw (
      ← c.in-Some.ensures.place,
      sym (c.may_switch.ensures _ h) ∙ c.if-not-may_switch.false,
      told did c.in-Ok.ensures.answer,
    )
    (c.answer_word_at.ensures _ (holds_mailboxes g.R.Ready.stands h (sym c.in-Ok.ensures.left))))

pub returns-in-Err-NO_MESSAGE : goal.returns-in-Err-NO_MESSAGE
returns-in-Err-NO_MESSAGE g c = over g.R.Ready.stands _ (λ t h.
    let was = c.args.self.now.mailboxes in
    let arm = c.in-Err-NO_MESSAGE in
    let same = arm.ensures.left ∙ get_refused was c.args.id arm.field-0 arm.ensures.answer in
    let none : is_code arm.field-0 NO_MESSAGE ≡ true = search rules in
    rw (
      ← c.in-Some.ensures.place,
      sym (c.may_switch.ensures _ h) ∙ c.if-not-may_switch.false,
      told (gets was c.args.id) arm.ensures.answer,
      none,
    )
    (takes_quiet (c.wait_for_message.ensures _ (holds_mailboxes g.R.Ready.stands h (sym same)))))

pub returns-in-Err : goal.returns-in-Err
returns-in-Err g c = over g.R.Ready.stands _ (λ t h.
    let was = c.args.self.now.mailboxes in
    let answer = c.in-Err.ensures.answer in
    let same = c.in-Err.ensures.left ∙ get_refused was c.args.id c.in-Err.code answer in
    let other : is_code c.in-Err.code NO_MESSAGE ≡ false = search rules in
    rw (
      ← c.in-Some.ensures.place,
      sym (c.may_switch.ensures _ h) ∙ c.if-not-may_switch.false,
      told (gets was c.args.id) answer,
      other,
    )
    (answers_quiet c.answer-in-Err.ensures.after (holds_mailboxes g.R.Ready.stands h (sym same))
    c.answer-in-Err.ensures.processor))
