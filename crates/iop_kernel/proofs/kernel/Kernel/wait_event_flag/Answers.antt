use Rattle.std.proofs.Common.{◌≡◌, true, false, ap, sym, ◌∙◌, rules}
use Rattle.iop_base.specs.declared.code.TheConstants.Code.{FLAG_CONDITION}
use Rattle.iop_event.specs.EventFlags.{tests}
use Rattle.iop_kernel.specs.Waits.{is_code}
use Rattle.iop_kernel.proofs.Bodies.Refusals.{test_refused}
use Rattle.iop_kernel.proofs.Bodies.Standing.{over, told, holds_flags, takes_quiet, answers_quiet}
use Rattle.iop_kernel.proofs.kernel.Kernel.wait_event_flag.Goals as goal

pub returns-in-Ok : goal.returns-in-Ok
returns-in-Ok g c = over g.R.Ready.stands _ (λ t h.
    let wanted = c.args.wanted in
    let did = tests c.args.self.now.event_flags c.args.id wanted.bits wanted.mode in
    rw (
      ← c.in-Some.ensures.place,
      sym (c.may_switch.ensures _ h) ∙ c.if-not-may_switch.false,
      told did c.in-Ok.ensures.answer,
    )
    (c.answer_word_at.ensures _ (holds_flags g.R.Ready.stands h (sym c.in-Ok.ensures.left))))

pub returns-in-Err-FLAG_CONDITION : goal.returns-in-Err-FLAG_CONDITION
returns-in-Err-FLAG_CONDITION g c = over g.R.Ready.stands _ (λ t h.
    let wanted = c.args.wanted in
    let arm = c.in-Err-FLAG_CONDITION in
    let refused = test_refused c.args.self.now.event_flags c.args.id wanted.bits wanted.mode
    arm.field-0 arm.ensures.answer in
    let same = arm.ensures.left ∙ ap (λ d. d.1) refused in
    let unmet : is_code arm.field-0 FLAG_CONDITION ≡ true = search rules in
    rw (
      ← c.in-Some.ensures.place,
      sym (c.may_switch.ensures _ h) ∙ c.if-not-may_switch.false,
      refused,
      unmet,
    )
    (takes_quiet (c.wait_for_bits.ensures _ (holds_flags g.R.Ready.stands h (sym same)))))

pub returns-in-Err : goal.returns-in-Err
returns-in-Err g c = over g.R.Ready.stands _ (λ t h.
    let wanted = c.args.wanted in
    let refused = test_refused c.args.self.now.event_flags c.args.id wanted.bits wanted.mode
    c.in-Err.code c.in-Err.ensures.answer in
    let same = c.in-Err.ensures.left ∙ ap (λ d. d.1) refused in
    let other : is_code c.in-Err.code FLAG_CONDITION ≡ false = search rules in
    rw (
      ← c.in-Some.ensures.place,
      sym (c.may_switch.ensures _ h) ∙ c.if-not-may_switch.false,
      refused,
      other,
    )
    (answers_quiet c.answer-in-Err.ensures.after (holds_flags g.R.Ready.stands h (sym same))
    c.answer-in-Err.ensures.processor))
