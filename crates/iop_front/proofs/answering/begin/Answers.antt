use Rattle.std.proofs.Common.{ℕ, List, Bor, refl, ap}
use Rattle.iop_modload.specs.declared.limits.TheConstants.{LONGEST_FILE}
use Rattle.iop_front.specs.Outcome.{bad_script_line, cannot_read_line, too_long_line}
use Rattle.iop_front.proofs.AnswerLemmas.{refuses, answers_unread, answers_too_long, answers_bad, answers_short, answers_inputs}
use Rattle.iop_front.proofs.answering.begin.Goals as goal

pub returns-in-Ok-clause-answers : goal.returns-in-Ok-clause-answers
returns-in-Ok-clause-answers g c =
    answers_inputs c.requires c.in-Ok.inputs.script c.in-Ok.inputs.modules.items
    c.in-Ok.ensures.read c.in-Ok.ensures.short c.run_modules.ensures.meets

pub returns-in-Err-Unreadable-clause-answers : goal.returns-in-Err-Unreadable-clause-answers
returns-in-Err-Unreadable-clause-answers g c =
    let stopped = rw c.in-Err-Unreadable.field-0-is at c.in-Err-Unreadable.ensures.read in
    let refusal = c.refuse_unread.ensures in
    let line = ap (λ (n : Bor (List ℕ)). cannot_read_line n.now) c.in-Err-Unreadable.name-is in
    answers_unread c.requires c.in-Err-Unreadable.name.now stopped refusal.status
    (refuses refusal.sent.0 _ _ _ _ _ _ _ line refusal.sent.1)

pub returns-in-Err-TooLong-clause-answers : goal.returns-in-Err-TooLong-clause-answers
returns-in-Err-TooLong-clause-answers g c =
    let stopped = rw c.in-Err-TooLong.field-0-is at c.in-Err-TooLong.ensures.read in
    let refusal = c.refuse_too_long.ensures in
    let line =
    ap (λ (n : Bor (List ℕ)). too_long_line LONGEST_FILE n.now) c.in-Err-TooLong.name-is in
    answers_too_long c.requires c.in-Err-TooLong.name.now stopped refusal.status
    (refuses refusal.sent.0 _ _ _ _ _ _ _ line refusal.sent.1)

pub returns-in-Err-BadScript-clause-answers : goal.returns-in-Err-BadScript-clause-answers
returns-in-Err-BadScript-clause-answers g c =
    let stopped = rw c.in-Err-BadScript.field-0-is at c.in-Err-BadScript.ensures.read in
    let refusal = c.refuse_bad_script.ensures in
    let line = ap bad_script_line c.in-Err-BadScript.number-is in
    answers_bad c.requires c.in-Err-BadScript.number stopped refusal.status
    (refuses refusal.sent.0 _ _ _ _ _ _ _ line refusal.sent.1)

pub returns-in-Err-NoMemory-clause-answers : goal.returns-in-Err-NoMemory-clause-answers
returns-in-Err-NoMemory-clause-answers g c =
    answers_short c.requires
    (rw c.in-Err-NoMemory.field-0-is at c.in-Err-NoMemory.ensures.read) refl refl
