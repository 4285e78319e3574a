use Rattle.std.proofs.Common.{◌<◌, refl, subst}
use Rattle.iop_machine.specs.declared.snapshots.TheConstants.{SAVABLE_MOMENTS}
use Rattle.iop_front.proofs.AnswerLemmas.{refuses, restores_bad, restores_run, restores_short, restores_too_long, restores_unread}
use Rattle.iop_front.proofs.SnapshotLemmas.{restored_in_time}
use Rattle.iop_front.proofs.answering.go_on.Goals as goal

pub run_to_end-requires-clause-early : goal.run_to_end-requires-clause-early
run_to_end-requires-clause-early g c =
    let back = c.in-Ok.ensures.read in
    subst (λ clock. clock < SAVABLE_MOMENTS) back.1.iop.kernel.holds.clock
    (restored_in_time back.2.bytes back.0 back.2.holds)

pub returns-in-Ok-clause-answers : goal.returns-in-Ok-clause-answers
returns-in-Ok-clause-answers g c =
    let back = c.in-Ok.ensures.read in
    restores_run c.args.name.now c.requires back.0 back.2
    (c.run_to_end.ensures.comes _ back.1 back.2.machine)

pub returns-in-Err-Unreadable-clause-answers : goal.returns-in-Err-Unreadable-clause-answers
returns-in-Err-Unreadable-clause-answers g c =
    let refusal = c.refuse_unread.ensures in
    restores_unread c.args.name.now c.requires
    (rw c.in-Err-Unreadable.field-0-is at c.in-Err-Unreadable.ensures.read) refusal.status
    (refuses refusal.sent.0 _ _ _ _ _ _ _ refl refusal.sent.1)

pub returns-in-Err-TooLong-clause-answers : goal.returns-in-Err-TooLong-clause-answers
returns-in-Err-TooLong-clause-answers g c =
    let refusal = c.refuse_too_long_snapshot.ensures in
    restores_too_long c.args.name.now c.requires
    (rw c.in-Err-TooLong.field-0-is at c.in-Err-TooLong.ensures.read) refusal.status
    (refuses refusal.sent.0 _ _ _ _ _ _ _ refl refusal.sent.1)

pub returns-in-Err-Bad-clause-answers : goal.returns-in-Err-Bad-clause-answers
returns-in-Err-Bad-clause-answers g c =
    let refusal = c.refuse_bad_snapshot.ensures in
    restores_bad c.args.name.now c.requires
    (rw c.in-Err-Bad.field-0-is at c.in-Err-Bad.ensures.read) refusal.status
    (refuses refusal.sent.0 _ _ _ _ _ _ _ refl refusal.sent.1)

pub returns-in-Err-NoMemory-clause-answers : goal.returns-in-Err-NoMemory-clause-answers
returns-in-Err-NoMemory-clause-answers g c =
    restores_short c.args.name.now c.requires
    (rw c.in-Err-NoMemory.field-0-is at c.in-Err-NoMemory.ensures.read) refl refl
