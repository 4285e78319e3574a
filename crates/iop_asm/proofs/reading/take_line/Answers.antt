use Rattle.std.proofs.Common.{◌≡◌, Err, option_map, ap, subst, sym, ◌∙◌}
use Rattle.std.specs.Option.{option_copied}
use Rattle.std.proofs.lemmas.Result.{on_ok_weaker}
use Rattle.iop_asm.specs.declared.line_fault.LineFault.TheVariants.{Bad}
use Rattle.iop_asm.specs.declared.quoting.Quoting.TheVariants.{Outside}
use Rattle.iop_asm.specs.DraftFields.{IsDraft}
use Rattle.iop_asm.specs.Drafts.{with_fault, at_next_line, read_text, after_line}
use Rattle.iop_asm.specs.LineFaults.{Reads}
use Rattle.iop_asm.specs.StatementFields.{statement}
use Rattle.iop_asm.specs.Statements.{label_among}
use Rattle.iop_asm.specs.Texts.{after_blanks, before_comment, words}
use Rattle.iop_asm.proofs.reading.take_line.Goals as goal

pub returns-in-Err-Bad : goal.returns-in-Err-Bad
unfolding after_line
returns-in-Err-Bad c =
    on_ok_weaker c.note_fault.result (λ noted d h.
    let next = at_next_line d in
    let stands = c.begin_line.ensures d h in
    let read = c.after_blanks-text.result.now in
    let bad : c.read_text.result ≡ Err (Bad c.in-Err-Bad.kind) =
    c.in-Err-Bad.is ∙ ap Err c.in-Err-Bad.field-0-is in
    let reads : read_text next read ≡ Err c.in-Err-Bad.kind =
    subst (λ r. Reads (option_map statement) r (read_text next read)) bad
    (c.read_text.ensures.reads next stands) in
    let text : read ≡ after_blanks (before_comment Outside c.args.line.now) =
    c.after_blanks-text.ensures ∙ ap after_blanks c.before_comment.ensures in
    let label : option_copied c.label_among.result
    ≡ label_among (words (after_blanks (before_comment Outside c.args.line.now))) =
    c.label_among.ensures ∙ ap (λ t. label_among (words t)) text in
    let is = ap (read_text next) (sym text) ∙ reads in
    rw is (subst (λ l. IsDraft c.note_fault.new.self (with_fault next c.in-Err-Bad.kind l)) label
    (noted next stands)))
    c.note_fault.ensures
