use Rattle.std.proofs.Common.{ap, subst, sym, ◌∙◌}
use Rattle.std.proofs.lemmas.Iterator.Consumers.{YieldsList-turn, YieldsList-end}
use Rattle.std.proofs.lemmas.Iterator.Splits.{YieldsList-from_lines}
use Rattle.std.specs.Str.Lines.{lines}
use Rattle.iop_asm.specs.DraftFields.{IsDraft}
use Rattle.iop_asm.specs.Drafts.{empty_draft, after_line}
use Rattle.iop_asm.proofs.FoldLemmas.{fold-take_more, fold-take_all}
use Rattle.iop_asm.proofs.reading.read_source.Goals as goal

pub loop-line-preserved : goal.loop-line-preserved
loop-line-preserved c =
    let all = lines c.args.source.now in
    let turn = YieldsList-turn (YieldsList-from_lines c.args.source.now (cc)) c.loop-line.yielded _
    c.loop-line.yielded_by _ _ c.in-Some.line c.in-Some.is c.next.ensures.steps in
    subst (IsDraft c.take_line.new.draft)
    (ap (after_line _) c.as_bytes.ensures.value
    ∙ sym (fold-take_more after_line empty_draft all c.loop-line.yielded c.in-Some.line _ turn.0 turn.1))
    (c.in_ok-take_line.ensures _ c.loop-line.invariant)

pub returns : goal.returns
returns c =
    let all = lines c.args.source.now in
    let end = YieldsList-end (YieldsList-from_lines c.args.source.now (cc)) c.loop-line.yielded _
    c.loop-line.yielded_by _ _ c.in-None.is c.next.ensures.steps in
    subst (IsDraft c.loop-line.draft)
    (fold-take_all after_line empty_draft all c.loop-line.yielded end.1) c.loop-line.invariant
