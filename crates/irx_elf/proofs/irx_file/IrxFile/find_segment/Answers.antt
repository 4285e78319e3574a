use Rattle.std.proofs.Common.{Some, find, eq-eqb, ap, sym, ◌∙◌}
use Rattle.std.proofs.lemmas.Bool.{ne_eqb}
use Rattle.irx_elf.specs.Headers.{segment_number, is_of_kind}
use Rattle.irx_elf.specs.declared.file_header.FileHeader.{FileHeader}
use Rattle.irx_elf.specs.declared.segment.Segment.{Segment}
use Rattle.irx_elf.proofs.Rows.{find-here, find-later, find-end}
use Rattle.irx_elf.proofs.Headers.{segments-are}
use Rattle.irx_elf.proofs.irx_file.IrxFile.find_segment.Goals as goal

pub loop-number-init : goal.loop-number-init
loop-number-init c =
    ap (find (is_of_kind c.args.kind))
    (segments-are c.args.self.now.bytes.now c.from-number-end.result
    (c.from-number-end.ensures ∙ ap (λ (h : FileHeader). h.segment_count) c.args.self.now.read))

pub returns-then-segment-kind : goal.returns-then-segment-kind
returns-then-segment-kind c =
    let file = c.args.self.now.bytes.now in
    let same = eq-eqb _ _
    (sym (ap (λ (s : Segment). s.kind) c.segment-segment.ensures) ∙ c.if-segment-kind.true) in
    ap Some c.segment-segment.ensures
    ∙ sym (find-here (is_of_kind c.args.kind) (segment_number file) c.loop-number.number
    c.from-number-end.result c.loop-number-test.true same)
    ∙ c.loop-number.invariant

pub loop-number-preserved : goal.loop-number-preserved
loop-number-preserved c =
    let file = c.args.self.now.bytes.now in
    let other = ne_eqb _ _
    (λ e. c.if-segment-kind.false
    (ap (λ (s : Segment). s.kind) c.segment-segment.ensures ∙ e)) in
    sym (find-later (is_of_kind c.args.kind) (segment_number file) c.loop-number.number
    c.from-number-end.result c.loop-number-test.true other)
    ∙ c.loop-number.invariant

pub returns : goal.returns
returns c =
    sym (find-end (is_of_kind c.args.kind) (segment_number c.args.self.now.bytes.now)
    c.loop-number.number c.from-number-end.result c.loop-number-test.false)
    ∙ c.loop-number.invariant
