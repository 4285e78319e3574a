use Rattle.std.proofs.Common.{ℕ, ◌%◌, ap, sym, ◌∙◌, arith}
use Rattle.irx_reloc.proofs.Rows.{same_pair, get_or-entries_of, entry_inside}
use Rattle.irx_reloc.proofs.entry.Entry.read.Goals as goal

pub overflow_mul-place : goal.overflow_mul-place
overflow_mul-place c = grind (arith, entry_inside c.args.section.now c.args.index c.requires)

pub overflow_add-place : goal.overflow_add-place
overflow_add-place c = grind (arith, entry_inside c.args.section.now c.args.index c.requires)

pub word_at-info-requires : goal.word_at-info-requires
word_at-info-requires c = omega (arith, entry_inside c.args.section.now c.args.index c.requires)

pub word_at-requires : goal.word_at-requires
word_at-requires c = omega (arith, entry_inside c.args.section.now c.args.index c.requires)

pub returns : goal.returns
returns c =
    same_pair c.word_at.ensures
    (c.of_type.ensures.number ∙ ap (λ (info : ℕ). info % 256) c.word_at-info.ensures)
    ∙ sym (get_or-entries_of c.args.section.now c.args.index c.requires)
