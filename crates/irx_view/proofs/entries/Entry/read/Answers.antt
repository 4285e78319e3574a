use Rattle.std.proofs.Common.{ℕ, ◌%◌, ap, sym, ◌∙◌, arith}
use Rattle.irx_reloc.proofs.Rows.{get_or-entries_of, entry_inside}
use Rattle.irx_view.proofs.entries.Entry.read.Goals as goal

pub overflow_mul-place : goal.overflow_mul-place
overflow_mul-place c = grind (arith, entry_inside c.args.section.now c.args.index c.requires)

pub overflow_add-place : goal.overflow_add-place
overflow_add-place c = grind (arith, entry_inside c.args.section.now c.args.index c.requires)

pub word_at-info-requires : goal.word_at-info-requires
word_at-info-requires c = omega (arith, entry_inside c.args.section.now c.args.index c.requires)

pub word_at-requires : goal.word_at-requires
word_at-requires c = omega (arith, entry_inside c.args.section.now c.args.index c.requires)

pub returns-clause-site : goal.returns-clause-site
returns-clause-site c =
    c.word_at.ensures
    ∙ sym (ap (λ (entry : ℕ × ℕ). entry.0)
    (get_or-entries_of c.args.section.now c.args.index c.requires))

pub returns-clause-number : goal.returns-clause-number
returns-clause-number c =
    ap (λ (info : ℕ). info % 256) c.word_at-info.ensures
    ∙ sym (ap (λ (entry : ℕ × ℕ). entry.1)
    (get_or-entries_of c.args.section.now c.args.index c.requires))
