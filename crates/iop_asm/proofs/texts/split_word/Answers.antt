use Rattle.std.proofs.Common.{◌∙◌, ap, drop, take, not}
use Rattle.std.proofs.lemmas.List.Folds.{length-prefix_len}
use Rattle.iop_asm.specs.Texts.{is_blank}
use Rattle.iop_asm.proofs.texts.split_word.Goals as goal

pub returns-clause-front : goal.returns-clause-front
returns-clause-front c =
    let text = c.args.text.now in
    c.split_at.ensures.front
    ∙ ap (λ n. take n text) (c.word_len.ensures ∙ length-prefix_len (λ b. not (is_blank b)) text)

pub returns-clause-back : goal.returns-clause-back
returns-clause-back c =
    let text = c.args.text.now in
    c.split_at.ensures.back
    ∙ ap (λ n. drop n text) (c.word_len.ensures ∙ length-prefix_len (λ b. not (is_blank b)) text)
