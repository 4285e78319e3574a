use Rattle.std.proofs.Common.{◌∙◌, ap, drop}
use Rattle.std.proofs.lemmas.List.{take_rest}
use Rattle.std.proofs.lemmas.List.Folds.{length-prefix_len}
use Rattle.iop_asm.specs.Texts.{is_blank}
use Rattle.iop_asm.proofs.texts.after_blanks.Goals as goal

pub returns : goal.returns
returns c =
    let text = c.args.text.now in
    take_rest text c.blanks_len.result
    ∙ ap (λ n. drop n text) (c.blanks_len.ensures ∙ length-prefix_len is_blank text)
