use Rattle.std.proofs.Common.{◌++◌, take, unwrap_or, ap, ◌∙◌}
use Rattle.iop_printf.proofs.Padding.{padded_string}
use Rattle.iop_printf.specs.Texts.{padded, string_or_null}
use Rattle.iop_printf.proofs.texts.append_string.Goals as goal

pub returns : goal.returns
returns c =
    let conversion = c.args.conversion.now in
    let old = c.args.text.now.items in
    c.append_padded.ensures
    ∙ ap (λ s. take 4096 (old ++ padded conversion s)) c.string_or_null.ensures.text
    ∙ padded_string 4096 c.unwrap_or-most.result conversion old
    (string_or_null c.args.ram.now c.args.at) conversion.precision
    (c.unwrap_or-most.ensures ∙ ap (unwrap_or conversion.precision) c.max-shown.ensures)
