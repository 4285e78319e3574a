use Rattle.std.proofs.Common.{◌∙◌, ap, take}
use Rattle.iop_printf.proofs.ShortStrings.{string_whole}
use Rattle.iop_printf.specs.Arguments.{Arguments}
use Rattle.iop_printf.specs.Formatting.{format_text, text_from}
use Rattle.iop_printf.proofs.formatting.format_regs.Goals as goal

pub returns : goal.returns
unfolding format_text
returns c =
    let ram = c.args.ram.now in
    let arguments : Arguments = record { registers = c.args.registers.now; sp = c.args.sp } in
    c.append_format.ensures
    ∙ ap (λ t. take 4096 (text_from ram arguments 0 0 t))
    (c.string_at-format.ensures.text
    ∙ string_whole ram c.args.fmt c.size.result c.size.ensures.value)
