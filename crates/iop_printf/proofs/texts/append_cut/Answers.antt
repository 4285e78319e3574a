use Rattle.std.proofs.Common.{◌∙◌}
use Rattle.iop_printf.proofs.Cutting.{cut_append}
use Rattle.iop_printf.proofs.texts.append_cut.Goals as goal

pub returns : goal.returns
returns c =
    c.append.ensures.bytes
    ∙ cut_append 4096 c.remaining_capacity.result c.min-len.result c.args.text.now.items
    c.args.bytes.now c.remaining_capacity.ensures c.min-len.ensures
