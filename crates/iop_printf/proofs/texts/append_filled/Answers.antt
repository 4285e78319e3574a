use Rattle.std.proofs.Common.{◌++◌, replicate}
use Rattle.iop_printf.proofs.Cutting.{cut_then}
use Rattle.iop_printf.proofs.texts.append_filled.Goals as goal

pub returns : goal.returns
returns c =
    let old = c.args.text.now.items in
    let sign = c.args.sign.now in
    let zeros = replicate c.args.zeros 0x30 in
    let signed = c.append_cut.new.text.items in
    let filled = c.fill.new.text.items in
    cut_then 4096 old filled _ (sign ++ zeros) c.args.digits.now
    (cut_then 4096 old signed filled sign zeros c.append_cut.ensures c.fill.ensures)
    c.append_cut-2.ensures
