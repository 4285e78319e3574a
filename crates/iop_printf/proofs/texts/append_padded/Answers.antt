use Rattle.iop_printf.proofs.Padding.{padded_left, padded_right}
use Rattle.iop_printf.proofs.texts.append_padded.Goals as goal

pub returns-then-conversion : goal.returns-then-conversion
returns-then-conversion c =
    padded_left 4096 c.saturating_sub-padding.result c.args.zeros c.args.conversion.now
    c.args.text.now.items c.append_filled.new.text.items _ c.args.sign.now c.args.digits.now
    c.saturating_sub-padding.ensures c.if-conversion.true c.append_filled.ensures c.fill.ensures

pub returns-else-conversion : goal.returns-else-conversion
returns-else-conversion c =
    padded_right 4096 c.saturating_sub-padding.result c.args.zeros c.args.conversion.now
    c.args.text.now.items c.fill-else-conversion.new.text.items _ c.args.sign.now
    c.args.digits.now c.saturating_sub-padding.ensures c.if-conversion.false
    c.fill-else-conversion.ensures c.append_filled-else-conversion.ensures
