use Rattle.std.proofs.Common.{[], ◌∷◌}
use Rattle.iop_printf.proofs.Cutting.{cut_then}
use Rattle.iop_printf.specs.Texts.{conversion_text}
use Rattle.iop_printf.proofs.texts.append_conversion.Goals as goal

pub returns-in-None : goal.returns-in-None
unfolding conversion_text
returns-in-None c =
    rw c.in-None.is
    (cut_then 4096 c.args.text.now.items c.append_cut.new.text.items _ (0x25 ∷ []) c.args.read.now
    c.append_cut.ensures c.append_cut-in-None.ensures)
