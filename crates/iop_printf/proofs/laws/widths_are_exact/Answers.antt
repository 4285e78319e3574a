use Rattle.iop_printf.proofs.WidthLaws.{letter_text-width}
use Rattle.iop_printf.proofs.laws.widths_are_exact.Goals as goal

pub returns : goal.returns
returns c = letter_text-width
