use Rattle.iop_printf.proofs.WidthLaws.{letter_text-digits}
use Rattle.iop_printf.proofs.laws.digits_are_exact.Goals as goal

pub returns : goal.returns
returns c = letter_text-digits
