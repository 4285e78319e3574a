use Rattle.iop_printf.proofs.NumberLaws.{digits_of-hex}
use Rattle.iop_printf.proofs.laws.hex_digits_are_written.Goals as goal

pub returns : goal.returns
returns c = digits_of-hex
