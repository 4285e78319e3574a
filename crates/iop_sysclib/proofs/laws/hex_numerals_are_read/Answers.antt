use Rattle.iop_sysclib.proofs.HexNumerals.{hex_numerals_are_read}
use Rattle.iop_sysclib.proofs.laws.hex_numerals_are_read.Goals as goal

pub returns : goal.returns
returns c = hex_numerals_are_read
