use Rattle.iop_printf.proofs.NumberLaws.{digits_of-value}
use Rattle.iop_printf.proofs.laws.numbers_read_back.Goals as goal

pub returns : goal.returns
returns c = digits_of-value
