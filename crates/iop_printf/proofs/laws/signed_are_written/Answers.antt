use Rattle.iop_printf.proofs.NumberLaws.{digits_of-signed}
use Rattle.iop_printf.proofs.laws.signed_are_written.Goals as goal

pub returns : goal.returns
returns c = digits_of-signed
