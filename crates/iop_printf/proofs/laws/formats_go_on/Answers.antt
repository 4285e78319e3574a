use Rattle.iop_printf.proofs.FormatLaws.{text_from-goes_on}
use Rattle.iop_printf.proofs.laws.formats_go_on.Goals as goal

pub returns : goal.returns
returns c = text_from-goes_on
