use Rattle.iop_printf.proofs.ReadingLaws.{conversion_at-parts}
use Rattle.iop_printf.proofs.laws.conversions_are_read.Goals as goal

pub returns : goal.returns
returns c = conversion_at-parts
