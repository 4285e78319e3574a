use Rattle.iop_printf.proofs.FormatLaws.{format_text-short}
use Rattle.iop_printf.proofs.laws.texts_are_short.Goals as goal

pub returns : goal.returns
returns c = format_text-short
