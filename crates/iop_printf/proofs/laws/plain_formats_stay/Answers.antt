use Rattle.iop_printf.proofs.FormatLaws.{format_text-plain}
use Rattle.iop_printf.proofs.laws.plain_formats_stay.Goals as goal

pub returns : goal.returns
returns c = format_text-plain
