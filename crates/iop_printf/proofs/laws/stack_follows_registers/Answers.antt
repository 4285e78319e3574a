use Rattle.iop_printf.proofs.ArgumentLaws.{format_text-moved}
use Rattle.iop_printf.proofs.laws.stack_follows_registers.Goals as goal

pub returns : goal.returns
returns c = format_text-moved
