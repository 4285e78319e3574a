use Rattle.iop_time.proofs.Numbers.{numbers_rise}
use Rattle.iop_time.proofs.laws.numbers_rise.Goals as goal

pub returns : goal.returns
returns c = numbers_rise
