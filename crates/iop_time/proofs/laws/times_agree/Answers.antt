use Rattle.std.proofs.Common.{arith}
use Rattle.iop_time.proofs.laws.times_agree.Goals as goal

pub returns : goal.returns
returns c = record {
  micros = λ us. (omega arith, omega arith);
  ticks = λ ticks. (omega arith, omega arith);
}
