use Rattle.std.proofs.Common.{arith}
use Rattle.iop_snapshot.specs.declared.widths.TheConstants.{THREAD}
use Rattle.iop_snapshot.proofs.Numbers.{fits_at}
use Rattle.iop_saved_threads.proofs.thread.thread_of.Goals as goal

pub overflow_cast-result-4 : goal.overflow_cast-result-4
overflow_cast-result-4 c =
    omega (arith, fits_at THREAD c.args.numbers.now 3 c.requires (omega arith))

pub overflow_cast-result-5 : goal.overflow_cast-result-5
overflow_cast-result-5 c =
    omega (arith, fits_at THREAD c.args.numbers.now 5 c.requires (omega arith))

pub overflow_cast-result-6 : goal.overflow_cast-result-6
overflow_cast-result-6 c =
    omega (arith, fits_at THREAD c.args.numbers.now 4 c.requires (omega arith))

pub overflow_cast-result-7 : goal.overflow_cast-result-7
overflow_cast-result-7 c =
    omega (arith, fits_at THREAD c.args.numbers.now 6 c.requires (omega arith))

pub overflow_cast-result-8 : goal.overflow_cast-result-8
overflow_cast-result-8 c =
    omega (arith, fits_at THREAD c.args.numbers.now 12 c.requires (omega arith))
