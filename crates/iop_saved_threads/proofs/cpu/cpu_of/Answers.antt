use Rattle.std.proofs.Common.{arith}
use Rattle.iop_snapshot.specs.declared.widths.TheConstants.{CPU}
use Rattle.iop_snapshot.proofs.Numbers.{fits_at}
use Rattle.iop_saved_threads.proofs.cpu.cpu_of.Goals as goal

pub pending_of-requires : goal.pending_of-requires
pending_of-requires c =
    omega (arith, fits_at CPU c.args.numbers.now 38 c.requires (omega arith))

pub overflow_cast-result : goal.overflow_cast-result
overflow_cast-result c =
    omega (arith, fits_at CPU c.args.numbers.now 32 c.requires (omega arith))

pub overflow_cast-result-2 : goal.overflow_cast-result-2
overflow_cast-result-2 c =
    omega (arith, fits_at CPU c.args.numbers.now 33 c.requires (omega arith))

pub overflow_cast-result-3 : goal.overflow_cast-result-3
overflow_cast-result-3 c =
    omega (arith, fits_at CPU c.args.numbers.now 34 c.requires (omega arith))

pub overflow_cast-result-4 : goal.overflow_cast-result-4
overflow_cast-result-4 c =
    omega (arith, fits_at CPU c.args.numbers.now 35 c.requires (omega arith))
