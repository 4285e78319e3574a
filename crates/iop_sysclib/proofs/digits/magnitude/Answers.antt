use Rattle.std.proofs.Common.{arith}
use Rattle.iop_sysclib.specs.declared.digits.TheConstants.{LIMIT}
use Rattle.iop_sysclib.proofs.HeldNumbers.{held_more}
use Rattle.iop_sysclib.proofs.digits.magnitude.Goals as goal

pub loop-digit-preserved : goal.loop-digit-preserved
loop-digit-preserved c =
    let step =
    held_more LIMIT c.args.base c.loop-digit.value c.args.digits.now c.loop-digit.digit-index
    (omega arith) c.loop-digit-test.true c.loop-digit.invariant in
    cc (step, c.min-value.ensures, c.digit_value.ensures, c.from.ensures)
