use Rattle.iop_sysclib.proofs.ServedCalls.{served_reading, served_as}
use Rattle.iop_sysclib.proofs.ServedNumbers.{strtol-no_end}
use Rattle.std.proofs.Common.{Some}
use Rattle.iop_sysclib.proofs.strtol.strtol.Goals as goal

pub returns-then-end-eq0-clause-served : goal.returns-then-end-eq0-clause-served
returns-then-end-eq0-clause-served g c = served_as
    (strtol-no_end c.args.guest.now.ram c.args.at c.args.end c.args.base c.reading_of-reading.result
    c.string.result.now c.if-end-eq0.true c.string.ensures.text c.reading_of-reading.ensures.reading)
    (served_reading (Some c.reading_of-reading.result.word) c.args.now c.args.guest.now _)
