use Rattle.iop_sysclib.proofs.ServedCalls.{served_as}
use Rattle.iop_sysclib.proofs.StringRanges.{held_whole, strcat_is}
use Rattle.iop_sysclib.proofs.string_stores.strcat.Goals as goal
use Rattle.std.proofs.Common.{arith}

pub copy-requires-clause-source : goal.copy-requires-clause-source
copy-requires-clause-source g c =
    (held_whole c.args.guest.now c.args.from c.string-2.result.now c.string-2.ensures.text).open_is

pub returns-clause-served : goal.returns-clause-served
returns-clause-served g c =
    served_as
    (strcat_is c.args.guest.now c.args.to c.args.from c.string-2.result.now
    c.string-2.ensures.text c.string.result.now c.string.ensures.text (omega arith)
    c.string.ensures.sized)
    c.copy.ensures.served
