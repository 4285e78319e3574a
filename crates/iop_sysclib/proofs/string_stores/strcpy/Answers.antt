use Rattle.iop_sysclib.proofs.ServedCalls.{served_as}
use Rattle.iop_sysclib.proofs.StringRanges.{held_whole, strcpy_is}
use Rattle.iop_sysclib.proofs.string_stores.strcpy.Goals as goal

pub copy-requires-clause-source : goal.copy-requires-clause-source
copy-requires-clause-source g c =
    (held_whole c.args.guest.now c.args.from c.string.result.now c.string.ensures.text).open_is

pub returns-clause-served : goal.returns-clause-served
returns-clause-served g c =
    served_as
    (strcpy_is c.args.guest.now c.args.to c.args.from c.string.result.now c.string.ensures.text)
    c.copy.ensures.served
