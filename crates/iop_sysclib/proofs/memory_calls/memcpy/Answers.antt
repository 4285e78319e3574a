use Rattle.iop_sysclib.proofs.Copies.{served_copy, refused_copy}
use Rattle.iop_sysclib.proofs.memory_calls.memcpy.Goals as goal

pub returns-in-Ok-clause-served : goal.returns-in-Ok-clause-served
returns-in-Ok-clause-served g c =
    served_copy c.args.guest.now c.args.to c.args.from c.args.len c.args.now c.copy.new.self _ _
    c.copy.ensures.memory c.copy.ensures.lines c.in-Ok.ensures.accepted

pub returns-in-Err-clause-served : goal.returns-in-Err-clause-served
returns-in-Err-clause-served g c =
    refused_copy c.args.guest.now c.args.to c.args.from c.args.len c.args.now c.copy.new.self _ _
    c.copy.ensures.memory c.copy.ensures.lines c.in-Err.ensures.accepted
