use Rattle.iop_base.proofs.Giving.{gives_none}
use Rattle.iop_machine.proofs.iop.Iop.conclude.Goals as goal

pub returns-in-Fault : goal.returns-in-Fault
returns-in-Fault g c = λ s h.
    let lines = g.L.Lines.output c.args.lines.now in
    rw c.in-Fault.is (record { state = c.fault.ensures s h; gives = gives_none lines })
