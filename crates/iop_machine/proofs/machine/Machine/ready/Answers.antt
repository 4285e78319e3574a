use Rattle.iop_machine.proofs.machine.Machine.ready.Goals as goal

pub returns : goal.returns
returns c w h = c.ready.ensures _ h.iop.kernel
