use Rattle.iop_snapshot.proofs.Sending.{writes_none}
use Rattle.iop_saved_machine.proofs.begun_module.save_where.Goals as goal

pub returns-in-None-clause-written : goal.returns-in-None-clause-written
returns-in-None-clause-written g c = rw c.in-None.is (writes_none _)
