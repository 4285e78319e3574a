use Rattle.iop_resumable_runs.proofs.ComingBack.{snapshots_come_back}
use Rattle.iop_resumable_runs.proofs.laws.snapshots_come_back.Goals as goal

pub returns : goal.returns
returns c =
    snapshots_come_back c.machines_are_lawful.ensures c.machines_come_back.ensures
    c.machines_are_read.ensures c.cores_in_runs_agree.ensures c.tables_stand_in_order.ensures
    c.runs_stay_resumable.ensures
