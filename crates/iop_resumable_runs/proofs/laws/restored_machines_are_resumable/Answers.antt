use Rattle.iop_resumable_runs.proofs.Resumed.{restored_resumable}
use Rattle.iop_resumable_runs.proofs.laws.restored_machines_are_resumable.Goals as goal

pub returns : goal.returns
returns c =
    restored_resumable c.machines_are_lawful.ensures c.machines_tell_what_was_put.ensures
    c.machines_are_read.ensures c.agreeing_cores_are_sound.ensures
