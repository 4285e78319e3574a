use Rattle.iop_machine.proofs.RestoredMachines.{restored_machines}
use Rattle.iop_machine.proofs.laws.restored_machines_are_machines.Goals as goal

pub returns : goal.returns
returns c =
    restored_machines c.machines_are_lawful.ensures c.machines_tell_what_was_put.ensures
    c.machines_are_read.ensures c.agreeing_cores_are_sound.ensures
