use Rattle.iop_machine.specs.Restoring.{left_in}
use Rattle.iop_machine.proofs.RestoredMachines.{can_be_left, events_come}
use Rattle.iop_machine.proofs.machine.Machine.going_on.Goals as goal
use Rattle.iop_saved_machine.specs.Restored.{loading_parts}

pub new-requires-clause-room : goal.new-requires-clause-room
new-requires-clause-room c =
    (can_be_left (left_in (loading_parts c.args.made.loading)) c.requires.modules).room

pub new-requires-2-clause-come : goal.new-requires-2-clause-come
new-requires-2-clause-come c = events_come c.args.made.loading.events.items c.requires.events
