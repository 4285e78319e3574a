use Rattle.iop_objects.proofs.Rooms.{leave_room}
use Rattle.iop_objects.proofs.laws.waiters_leave_room.Goals as goal

pub returns : goal.returns
returns g c = leave_room
