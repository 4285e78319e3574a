use Rattle.iop_time.proofs.Rooms.{room}
use Rattle.iop_time.proofs.laws.delays_leave_room.Goals as goal

pub returns : goal.returns
returns c = λ timers threads thread h all own none. room timers h thread none threads all own
