use Rattle.std.proofs.Common.{arith}
use Rattle.std.proofs.lemmas.Bool.Decides.{nat_tests}
use Rattle.iop_thread.proofs.Coming.{has_room-free}
use Rattle.iop_thread.proofs.threads.Threads.has_room.Goals as goal

pub returns-then-is_some : goal.returns-then-is_some
returns-then-is_some g c = λ s h.
    let room = has_room-free g.R.Ready.stands h.place c.args.self.now s h.holds c.free.result
    c.free.ensures in
    grind (arith, nat_tests, room, c.is_some.ensures, c.if-is_some.true)

pub returns-else-is_some : goal.returns-else-is_some
returns-else-is_some g c = λ s h.
    let room = has_room-free g.R.Ready.stands h.place c.args.self.now s h.holds c.free.result
    c.free.ensures in
    grind (arith, nat_tests, room, c.is_some.ensures, c.if-is_some.false)
