use Rattle.std.proofs.Common.{◌≡◌, refl, true, nat_lt, arith}
use Rattle.std.proofs.lemmas.Bool.Decides.{nat_tests}
use Rattle.iop_thread.specs.Operations.{takes_wakeup}
use Rattle.iop_thread.proofs.Placed.{keeps_places}
use Rattle.iop_thread.proofs.Settling.{in_place, settled}
use Rattle.iop_thread.proofs.threads.Threads.take_wakeup.Goals as goal

pub returns : goal.returns
returns g c = λ s h.
    let found = c.in-Some.found in
    let t = found.thread in
    let (is, there) = c.in-Some.ensures s h in
    let at = in_place g.R.Ready.stands c.args.self.now s h found there in
    let some : nat_lt 0 t.wakeups ≡ true = grind (arith, nat_tests, c.if-found-eq0.false) in
    settled g.R.Ready.stands h.place c.set_wakeups.new.self _
    (c.set_wakeups.ensures h.place s h.holds at)
    (takes_wakeup s) true (rw (is, some) refl)
    (keeps_places s h.placed).takes_wakeup
