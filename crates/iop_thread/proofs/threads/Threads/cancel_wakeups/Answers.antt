use Rattle.std.proofs.Common.{◌∙◌, sym, refl, Ok}
use Rattle.iop_thread.specs.Operations.{cancels}
use Rattle.iop_thread.proofs.Placed.{keeps_places}
use Rattle.iop_thread.proofs.Settling.{in_place, settled}
use Rattle.iop_thread.proofs.threads.Threads.cancel_wakeups.Goals as goal

pub returns : goal.returns
returns g c = λ s h.
    let found = c.in-Some.found in
    let t = found.thread in
    let (is, there) = c.in-Some.ensures s h in
    let other = sym c.is_dormant.ensures ∙ c.if-is_dormant.false in
    let at = in_place g.R.Ready.stands c.args.self.now s h found there in
    settled g.R.Ready.stands h.place c.set_wakeups.new.self _
    (c.set_wakeups.ensures h.place s h.holds at)
    (cancels s c.args.id) (Ok t.wakeups) (rw (is, other) refl)
    ((keeps_places s h.placed).cancels c.args.id)
