use Rattle.std.proofs.Common.{◌≡◌, ◌+◌, min, refl, sym, arith}
use Rattle.iop_thread.specs.declared.thread.TheConstants.{MOST_WAKEUPS}
use Rattle.iop_thread.specs.Operations.{wakes_up_by}
use Rattle.iop_thread.proofs.Moving.{placed_in_same_state}
use Rattle.iop_thread.proofs.Settling.{in_place, stands_as}
use Rattle.iop_thread.proofs.threads.Threads.wake_up_found.Goals as goal

pub returns : goal.returns
returns g c = λ s h.
    let found = c.args.found.now in
    let t = found.thread in
    let at = in_place g.R.Ready.stands c.args.self.now s h found c.requires.there in
    let other = sym c.if-sleeps.ensures in
    let more : c.min-wakeups.result ≡ min (t.wakeups + 1) MOST_WAKEUPS =
    omega (arith, c.min-wakeups.ensures, c.saturating_add.ensures) in
    stands_as g.R.Ready.stands h.place c.set_wakeups.new.self _
    (c.set_wakeups.ensures h.place s h.holds at)
    (wakes_up_by s t) (rw (other, more) refl)
    (rw other (placed_in_same_state s h.placed t
    (record t { wakeups = min (t.wakeups + 1) MOST_WAKEUPS }) at.found refl))
