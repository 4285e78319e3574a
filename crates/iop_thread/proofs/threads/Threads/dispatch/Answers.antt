use Rattle.std.proofs.Common.{◌≡◌, ap, refl, Some}
use Rattle.iop_thread.specs.Operations.{dispatches, dispatches_it}
use Rattle.iop_thread.proofs.ChoosingThreads.{dispatched}
use Rattle.iop_thread.proofs.Placed.{keeps_places}
use Rattle.iop_thread.proofs.Settling.{in_place}
use Rattle.iop_thread.proofs.threads.Threads.dispatch.Goals as goal

pub preempt-requires : goal.preempt-requires
preempt-requires g c =
    let (s, h) = c.requires.sound in
    let (is, there) = c.in-Some.ensures s h in (s, h, is, there)

pub returns-in-None : goal.returns-in-None
returns-in-None g c = λ s h.
    let best = c.in_ok-best.best in
    let cpu = c.args.cpu.now in
    let (best_is, there) = c.in_ok-best.ensures s h in
    let none = c.in-None.ensures s h in
    let did : dispatches s cpu ≡ Some (dispatches_it s cpu best.thread) = rw (none, best_is) refl in
    dispatched g.R.Ready.stands s cpu (dispatches s cpu) (Some c.run.result) c.run.new.self
    c.run.new.cpu (dispatches_it s cpu best.thread) did (ap Some c.run.ensures.id)
    (record {
      place = h.place;
      holds = c.run.ensures.state h.place s h.holds
          (in_place g.R.Ready.stands c.args.self.now s h best there);
      placed = ((keeps_places s h.placed).dispatches cpu _ tt did).0;
    })
    c.run.ensures.registers
