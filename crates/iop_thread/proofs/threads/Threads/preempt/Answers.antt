use Rattle.std.proofs.Common.{◌≡◌, ap, refl, true, nat_lt, Some, arith}
use Rattle.std.proofs.lemmas.Bool.{lt-ltb}
use Rattle.iop_thread.specs.Operations.{dispatches, dispatches_it}
use Rattle.iop_thread.specs.States.{is_ready}
use Rattle.iop_thread.specs.ThreadTable.{ready_first}
use Rattle.iop_thread.proofs.ChoosingThreads.{best_stays, dispatched}
use Rattle.iop_thread.proofs.FindingThreads.{running_thread_runs}
use Rattle.iop_thread.proofs.Placed.{keeps_places}
use Rattle.iop_thread.proofs.Settling.{in_place, can_enter}
use Rattle.iop_thread.proofs.threads.Threads.preempt.Goals as goal

pub put_first-requires : goal.put_first-requires
put_first-requires g c =
    let (s, h, is, there) = c.requires in
    let found = c.args.running.now in
    let other = ap is_ready (running_thread_runs s h.placed found.thread is).is in (
      h.place,
      s,
      h.holds,
      can_enter g.R.Ready.stands c.args.self.now s h found there other found.thread refl,
    )

pub returns : goal.returns
returns g c = λ s h is there best_is best_there.
    let found = c.args.running.now in
    let best = c.args.best.now in
    let cpu = c.args.cpu.now in
    let other = ap is_ready (running_thread_runs s h.placed found.thread is).is in
    let can = can_enter g.R.Ready.stands c.args.self.now s h found there other found.thread refl in
    let first = c.put_first.ensures h.place s h.holds can in
    let at = best_stays h.place s found.thread best.thread best.slot cpu h.placed is best_is
    (in_place g.R.Ready.stands c.args.self.now s h best best_there) in
    let behind = ready_first s found.thread cpu in
    let less : nat_lt best.thread.priority found.thread.priority ≡ true =
    lt-ltb best.thread.priority found.thread.priority
    (omega (arith, c.number.ensures.same, c.number-2.ensures.same, c.if-number.false)) in
    let did : dispatches s cpu ≡ Some (dispatches_it behind cpu best.thread) =
    rw (is, best_is, less) refl in
    dispatched g.R.Ready.stands s cpu (dispatches s cpu) (Some c.run.result) c.run.new.self
    c.run.new.cpu (dispatches_it behind cpu best.thread) did (ap Some c.run.ensures.id)
    (record {
      place = h.place;
      holds = c.run.ensures.state h.place behind first at;
      placed = ((keeps_places s h.placed).dispatches cpu _ tt did).0;
    })
    c.run.ensures.registers
