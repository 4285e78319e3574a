use Rattle.iop_kernel.proofs.Bodies.Standing.{holds_with}
use Rattle.iop_kernel.proofs.Placing.Basics.{stand_on, places, moves, keeps}
use Rattle.iop_kernel.proofs.kernel.Kernel.end_running.Goals as goal

pub returns : goal.returns
returns g c = λ k h.
    record {
      holds = holds_with g.R.Ready.stands h.holds (c.end_running.ensures k.threads h.holds.threads);
      placed =
          stand_on k h.placed (places k h.placed).ends_running (moves k h.placed).ends_running
          (keeps k h.placed).ends_running;
    }
