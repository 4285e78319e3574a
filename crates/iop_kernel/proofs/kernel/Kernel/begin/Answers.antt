use Rattle.iop_kernel.proofs.Bodies.Standing.{holds_with}
use Rattle.iop_kernel.proofs.Placing.Basics.{stand_on, places, moves, keeps}
use Rattle.iop_kernel.proofs.kernel.Kernel.begin.Goals as goal

pub returns : goal.returns
returns g c = λ k h.
    record {
      holds = holds_with g.R.Ready.stands h.holds (c.begin.ensures k.threads h.holds.threads);
      placed = let registers = c.args.registers.now in
          stand_on k h.placed ((places k h.placed).begins registers tt)
          ((moves k h.placed).begins registers) ((keeps k h.placed).begins registers);
    }
