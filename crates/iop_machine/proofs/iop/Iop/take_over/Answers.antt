use Rattle.iop_machine.proofs.StandingLemmas.{stands_with_core}
use Rattle.iop_machine.proofs.iop.Iop.take_over.Goals as goal

pub returns : goal.returns
returns c =
    rw (← c.standing_at-self.ensures)
    (stands_with_core c.args.self.now c.standing_at-self.result c.advance.new.self
    (λ k. record k { clock = c.args.clock }) c.advance.ensures)
