use Rattle.iop_ready.proofs.Holding.{holds_same, holds_any}
use Rattle.iop_ready.proofs.laws.queues_hold_one_list.Goals as goal

pub returns : goal.returns
returns c = record { same = holds_same; any = holds_any }
