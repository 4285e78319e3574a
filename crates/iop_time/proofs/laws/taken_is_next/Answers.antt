use Rattle.iop_time.proofs.Results.{taken_is_next}
use Rattle.iop_time.proofs.laws.taken_is_next.Goals as goal

pub returns : goal.returns
returns c = λ timers t h. taken_is_next timers h t
