use Rattle.iop_modload.proofs.FinishingLemmas.{finishing_keeps}
use Rattle.iop_modload.proofs.laws.finishing_keeps_memory.Goals as goal

pub returns : goal.returns
returns c = λ t memory blocks libraries k loaded value h.
    finishing_keeps t memory blocks libraries h k loaded value
