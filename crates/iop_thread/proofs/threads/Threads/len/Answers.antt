use Rattle.std.proofs.Common.{◌∙◌, sym}
use Rattle.iop_thread.proofs.threads.Threads.len.Goals as goal

pub returns-clause-count : goal.returns-clause-count
returns-clause-count g c = λ s h. c.len.ensures.count ∙ sym h.holds.count
