use Rattle.std.proofs.Common.{sym}
use Rattle.iop_thread.proofs.threads.Threads.next_id.Goals as goal

pub returns : goal.returns
returns g c = λ s h. sym h.holds.next
