use Rattle.iop_saved_kernel.proofs.BackAgain.{cores_tell}
use Rattle.iop_saved_kernel.proofs.laws.cores_tell_what_was_put.Goals as goal

pub returns : goal.returns
returns c = cores_tell (record {
  semaphores = c.semaphores_stay_restorable.ensures;
  event_flags = c.event_flags_stay_restorable.ensures;
  mailboxes = c.mailboxes_stay_restorable.ensures;
  pools = c.pools_stay_regular.ensures;
  timers = c.numbers_rise.ensures;
})
