use Rattle.std.proofs.Common.{refl}
use Rattle.iop_snapshot.proofs.Putting.{puts_each}
use Rattle.iop_thread.specs.Restoring.{may_follow, with_last, with_threads_back, may_be_listed, with_last_ready, with_ready_back}
use Rattle.iop_saved_threads.proofs.laws.threads_are_put_back.Goals as goal

pub returns : goal.returns
returns c = record {
  live = puts_each may_follow with_last with_threads_back (λ s. refl) (λ s t ts. refl);
  ready = puts_each may_be_listed with_last_ready with_ready_back (λ s. refl) (λ s id ids. refl);
}
