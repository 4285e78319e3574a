-- No more threads wait for the objects of a kind than can: each waits for one at most.
use Rattle.std.proofs.Common.{◌≤◌, is_some, Option, Some, None, arith}
use Rattle.std.specs.Prelude.{option_and_then}
use Rattle.iop_base.specs.Numbers.{one_if}
use Rattle.iop_objects.specs.Laws.{threads_waiting}
use Rattle.iop_objects.specs.Objects.{waiting}
use Rattle.iop_objects.specs.declared.objects.TheConstants.{MOST_WAITERS}
use Rattle.iop_thread.specs.States.{wait_in}
use Rattle.iop_thread.specs.ThreadTable.{thread_of}
use Rattle.iop_thread.specs.Waits.{wait_of}
use Rattle.iop_thread.specs.declared.kind.Kind.{Kind}
use Rattle.iop_thread.specs.declared.thread.Thread.{Thread}
use Rattle.iop_thread.specs.declared.wait.Wait.{Wait}
use Rattle.iop_kernel.specs.Kinds.{table}
use Rattle.iop_kernel.specs.Placing.{IsPlaced}
use Rattle.iop_kernel.specs.System.{Kernel}
use Rattle.iop_kernel.proofs.Placing.Live.{few}
use Rattle.iop_kernel.proofs.Placing.Rooms.{waits_once, length-waiting}

-- one that waits is live
waits_live : (o : Option Thread)
    → one_if (is_some (option_and_then (λ t. wait_in t.state) o)) ≤ one_if (is_some o)
waits_live None = omega arith
waits_live (Some t) = by (wait_in t.state)
  where
    by : (wait : Option Wait) → one_if (is_some wait) ≤ 1
    by None = omega arith
    by (Some wait) = omega arith

pub few_wait : (k : Kernel) → IsPlaced k → (kind : Kind) → waiting (table kind k) ≤ MOST_WAITERS
few_wait k placed kind =
    let o = table kind k in
    let s = k.threads in
    let h = placed.objects kind in
    let less = few s.live (threads_waiting o) (λ t. omega (
      arith,
      waits_once kind t o.live h.sound.ids (wait_of s t) (λ id. h.waiters id t),
      waits_live (thread_of s.live t),
    )) in
    omega (arith, less, length-waiting o.live, placed.threads.ids.few)
