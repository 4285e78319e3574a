use Rattle.std.proofs.Common.{◌≡◌, drop}
use Rattle.std.specs.List.{list_all}
use Rattle.iop_kernel.specs.Placing.{is_for_delay}
use Rattle.iop_kernel.specs.Standing.{Holds}
use Rattle.iop_kernel.specs.System.{Kernel}
use Rattle.iop_saved_checks.specs.Threads.{delays_agree}
use Rattle.iop_saved_checks.proofs.threads.delays_agree.Given as goal
use Rattle.iop_thread.specs.Waits.{wait_of}

abbrev pub invariant-loop-delay : goal.invariant-loop-delay
invariant-loop-delay g l =
    (k : Kernel) → Holds g.R.Ready.stands l.kernel k
    → list_all (λ delay. is_for_delay (wait_of k.threads delay.thread))
    (drop l.delay-index l.delay-items)
    ≡ delays_agree k
