use Rattle.std.proofs.Common.{◌∙◌, sym, ap}
use Rattle.std.specs.List.{list_all}
use Rattle.iop_kernel.specs.Placing.{is_for_delay}
use Rattle.iop_saved_checks.specs.Threads.{delays_agree}
use Rattle.iop_saved_checks.proofs.threads.delays_agree.Goals as goal
use Rattle.iop_thread.specs.Waits.{wait_of}

pub loop-delay-init : goal.loop-delay-init
unfolding delays_agree
loop-delay-init g c k h =
    ap (list_all (λ delay. is_for_delay (wait_of k.threads delay.thread)))
    (c.delays-delay-items.ensures.delays ∙ ap (λ timers. timers.delays) (sym h.timers))
