use Rattle.std.proofs.Common.{refl, sym, ◌∙◌}
use Rattle.iop_kernel.proofs.Bodies.Standing.{over, holds_timers}
use Rattle.iop_kernel.proofs.kernel.Kernel.wait_until.Goals as goal

pub wait-requires : goal.wait-requires
wait-requires g c = record { sound = (_, holds_timers g.R.Ready.stands c.requires.sound.1 refl) }

pub returns : goal.returns
returns g c = over g.R.Ready.stands _ (λ t h.
    rw (sym (c.caller.ensures.id _ h) ∙ c.in-Some.is)
    (c.wait.ensures _ (holds_timers g.R.Ready.stands h (sym c.delay.ensures.timers))))
