use Rattle.std.proofs.Common.{refl, sym, ◌∙◌}
use Rattle.iop_kernel.proofs.Bodies.Standing.{over, holds_variable}
use Rattle.iop_kernel.proofs.kernel.Kernel.wait_for_memory.Goals as goal

pub wait-requires-2 : goal.wait-requires-2
wait-requires-2 g c =
    record { sound = (_, holds_variable g.R.Ready.stands c.requires.sound.1 refl) }

pub returns : goal.returns
returns g c = over g.R.Ready.stands _ (λ t h.
    rw (sym (c.caller.ensures.id _ h) ∙ c.in-Some.is, ← c.priority_of-priority.ensures _ h)
    (c.wait-2.ensures _ (holds_variable g.R.Ready.stands h (sym c.wait.ensures))))
