use Rattle.std.proofs.Common.{◌≡◌, Some, refl, sym, ◌∙◌}
use Rattle.std.specs.Prelude.{Ok}
use Rattle.iop_sema.specs.Semaphores.{signals}
use Rattle.iop_kernel.proofs.Bodies.Standing.{over, told, holds_semaphores}
use Rattle.iop_kernel.proofs.kernel.Kernel.signal_sema.Goals as goal

pub wake-requires : goal.wake-requires
wake-requires g c =
    record { sound = (_, holds_semaphores g.R.Ready.stands c.requires.sound.1 refl) }

pub returns-in-Ok-Some : goal.returns-in-Ok-Some
returns-in-Ok-Some g c = over g.R.Ready.stands _ (λ t h.
    let did = signals c.args.self.now.semaphores c.args.id in
    let arm = c.in-Ok-Some in
    let answer : Ok (Some arm.thread) ≡ did.0 =
    sym (rw arm.field-0-is at arm.is) ∙ c.signal.ensures.answer in
    rw (told did answer) (record {
      answer = c.answer.ensures.after;
      kernel = c.wake.ensures _ c.args.cpu.now
          (holds_semaphores g.R.Ready.stands h (sym c.signal.ensures.left));
      processor = c.answer.ensures.processor;
    }))
