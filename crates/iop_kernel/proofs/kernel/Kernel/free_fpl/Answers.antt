use Rattle.std.proofs.Common.{◌≡◌, Some, refl, sym, ◌∙◌}
use Rattle.std.specs.Prelude.{Ok}
use Rattle.iop_pools.specs.FixedPools.{gives}
use Rattle.iop_kernel.proofs.Bodies.Standing.{over, told, holds_fixed}
use Rattle.iop_kernel.proofs.kernel.Kernel.free_fpl.Goals as goal

pub wake_with-requires : goal.wake_with-requires
wake_with-requires g c =
    record { sound = (_, holds_fixed g.R.Ready.stands c.requires.sound.1 refl) }

pub returns-in-Ok-Some : goal.returns-in-Ok-Some
returns-in-Ok-Some g c = over g.R.Ready.stands _ (λ t h.
    let did = gives c.args.self.now.fixed_pools c.args.id c.args.block in
    let arm = c.in-Ok-Some in
    let answer : Ok (Some arm.thread) ≡ did.0 =
    sym (rw arm.field-0-is at arm.is) ∙ c.give.ensures.answer in
    rw (told did answer) (record {
      answer = c.answer.ensures.after;
      kernel = c.wake_with.ensures _ c.args.cpu.now
          (holds_fixed g.R.Ready.stands h (sym c.give.ensures.left));
      processor = c.answer.ensures.processor;
    }))
