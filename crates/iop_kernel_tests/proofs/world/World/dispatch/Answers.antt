use Rattle.std.proofs.Common.{ap, arith}
use Rattle.iop_ready.specs.KernelReady.{KernelStands}
use Rattle.iop_time.specs.Timers.{Timers}
use Rattle.iop_kernel.specs.Dispatching.{dispatches}
use Rattle.iop_kernel.specs.Standing.{core}
use Rattle.iop_kernel.proofs.Bodies.Standing.{sound_after_dispatch}
use Rattle.iop_kernel_laws.proofs.Worlds.{next_dispatched}
use Rattle.iop_kernel_tests.proofs.world.World.dispatch.Goals as goal

pub returns : goal.returns
returns c =
    let k = c.requires.sound.0 in
    let stands = c.requires.sound.1 in
    let now = core k c.args.self.now.cpu in
    let did = c.dispatch-taken.ensures k stands in
    record {
      sound = sound_after_dispatch KernelStands now (dispatches now) _ _ _ _ did;
      few = omega (
        arith,
        next_dispatched KernelStands now _ _ _ _ _ did,
        ap (λ (t : Timers). t.next) stands.holds.timers,
        c.requires.few,
      );
    }
