use Rattle.std.proofs.Common.{ap, arith}
use Rattle.iop_time.specs.Timers.{Timers}
use Rattle.iop_kernel.specs.System.{beginning}
use Rattle.iop_kernel_tests.proofs.world.World.new.Goals as goal

pub returns : goal.returns
returns c =
    let stands = c.begin.ensures beginning c.in_ok-kernel.ensures in
    record {
      sound = (_, stands);
      few = omega (arith, ap (λ (t : Timers). t.next) stands.holds.timers);
    }
