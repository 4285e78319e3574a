use Rattle.std.proofs.Common.{◌≡◌, true, ap, sym, ◌∙◌, arith, rules}
use Rattle.iop_ready.specs.KernelReady.{KernelStands}
use Rattle.iop_time.specs.Timers.{Timers}
use Rattle.iop_kernel_laws.proofs.Worlds.{next_served}
use Rattle.iop_kernel_tests.proofs.world.World.call.Goals as goal

pub service-after-requires-clause-active : goal.service-after-requires-clause-active
service-after-requires-clause-active g c =
    let k = c.requires.sound.0 in
    let stands = c.requires.sound.1 in
    let active : c.active.result ≡ true = search rules in
    (k, stands, sym (c.active.ensures k stands) ∙ active)

pub service-after-requires-clause-number : goal.service-after-requires-clause-number
service-after-requires-clause-number g c = omega arith

pub returns : goal.returns
returns g c =
    let k = c.requires.sound.0 in
    let stands = c.requires.sound.1 in
    let active : c.active.result ≡ true = search rules in
    let told = c.service-after.ensures k stands in
    record {
      sound = (_, record { holds = told.served.core.kernel; placed = told.placed });
      few = omega (
        arith,
        next_served KernelStands _ c.args.code _ _ _ _ _ _ _
            (sym (c.active.ensures k stands) ∙ active) told,
        ap (λ (t : Timers). t.next) stands.holds.timers,
        c.requires.few,
      );
    }
