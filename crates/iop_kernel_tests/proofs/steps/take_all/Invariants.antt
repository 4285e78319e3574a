-- The kernel stays sound, and has made as many alarms as services were called at most.
use Rattle.std.proofs.Common.{◌+◌, ◌≤◌}
use Rattle.iop_ready.specs.KernelReady.{KernelStands}
use Rattle.iop_kernel.specs.Standing.{IsSound}
use Rattle.iop_kernel_tests.proofs.steps.take_all.Given as goal

abbrev pub invariant-loop-step : goal.invariant-loop-step
invariant-loop-step g l =
    IsSound KernelStands l.world.kernel × (l.world.kernel.timers.next ≤ l.world.calls + 1)
