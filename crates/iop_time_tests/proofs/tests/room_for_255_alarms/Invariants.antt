use Rattle.std.proofs.Common.{◌+◌, ◌≤◌}
use Rattle.iop_time_tests.proofs.tests.room_for_255_alarms.Given as goal

abbrev pub invariant-loop-arg : goal.invariant-loop-arg
invariant-loop-arg g l = l.clock.next ≤ l.arg + 1
