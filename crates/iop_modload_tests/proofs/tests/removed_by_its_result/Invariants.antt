use Rattle.std.proofs.Common.{◌≡◌, length}
use Rattle.iop_modload_tests.proofs.tests.removed_by_its_result.Given as goal

abbrev pub invariant-loop-row : goal.invariant-loop-row
invariant-loop-row g l = l.blocks.size ≡ length l.guest.ram
