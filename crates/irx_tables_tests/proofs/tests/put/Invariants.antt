use Rattle.std.proofs.Common.{◌≡◌, length}
use Rattle.irx_tables_tests.proofs.tests.put.Given as goal

abbrev pub invariant-loop-word : goal.invariant-loop-word
invariant-loop-word g l = length l.ram ≡ length l.fn.ram
