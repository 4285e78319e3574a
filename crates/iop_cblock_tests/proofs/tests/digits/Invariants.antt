use Rattle.std.proofs.Common.{◌<◌, IfSome}
use Rattle.iop_cblock_tests.proofs.tests.digits.Given as goal

abbrev pub invariant-loop : goal.invariant-loop
invariant-loop l = IfSome l.at (λ node. node < l.arena.nodes)
