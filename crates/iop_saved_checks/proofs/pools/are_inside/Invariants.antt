use Rattle.std.proofs.Common.{◌≡◌, drop, length}
use Rattle.std.specs.List.{list_all}
use Rattle.iop_saved_checks.specs.Made.{is_inside}
use Rattle.iop_saved_checks.proofs.pools.are_inside.Given as goal

abbrev pub invariant-loop-place : goal.invariant-loop-place
invariant-loop-place g l =
    list_all (is_inside (length l.ram)) (drop l.place (g.T.Pooled.pools l.table))
    ≡ list_all (is_inside (length l.ram)) (g.T.Pooled.pools l.table)
