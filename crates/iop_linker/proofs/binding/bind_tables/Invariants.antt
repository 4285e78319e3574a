use Rattle.std.proofs.Common.{◌+◌, ◌-◌}
use Rattle.iop_linker.proofs.Linked.{IsLinking}
use Rattle.iop_linker.proofs.binding.bind_tables.Given as goal

abbrev pub invariant-loop-import : goal.invariant-loop-import
invariant-loop-import l = IsLinking l.from l.len l.registry l.fn.guest l.guest l.scan

abbrev pub decreases-loop-import : goal.decreases-loop-import
decreases-loop-import l = l.from + l.len - l.scan
