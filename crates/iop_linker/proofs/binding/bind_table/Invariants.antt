use Rattle.iop_linker.proofs.Bound.{IsBinding}
use Rattle.iop_linker.proofs.binding.bind_table.Given as goal

abbrev pub invariant-loop-i : goal.invariant-loop-i
invariant-loop-i l = IsBinding l.text.from l.text.len l.import l.table l.fn.guest l.guest l.i
