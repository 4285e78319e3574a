use Rattle.std.proofs.Common.{◌≡◌, ◌+◌, ◌-◌, ◌%◌, ◌≤◌}
use Rattle.irx_tables.specs.Imports.{tables_from, tables_of}
use Rattle.iop_linker.proofs.checking.bad_table.Given as goal

abbrev pub invariant-loop-import : goal.invariant-loop-import
invariant-loop-import l = record {
  aligned : l.scan % 4 ≡ 0;
  after : l.from ≤ l.scan;
  before : l.scan ≤ l.from + l.len;
  bad : (tables_from l.ram (l.from + l.len) l.scan).bad ≡ (tables_of l.ram l.from l.len).bad;
}

abbrev pub decreases-loop-import : goal.decreases-loop-import
decreases-loop-import l = l.from + l.len - l.scan
