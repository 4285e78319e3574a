use Rattle.std.proofs.Common.{◌≡◌, ◌+◌, ◌-◌, ◌%◌, ◌≤◌}
use Rattle.irx_tables.specs.Imports.{tables_from, tables_of}
use Rattle.irx_view.proofs.text.Text.bad_import.Given as goal

abbrev pub invariant-loop-import : goal.invariant-loop-import
invariant-loop-import l = record {
  aligned : l.scan % 4 ≡ 0;
  before : l.scan ≤ l.self.size;
  bad : (tables_from l.self.ram (0 + l.self.size) l.scan).bad
      ≡ (tables_of l.self.ram 0 l.self.size).bad;
}

abbrev pub decreases-loop-import : goal.decreases-loop-import
decreases-loop-import l = l.self.size - l.scan
