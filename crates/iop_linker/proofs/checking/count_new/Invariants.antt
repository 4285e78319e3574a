use Rattle.std.proofs.Common.{◌≡◌, ◌+◌, ◌-◌, ◌*◌, ◌%◌, ◌≤◌, length}
use Rattle.irx_tables.specs.Imports.{tables_from, tables_of}
use Rattle.iop_linker.specs.Linking.{first_without_library, new_stubs}
use Rattle.iop_linker.proofs.checking.count_new.Given as goal

abbrev pub invariant-loop-import : goal.invariant-loop-import
invariant-loop-import l = record {
  aligned : l.scan % 4 ≡ 0;
  after : l.from ≤ l.scan;
  before : l.scan ≤ l.from + l.len;
  few : 8 * l.count ≤ l.scan - l.from;
  without : first_without_library l.registry (tables_from l.ram (l.from + l.len) l.scan).whole
      ≡ first_without_library l.registry (tables_of l.ram l.from l.len).whole;
  counts : l.count + length
      (new_stubs l.ram l.registry (tables_from l.ram (l.from + l.len) l.scan).whole)
      ≡ length (new_stubs l.ram l.registry (tables_of l.ram l.from l.len).whole);
}

abbrev pub decreases-loop-import : goal.decreases-loop-import
decreases-loop-import l = l.from + l.len - l.scan
