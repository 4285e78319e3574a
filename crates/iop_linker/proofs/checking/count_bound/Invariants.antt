use Rattle.std.proofs.Common.{◌≡◌, ◌+◌, ◌/◌, ◌≤◌, length}
use Rattle.irx_tables.specs.Exports.{functions}
use Rattle.iop_linker.specs.Linking.{bound_stubs}
use Rattle.iop_linker.specs.Underway.{import_stubs}
use Rattle.iop_linker.proofs.Bound.{later_stubs}
use Rattle.iop_linker.proofs.checking.count_bound.Given as goal

abbrev pub invariant-loop-i : goal.invariant-loop-i
invariant-loop-i l = record {
  few : l.count ≤ l.i;
  counts : l.count + length
      (bound_stubs l.import.name (l.import.version / 256) (functions l.ram l.table)
      (later_stubs l.ram l.import l.i))
      ≡ length (bound_stubs l.import.name (l.import.version / 256) (functions l.ram l.table)
      (import_stubs l.ram l.import));
}
