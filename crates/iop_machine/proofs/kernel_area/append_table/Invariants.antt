use Rattle.std.proofs.Common.{◌≡◌, ◌+◌, ◌*◌, ◌++◌}
use Rattle.arrayvec.specs.ArrayVec.{array_vec_len}
use Rattle.iop_machine.specs.KernelArea.{each, function_of}
use Rattle.iop_machine.proofs.kernel_area.append_table.Given as goal

abbrev pub invariant-loop-number : goal.invariant-loop-number
invariant-loop-number g l = record {
  bytes : l.tables.items ≡ l.initial.tables.items ++ each (function_of l.library) l.number;
  long : array_vec_len l.tables ≡ array_vec_len l.initial.tables + 4 * l.number;
}
