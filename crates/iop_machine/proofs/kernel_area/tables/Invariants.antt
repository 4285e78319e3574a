use Rattle.std.proofs.Common.{◌≡◌, ◌*◌}
use Rattle.arrayvec.specs.ArrayVec.{array_vec_len}
use Rattle.iop_machine.specs.KernelArea.{tables}
use Rattle.iop_machine.proofs.kernel_area.tables.Given as goal

abbrev pub invariant-loop-library : goal.invariant-loop-library
invariant-loop-library g l = record {
  bytes : l.tables.items ≡ tables l.first l.library;
  long : array_vec_len l.tables ≡ 0x200 * l.library;
}
