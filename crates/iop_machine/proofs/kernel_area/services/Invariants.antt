use Rattle.std.proofs.Common.{◌≡◌, ◌*◌}
use Rattle.arrayvec.specs.ArrayVec.{array_vec_len}
use Rattle.iop_machine.specs.KernelArea.{each, services_of}
use Rattle.iop_machine.proofs.kernel_area.services.Given as goal

abbrev pub invariant-loop-library : goal.invariant-loop-library
invariant-loop-library l = record {
  bytes : l.services.items ≡ each services_of l.library;
  long : array_vec_len l.services ≡ 0x400 * l.library;
}
