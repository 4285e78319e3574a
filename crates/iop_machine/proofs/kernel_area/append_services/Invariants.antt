use Rattle.std.proofs.Common.{◌≡◌, ◌+◌, ◌*◌, ◌++◌}
use Rattle.arrayvec.specs.ArrayVec.{array_vec_len}
use Rattle.iop_machine.specs.KernelArea.{each, service_of}
use Rattle.iop_machine.proofs.kernel_area.append_services.Given as goal

abbrev pub invariant-loop-number : goal.invariant-loop-number
invariant-loop-number l = record {
  bytes : l.services.items ≡ l.initial.services.items ++ each (service_of l.library) l.number;
  long : array_vec_len l.services ≡ array_vec_len l.initial.services + 16 * l.number;
}
