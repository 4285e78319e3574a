use Rattle.std.proofs.Common.{rules, ◌≡◌, sym, subst}
use Rattle.iop_registry.specs.Entries.{IsRegistry}
use Rattle.iop_registry.specs.KernelLibraries.{kernel_libraries}
use Rattle.iop_registry.proofs.KernelsOwn.{kernels_own}
use Rattle.iop_registry.proofs.registry.Registry.new.Goals as goal

-- the entries are the kernel's own
pub returns-clause-sound : goal.returns-clause-sound
returns-clause-sound c =
    let is : c.extend_from_slice.new.self.items ≡ kernel_libraries = search rules in
    subst IsRegistry (sym is) kernels_own

pub invariant_of-result : goal.invariant_of-result
invariant_of-result c =
    let is : c.extend_from_slice.new.self.items ≡ kernel_libraries = search rules in
    (subst IsRegistry (sym is) kernels_own, search rules)
