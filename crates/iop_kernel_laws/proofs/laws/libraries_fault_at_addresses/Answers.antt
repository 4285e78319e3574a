use Rattle.iop_kernel_laws.proofs.Keeping.Faulting.{libraries_fault_at_addresses}
use Rattle.iop_kernel_laws.proofs.laws.libraries_fault_at_addresses.Goals as goal

pub returns : goal.returns
returns c = libraries_fault_at_addresses
