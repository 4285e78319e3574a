-- The tables of libraries have their headers in RAM exactly where the test passes.
use Rattle.std.proofs.Common.{◌≡◌, ℕ, ◌+◌, ◌≤◌, true, List, arith, refl}
use Rattle.std.specs.Prelude.{All}
use Rattle.std.specs.List.{list_all}
use Rattle.std.proofs.lemmas.Bool.{le-leb, leb-true}
use Rattle.std.proofs.lemmas.List.Elements.{All-weaker}
use Rattle.iop_machine.specs.Loader.{has_header}
use Rattle.iop_registry.specs.KernelLibraries.{kernel_libraries}
use Rattle.iop_registry.specs.declared.registry.Entry.{Entry}
use Rattle.iop_saved_checks.proofs.Lists.{all_pass, each_is}
use Rattle.iop_sysmem.specs.declared.blocks.TheConstants.{KERNEL}
use Rattle.irx_tables.specs.declared.words.TheConstants.{HEADER_BYTES}

abbrev HasHeader : ℕ → Entry → Type 0
HasHeader size entry = entry.table + HEADER_BYTES ≤ size

pub headers_pass : (size : ℕ) (entries : List Entry) → All (HasHeader size) entries
    → list_all (has_header size) entries ≡ true
headers_pass size = all_pass (has_header size) (HasHeader size) (λ entry is. le-leb _ _ is)

pub headers_of : (size : ℕ) (entries : List Entry) → list_all (has_header size) entries ≡ true
    → All (HasHeader size) entries
headers_of size = each_is (has_header size) (HasHeader size) (λ entry is. leb-true _ _ is)

-- those of the kernel's own libraries stand in its block
pub kernels_headers : (size : ℕ) → KERNEL.size ≤ size → All (HasHeader size) kernel_libraries
kernels_headers size large =
    All-weaker (HasHeader KERNEL.size) (HasHeader size) (λ entry is. omega (arith, is, large))
    kernel_libraries (headers_of KERNEL.size kernel_libraries refl)
