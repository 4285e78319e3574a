-- A call of a library faults at a bad address alone.
use Rattle.std.proofs.Common.{◌≡◌, ℕ, true, is_some, List}
use Rattle.std.specs.Prelude.{⊤}
use Rattle.iop_base.specs.Piece.{Piece}
use Rattle.iop_base.specs.declared.guest_fault.GuestFault.{GuestFault}
use Rattle.iop_base.specs.declared.guest_fault.GuestFault.TheVariants.{Address}
use Rattle.iop_kernel.specs.Laws.{LibrariesFaultAtAddresses}
use Rattle.iop_kernel.specs.System.{System, caller}
use Rattle.iop_kernel.specs.declared.after.After.{After}
use Rattle.iop_kernel.specs.declared.after.After.TheVariants.{Fault}
use Rattle.iop_kernel_laws.proofs.Keeping.Outcomes.{Nothing, services_end}
use Rattle.iop_kernel.proofs.Walk.Moves.{Moves}
use Rattle.iop_kernel.proofs.Walk.Services.{library_goes, asked_active}

-- if it is a fault, it is one of an address
abbrev AtAddress : After → System → List Piece → Type 0
AtAddress after left pieces = (kind : GuestFault) → after ≡ Fault kind → kind ≡ Address

-- a thread calls
abbrev Called : System → Type 0
Called s = is_some (caller s.core) ≡ true

module _ (s : System) where
  at_address : (library : ℕ) → Moves Nothing AtAddress (Called s) s library
  at_address =
      services_end AtAddress (Called s) ⊤ s (λ d leave kind is. absurd (cc is))
      (λ word leave kind is. absurd (cc is)) (λ d given kind is. absurd (cc is)) (λ kind is. cc is)
      (λ calls none kind is. absurd (cc (calls, none)))

pub libraries_fault_at_addresses : LibrariesFaultAtAddresses
libraries_fault_at_addresses s library number kind active =
    library_goes library number (at_address s library) tt (asked_active s active) kind
