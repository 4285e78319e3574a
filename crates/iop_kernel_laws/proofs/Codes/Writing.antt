-- Loadcore, sysmem and stdio write nothing.
use Rattle.std.proofs.Common.{◌≡◌, ℕ, false, Option, Some, None, Result, Ok, Err, refl, ap, ◌∙◌}
use Rattle.std.proofs.lemmas.Bool.{cond_both}
use Rattle.iop_base.specs.declared.guest_fault.GuestFault.{GuestFault}
use Rattle.iop_libs.specs.Calls as libs
use Rattle.iop_services.proofs.Rows.{home, row_home}
use Rattle.iop_services.specs.Table.{row_of, allows}
use Rattle.iop_services.specs.declared.row.Row.{Row}
use Rattle.iop_services.specs.declared.service.Service.{Service}
use Rattle.iop_services.specs.declared.service.Service.TheVariants.{Loadcore, Sysmem, Intrman, Thbase, Thsemap, Thevent, Thmsgbx, Stdio, Thvpool, Thfpool, Sysclib}
use Rattle.iop_kernel_laws.specs.CodeLaws.{writes_memory}
use Rattle.iop_kernel.specs.Serving.{sight, answers_or_faults, serves, calls_row, calls_library}
use Rattle.iop_kernel.specs.System.{System, Served, in_handler}

module _ (s : System) where
  -- what a service answers leaves memory
  answered_memory : (t : System) (r : Result ℕ GuestFault)
      → (answers_or_faults t r).state.memory ≡ t.memory
  answered_memory t (Ok word) = refl
  answered_memory t (Err kind) = refl

  serves_nothing : (x : Service) → writes_memory (home x) ≡ false
      → (serves s x).left.state.memory ≡ s.memory
  unfolding serves
  serves_nothing (Loadcore x) apart =
      let done = libs.serves_loadcore (sight s) s.libraries x in
      answered_memory (record s { libraries = done.1 }) done.0
  serves_nothing (Sysmem x) apart = refl
  serves_nothing (Stdio x) apart = refl
  serves_nothing (Intrman x) apart = absurd (cc apart)
  serves_nothing (Thbase x) apart = absurd (cc apart)
  serves_nothing (Thsemap x) apart = absurd (cc apart)
  serves_nothing (Thevent x) apart = absurd (cc apart)
  serves_nothing (Thmsgbx x) apart = absurd (cc apart)
  serves_nothing (Thvpool x) apart = absurd (cc apart)
  serves_nothing (Thfpool x) apart = absurd (cc apart)
  serves_nothing (Sysclib x) apart = absurd (cc apart)

  row_writes_nothing : (library number : ℕ) (o : Option Row) → row_of library number ≡ o
      → writes_memory library ≡ false → (calls_row library number s o).left.state.memory ≡ s.memory
  row_writes_nothing library number None found apart = refl
  row_writes_nothing library number (Some row) found apart =
      cond_both (allows row.context (in_handler s.core.kernel)) _ _
      (λ (d : Served). d.left.state.memory ≡ s.memory)
      (λ allowed. serves_nothing row.service
      (ap writes_memory (row_home library number row found) ∙ apart))
      (λ elsewhere. refl)

  pub library_writes_nothing : (library number : ℕ) → writes_memory library ≡ false
      → (calls_library library number s).left.state.memory ≡ s.memory
  unfolding calls_library
  library_writes_nothing library number =
      row_writes_nothing library number (row_of library number) refl
