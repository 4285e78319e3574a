-- What a code leaves of the objects of a kind where it calls no service of their library.
use Rattle.std.proofs.Common.{◌≡◌, ℕ, ◌==◌, false, Option, Some, None, refl, ap, sym, ◌∙◌, subst}
use Rattle.iop_services.proofs.Rows.{home, row_home}
use Rattle.iop_services.specs.Table.{row_of}
use Rattle.iop_services.specs.declared.row.Row.{Row}
use Rattle.iop_services.specs.declared.service.Service.{Service}
use Rattle.iop_services.specs.declared.service.Service.TheVariants.{Thsemap, Thevent, Thmsgbx, Thvpool, Thfpool}
use Rattle.iop_thread.specs.declared.kind.Kind.{Kind}
use Rattle.iop_thread.specs.declared.kind.Kind.TheVariants.{Semaphore, EventFlag, Mailbox, VariablePool, FixedPool}
use Rattle.iop_kernel_laws.specs.CodeLaws.{is_of_kind, calls_kind, KeepsObjects, CodeStaysApart}
use Rattle.iop_kernel_laws.specs.Histories.{called_by, called_of, called}
use Rattle.iop_kernel.specs.Kinds.{library_of, table}
use Rattle.iop_kernel.specs.Serving.{call_of, calls_row, calls_library, calls, services}
use Rattle.iop_kernel.specs.System.{Kernel, System}
use Rattle.iop_kernel.specs.declared.call.Call.{Call}
use Rattle.iop_kernel.specs.declared.call.Call.TheVariants.{Library, ThreadReturn, HandlerReturn, ModuleReturn}
use Rattle.iop_kernel_laws.proofs.Codes.Apart.{codes_stay_apart}
use Rattle.iop_kernel_laws.proofs.Placing.ObjectsKept.{same_objects}

-- a service that is none of a kind's library is of another one
other_home : (kind : Kind) (x : Service) → is_of_kind kind x ≡ false
    → (home x == library_of kind) ≡ false
other_home Semaphore (Thsemap x) other = absurd (cc other)
other_home EventFlag (Thevent x) other = absurd (cc other)
other_home Mailbox (Thmsgbx x) other = absurd (cc other)
other_home VariablePool (Thvpool x) other = absurd (cc other)
other_home FixedPool (Thfpool x) other = absurd (cc other)
other_home Semaphore x other = refl
other_home EventFlag x other = refl
other_home Mailbox x other = refl
other_home VariablePool x other = refl
other_home FixedPool x other = refl

module _ (kind : Kind) (s : System) where
  abbrev left_by : Option Call → Kernel
  left_by call = (calls s call).left.state.core.kernel

  abbrev Kept : Kernel → Type 0
  Kept left = KeepsObjects (table kind s.core.kernel) (table kind left)

  -- by the row of a number: one that is not listed changes nothing
  by_row : (library number : ℕ) (o : Option Row) → row_of library number ≡ o
      → CodeStaysApart s (Some (Library library number)) (calls_library library number s).left.state
      → calls_kind kind (called_by s (calls_library library number s) o) ≡ false
      → Kept (left_by (Some (Library library number)))
  unfolding calls_library
  by_row library number None found h other =
      subst (KeepsObjects (table kind s.core.kernel))
      (sym (ap (λ o. table kind (calls_row library number s o).left.state.core.kernel) found))
      (same_objects (table kind s.core.kernel))
  by_row library number (Some row) found h other =
      h.objects kind
      (ap (λ n. n == library_of kind) (sym (row_home library number row found))
      ∙ other_home kind row.service other)

  -- by what is called
  by_call : (call : Option Call) → CodeStaysApart s call (calls s call).left.state
      → calls_kind kind (called_of s (calls s call) call) ≡ false → Kept (left_by call)
  by_call None h other = h.objects kind refl
  by_call (Some ThreadReturn) h other = h.objects kind refl
  by_call (Some HandlerReturn) h other = h.objects kind refl
  by_call (Some ModuleReturn) h other = h.objects kind refl
  by_call (Some (Library library number)) h other =
      by_row library number (row_of library number) refl h other

  pub code_keeps_objects : (code : ℕ) → calls_kind kind (called s code) ≡ false
      → Kept (services s code).left.state.core.kernel
  unfolding called
  code_keeps_objects code = by_call (call_of code) (codes_stay_apart s code)
