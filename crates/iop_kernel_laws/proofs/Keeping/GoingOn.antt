-- Who calls goes on, or the `syscall` faults, but for what may leave its caller.
use Rattle.std.proofs.Common.{◌≡◌, ℕ, Bool, false, not, ◌&&◌, is_some, Option, Some, None, List, refl, ap, sym, ◌∙◌}
use Rattle.std.specs.Prelude.{⊤}
use Rattle.std.proofs.lemmas.Bool.{cond_both}
use Rattle.iop_base.specs.Piece.{Piece}
use Rattle.iop_services.specs.Table.{row_of, allows}
use Rattle.iop_services.specs.declared.row.Row.{Row}
use Rattle.iop_services.specs.declared.service.Service.{Service}
use Rattle.iop_services.proofs.Rows.{home}
use Rattle.iop_kernel.specs.Callers.{may_leave, has_left, row_may_leave, call_may_leave, CallersGoOn}
use Rattle.iop_kernel.specs.Handlers.{returns_handler}
use Rattle.iop_kernel.specs.Serving.{call_of, serves, calls_row, calls_library, calls}
use Rattle.iop_kernel.specs.System.{Core, Left, System, in_handler, caller_beside}
use Rattle.iop_kernel.specs.ThreadStarts.{exits_by, returns_by}
use Rattle.iop_kernel.specs.declared.active_handler.ActiveHandler.{ActiveHandler}
use Rattle.iop_kernel.specs.declared.after.After.{After}
use Rattle.iop_kernel.specs.declared.call.Call.{Call}
use Rattle.iop_kernel.specs.declared.call.Call.TheVariants.{Library, ThreadReturn, HandlerReturn, ModuleReturn}
use Rattle.iop_kernel_laws.proofs.Keeping.Outcomes.{Nothing, services_end}
use Rattle.iop_kernel.proofs.Walk.Moves.{ServiceMoves, Ends}
use Rattle.iop_kernel.proofs.Walk.Services.{serves_goes}

-- its caller goes on, or it faults
abbrev CallerGoesOn : After → System → List Piece → Type 0
CallerGoesOn after left pieces = has_left after ≡ false

module _ (s : System) where
  -- none may leave its caller
  going_on : (library : ℕ) → ServiceMoves Nothing CallerGoesOn ⊤ s ⊥ library
  going_on =
      services_end CallerGoesOn ⊤ ⊥ s (λ d leave. absurd leave) (λ word leave. absurd leave)
      (λ d given. refl) refl (λ asks none. refl)

  abbrev handling : Bool
  handling = in_handler s.core.kernel

  -- a service that may not
  service_goes_on : (x : Service) → may_leave x ≡ false → Ends CallerGoesOn (serves s x)
  service_goes_on x stays =
      serves_goes x (going_on (home x)) (λ asked. tt) (λ leaves. absurd (cc (leaves, stays)))

  -- by the row of a number
  row_goes_on : (library number : ℕ) (o : Option Row) → row_may_leave handling o ≡ false
      → Ends CallerGoesOn (calls_row library number s o)
  row_goes_on library number None stays = refl
  row_goes_on library number (Some row) stays =
      cond_both (allows row.context handling) _ _ (Ends CallerGoesOn)
      (λ allowed. service_goes_on row.service
      (ap (λ b. b && may_leave row.service) (sym allowed) ∙ stays))
      (λ elsewhere. refl)

  library_goes_on : (library number : ℕ) → row_may_leave handling (row_of library number) ≡ false
      → Ends CallerGoesOn (calls_library library number s)
  unfolding calls_library
  library_goes_on library number = row_goes_on library number (row_of library number)

  -- where a handler runs no thread calls, and none returns
  thread_goes_on : (left : Option ℕ → Left Core) → has_left (left None).after ≡ false
      → (o : Option ActiveHandler) → not (is_some o) ≡ false
      → has_left (left (caller_beside o s.core.kernel.threads.running)).after ≡ false
  thread_goes_on left none None stays = absurd (cc stays)
  thread_goes_on left none (Some handler) stays = none

  -- where none does, none returns
  handler_goes_on : (o : Option ActiveHandler) → is_some o ≡ false
      → has_left (returns_handler s.core o).after ≡ false
  handler_goes_on None stays = refl
  handler_goes_on (Some handler) stays = absurd (cc stays)

  -- by what is called
  call_goes_on : (o : Option Call) → call_may_leave handling o ≡ false
      → Ends CallerGoesOn (calls s o)
  call_goes_on None stays = refl
  call_goes_on (Some ThreadReturn) stays =
      thread_goes_on (exits_by s.core) refl s.core.kernel.handler stays
  call_goes_on (Some HandlerReturn) stays = handler_goes_on s.core.kernel.handler stays
  call_goes_on (Some ModuleReturn) stays =
      thread_goes_on (returns_by s.core) refl s.core.kernel.handler stays
  call_goes_on (Some (Library library number)) stays = library_goes_on library number stays

pub callers_go_on : CallersGoOn
callers_go_on s code = call_goes_on s (call_of code)
