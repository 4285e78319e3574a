-- What holds after each service, and after each `syscall`, if it lasts over each small change.
use Rattle.std.proofs.Common.{◌≡◌, ℕ, true, is_some, Option, Some, None, List, refl, sym, subst}
use Rattle.std.specs.Prelude.{⊤}
use Rattle.std.proofs.lemmas.Bool.{cond_both}
use Rattle.iop_base.specs.Piece.{Piece}
use Rattle.iop_services.specs.Table.{row_of, allows}
use Rattle.iop_services.specs.declared.codes.TheConstants.{THBASE}
use Rattle.iop_services.specs.declared.row.Row.{Row}
use Rattle.iop_services.specs.declared.service.Service.{Service}
use Rattle.iop_services.specs.declared.service.Service.TheVariants.{Loadcore, Sysmem, Intrman, Thbase, Thsemap, Thevent, Thmsgbx, Stdio, Thvpool, Thfpool, Sysclib}
use Rattle.iop_services.proofs.Rows.{home, row_home}
use Rattle.iop_thread.specs.declared.kind.Kind.TheVariants as kinds
use Rattle.iop_kernel.specs.Handlers.{returns_handler}
use Rattle.iop_kernel.specs.Serving.{call_of, serves, calls_row, calls_library, calls, services}
use Rattle.iop_kernel.specs.System.{System, in_handler, is_active, caller}
use Rattle.iop_kernel.specs.declared.active_handler.ActiveHandler.{ActiveHandler}
use Rattle.iop_kernel.specs.declared.after.After.{After}
use Rattle.iop_kernel.specs.declared.call.Call.{Call}
use Rattle.iop_kernel.specs.declared.call.Call.TheVariants.{Library, ThreadReturn, HandlerReturn, ModuleReturn}
use Rattle.iop_kernel.proofs.Walk.Callers.{has_caller}
use Rattle.iop_kernel.proofs.Walk.Libraries.{IsAsked, IsLeft, loadcore_goes, sysmem_goes, stdio_goes, intrman_goes, thbase_goes, thsemap_goes, thevent_goes, thmsgbx_goes, thvpool_goes, thfpool_goes}
use Rattle.iop_kernel.proofs.Walk.Moves.{Moves, ServiceMoves, CallMoves, UnlistedLasts, CoreEnds, Ends}
use Rattle.iop_kernel.proofs.Walk.Sysclib.{sysclib_goes}
use Rattle.iop_kernel.proofs.Walk.Threads.{only, exits_go, returns_go}

module _ {P : System → List Piece → Type 0} {Q : After → System → List Piece → Type 0}
    {Asks : Type 0} {s : System} where
  -- each service, by its library
  pub serves_goes : {MayLeave : Type 0} (x : Service)
      → ServiceMoves P Q Asks s MayLeave (home x) → IsAsked x Asks → IsLeft x MayLeave
      → Ends Q (serves s x)
  unfolding serves
  serves_goes (Loadcore x) m asks leave = loadcore_goes m.each (m.registry refl) x
  serves_goes (Sysmem x) m asks leave = sysmem_goes m.each (m.blocks refl) x
  serves_goes (Intrman x) m asks leave = intrman_goes m.each (m.interrupts refl) x
  serves_goes (Thbase x) m asks leave =
      thbase_goes m.each (m.threads refl) (m.alarms refl) x asks leave
  serves_goes (Thsemap x) m asks leave =
      thsemap_goes m.each (m.objects kinds.Semaphore refl) x asks leave
  serves_goes (Thevent x) m asks leave =
      thevent_goes m.each (m.objects kinds.EventFlag refl) (m.sets refl) x asks leave
  serves_goes (Thmsgbx x) m asks leave =
      thmsgbx_goes m.each (m.objects kinds.Mailbox refl) x asks leave
  serves_goes (Stdio x) m asks leave = stdio_goes m.each x
  serves_goes (Thvpool x) m asks leave =
      thvpool_goes m.each (m.objects kinds.VariablePool refl) (m.meets refl) x asks leave
  serves_goes (Thfpool x) m asks leave =
      thfpool_goes m.each (m.objects kinds.FixedPool refl) x asks leave
  serves_goes (Sysclib x) m asks leave = sysclib_goes m.each x

-- so it is for each row that is called
abbrev pub AllAsked : Type 0 → System → Type 0
AllAsked Asks s =
    (library number : ℕ) (row : Row) → row_of library number ≡ Some row
    → allows row.context (in_handler s.core.kernel) ≡ true → IsAsked row.service Asks

-- where a thread or a handler executes, a thread calls
pub asked_active : (s : System) → is_active s.core.kernel ≡ true
    → AllAsked (is_some (caller s.core) ≡ true) s
asked_active s active = has_caller s.core active

-- or that is not looked at
pub asked_not : (s : System) → AllAsked ⊤ s
asked_not s library number row found allowed asked = tt

module _ {P : System → List Piece → Type 0} {Q : After → System → List Piece → Type 0}
    {Asks : Type 0} {s : System} where
  module _ (library number : ℕ) (m : Moves P Q Asks s library)
      (unlisted : UnlistedLasts P Q Asks s library number) (asked : AllAsked Asks s) where
    row_goes : (o : Option Row) → row_of library number ≡ o
        → Ends Q (calls_row library number s o)
    row_goes None found = m.each.goes_on s _ 0xFFFFFFFF unlisted
    row_goes (Some row) found =
        cond_both (allows row.context (in_handler s.core.kernel)) _ _ (Ends Q)
        (λ allowed. serves_goes row.service
        (subst (Moves P Q Asks s) (sym (row_home library number row found)) m)
        (asked library number row found allowed) (λ leave. tt))
        (λ elsewhere. only m.each _)

    -- a call of the library
    pub library_goes : Ends Q (calls_library library number s)
    unfolding calls_library
    library_goes = row_goes (row_of library number) refl

  module _ (m : (library : ℕ) → Moves P Q Asks s library) (calls_so : CallMoves P Q Asks s) where
    -- the handler that runs returns, if one does
    handler_goes : (o : Option ActiveHandler) → s.core.kernel.handler ≡ o
        → CoreEnds Q s (returns_handler s.core o)
    handler_goes None is = calls_so.no_service
    handler_goes (Some handler) is = calls_so.handler handler is

    -- whatever is called
    pub calls_go : AllAsked Asks s → (o : Option Call) → Ends Q (calls s o)
    calls_go asks None = calls_so.no_service
    calls_go asks (Some ThreadReturn) =
        exits_go (m THBASE).each ((m THBASE).threads refl) (λ none. calls_so.no_service) tt
        (caller s.core) refl
    calls_go asks (Some HandlerReturn) = handler_goes s.core.kernel.handler refl
    calls_go asks (Some ModuleReturn) =
        returns_go (m THBASE).each ((m THBASE).threads refl) calls_so.no_service tt
        (caller s.core) refl
    calls_go asks (Some (Library library number)) =
        library_goes library number (m library) (calls_so.unlisted library number) asks

    -- a `syscall` of any code
    pub services_go : AllAsked Asks s → (code : ℕ) → Ends Q (services s code)
    services_go asks code = calls_go asks (call_of code)
