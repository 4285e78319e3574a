-- The objects of all kinds stay sound, whatever is served.
use Rattle.std.proofs.Common.{ℕ, ◌^◌, ◌<◌, true, Option, Some, None, refl, sym, subst}
use Rattle.std.specs.Prelude.{⊤}
use Rattle.std.proofs.lemmas.Bool.{cond_both}
use Rattle.iop_exec.specs.Row.{reg}
use Rattle.iop_kernel.specs.Handlers.{returns_handler}
use Rattle.iop_kernel.specs.Placing.{IsPlaced}
use Rattle.iop_kernel.specs.Serving.{serves, calls_row, calls_library, services}
use Rattle.iop_kernel.specs.System.{Kernel, System, in_handler, caller}
use Rattle.iop_kernel.specs.declared.active_handler.ActiveHandler.{ActiveHandler}
use Rattle.iop_kernel_laws.proofs.Keeping.Handlers.{gives_to}
use Rattle.iop_kernel.proofs.Walk.Libraries.{loadcore_goes, sysmem_goes, stdio_goes, intrman_goes, thbase_goes, thsemap_goes, thevent_goes}
use Rattle.iop_kernel.proofs.Walk.Moves.{EachMoves, CoreEnds, Ends}
use Rattle.iop_kernel.proofs.Walk.Sysclib.{sysclib_goes}
use Rattle.iop_kernel.proofs.Walk.Threads.{exits_go, returns_go}
use Rattle.iop_services.specs.Table.{row_of, allows}
use Rattle.iop_services.specs.declared.row.Row.{Row}
use Rattle.iop_services.specs.declared.service.Service.{Service}
use Rattle.iop_services.specs.declared.service.Service.TheVariants.{Loadcore, Sysmem, Intrman, Thbase, Thsemap, Thevent, Thmsgbx, Stdio, Thvpool, Thfpool, Sysclib}
use Rattle.iop_sysmem.specs.BlockMap.{AreBlocks}
use Rattle.iop_thread.specs.declared.kind.Kind.TheVariants.{Semaphore, EventFlag}
use Rattle.iop_resumable.proofs.Calls.{any_call}
use Rattle.iop_resumable.proofs.Mailboxes.{thmsgbx_stands}
use Rattle.iop_resumable.proofs.ObjectMoves.{P, Q, each_moves, registry_moves, block_moves, interrupt_moves, alarm_moves, thread_moves, object_moves, sets_flags}
use Rattle.iop_resumable.proofs.PoolServices.{thvpool_stands, thfpool_stands}
use Rattle.iop_resumable.proofs.Standing.{Stands}

module _ (s : System) (placed : IsPlaced s.core.kernel) (h : Stands s.core.kernel)
    (blocks : AreBlocks s.blocks) (size : s.blocks.size < 2 ^ 32) where
  each : EachMoves P Q ⊤ s
  each = each_moves s placed h

  -- each service, by its library
  serves_stand : (x : Service) → Ends Q (serves s x)
  unfolding serves
  serves_stand (Loadcore x) = loadcore_goes each (registry_moves s placed h) x
  serves_stand (Sysmem x) = sysmem_goes each (block_moves s placed h) x
  serves_stand (Intrman x) = intrman_goes each (interrupt_moves s placed h) x
  serves_stand (Thbase x) =
      thbase_goes {MayLeave = ⊤} each (thread_moves s placed h) (alarm_moves s placed h) x
      (λ asks. tt) (λ leaves. tt)
  serves_stand (Thsemap x) =
      thsemap_goes {MayLeave = ⊤} each (object_moves s placed h Semaphore
      (λ y left first on (pool : ⊥). absurd pool) (λ id y z how. tt)
      (λ leave id y wants known must. tt)) x (λ asks. tt) (λ leaves. tt)
  serves_stand (Thevent x) =
      thevent_goes {MayLeave = ⊤} each (object_moves s placed h EventFlag
      (λ y left first on (pool : ⊥). absurd pool) (λ id y z how. tt)
      (λ leave id y wants known must. tt)) (sets_flags s placed h) x (λ asks. tt) (λ leaves. tt)
  serves_stand (Thmsgbx x) = thmsgbx_stands s placed h x
  serves_stand (Stdio x) = stdio_goes each x
  serves_stand (Thvpool x) = thvpool_stands s placed h blocks size x
  serves_stand (Thfpool x) = thfpool_stands s placed h blocks size x
  serves_stand (Sysclib x) = sysclib_goes each x

  row_stands : (library number : ℕ) (o : Option Row) → Ends Q (calls_row library number s o)
  row_stands library number None = h
  row_stands library number (Some row) =
      cond_both (allows row.context (in_handler s.core.kernel)) _ _ (Ends Q)
      (λ allowed. serves_stand row.service) (λ elsewhere. h)

  library_stands : (library number : ℕ) → Ends Q (calls_library library number s)
  unfolding calls_library
  library_stands library number = row_stands library number (row_of library number)

  -- the handler that runs returns, if one does
  handler_stands : (o : Option ActiveHandler) → CoreEnds Q s (returns_handler s.core o)
  handler_stands None = h
  handler_stands (Some handler) =
      subst (λ (left : Kernel). Stands (record left { interrupts = true; handler = None }))
      (sym (gives_to s.core.kernel handler.cause (reg s.core.cpu 2)).is) h

  -- whatever is called
  pub services_stand : (code : ℕ) → Stands (services s code).left.state.core.kernel
  services_stand =
      any_call (Ends Q) s (record {
        thread = exits_go {MayLeave = ⊤} each (thread_moves s placed h) (λ none. h) tt
            (caller s.core) refl;
        handler = handler_stands s.core.kernel.handler;
        returns = returns_go {MayLeave = ⊤} each (thread_moves s placed h) h tt (caller s.core)
            refl;
        library = library_stands;
        none = h;
      })
