-- What holds of threads stays so, whatever is served.
use Rattle.std.proofs.Common.{ℕ, Option, Some, None, List, [], ◌∷◌, refl, sym, subst}
use Rattle.std.specs.Prelude.{⊤}
use Rattle.std.proofs.lemmas.Bool.{cond_both}
use Rattle.iop_base.specs.Piece.{Piece}
use Rattle.iop_base.specs.declared.code.TheConstants.Code.{OK, OBJECT_DELETED}
use Rattle.iop_exec.specs.Row.{reg}
use Rattle.iop_pools.specs.Pools.{with_ranges}
use Rattle.iop_pools.specs.Ranges.{without}
use Rattle.iop_pools.specs.declared.met.Met.{Met}
use Rattle.iop_services.specs.Table.{row_of, allows}
use Rattle.iop_services.specs.declared.row.Row.{Row}
use Rattle.iop_services.specs.declared.service.Service.{Service}
use Rattle.iop_services.specs.declared.service.Service.TheVariants.{Loadcore, Sysmem, Intrman, Thbase, Thsemap, Thevent, Thmsgbx, Stdio, Thvpool, Thfpool, Sysclib}
use Rattle.iop_thread.specs.Operations as threads
use Rattle.iop_thread.specs.ThreadTable.{ThreadTable}
use Rattle.iop_thread.specs.declared.kind.Kind.{Kind}
use Rattle.iop_thread.specs.declared.kind.Kind.TheVariants.{Semaphore, EventFlag, Mailbox, VariablePool, FixedPool}
use Rattle.iop_thread.specs.declared.thread.Thread.{Thread}
use Rattle.iop_thread.specs.declared.wait.Wait.TheVariants.{Object}
use Rattle.iop_kernel.specs.Handlers.{returns_handler}
use Rattle.iop_kernel.specs.ObjectServices.{threads_in_order}
use Rattle.iop_kernel.specs.Serving.{serves, calls_row, calls_library, services}
use Rattle.iop_kernel.specs.System.{Kernel, Core, System, in_handler, caller, with_variable_pools, code_word}
use Rattle.iop_kernel.specs.Waits.{wakes_all}
use Rattle.iop_kernel.specs.declared.active_handler.ActiveHandler.{ActiveHandler}
use Rattle.iop_kernel.specs.declared.after.After.{After}
use Rattle.iop_kernel_laws.proofs.Keeping.Handlers.{gives_to}
use Rattle.iop_kernel.proofs.Keeping.Meetings.{met_of, threads_met}
use Rattle.iop_kernel.proofs.Walk.Libraries.{loadcore_goes, sysmem_goes, stdio_goes, intrman_goes, thsemap_goes, thevent_goes, thmsgbx_goes, thvpool_goes, thfpool_goes}
use Rattle.iop_kernel.proofs.Walk.Meeting.{all_met, wakes_met}
use Rattle.iop_kernel.proofs.Walk.Moves.{EachMoves, ObjectMoves, CoreEnds, Ends}
use Rattle.iop_kernel.proofs.Walk.Sysclib.{sysclib_goes}
use Rattle.iop_resumable.proofs.AskedThreads.{CanCreate, CanMake}
use Rattle.iop_resumable.proofs.Calls.{any_call}
use Rattle.iop_resumable.proofs.LiveThreads.{Stays, still_have}
use Rattle.iop_resumable.proofs.ServedThreads.{StillOf, Lasts, live_last}
use Rattle.iop_resumable.proofs.ThreadServices.{thbase_has, exits_have, returns_have}

module _ (Of : ThreadTable → Type 0) (lasts : Lasts Of) where
  woken_have : (ids : List ℕ) (t : ThreadTable) (word : ℕ) → Of t
      → Of (wakes_all t ids word)
  woken_have [] t word h = h
  woken_have (id ∷ ids) t word h =
      woken_have ids (threads.wakes t id word) word
      ((lasts t h).wakes id word)

  met_have : (met : List Met) (t : ThreadTable) → Of t → Of (wakes_met t met)
  met_have [] t h = h
  met_have (one ∷ met) t h =
      met_have met (threads.wakes t one.thread one.block)
      ((lasts t h).wakes one.thread one.block)

module _ (Of : ThreadTable → Type 0) (lasts : Lasts Of) (s : System)
    (h : Of s.core.kernel.threads) (makes : CanCreate Of s) where
  abbrev table : ThreadTable
  table = s.core.kernel.threads

  abbrev P : System → List Piece → Type 0
  P d given = Of d.core.kernel.threads

  abbrev Q : After → System → List Piece → Type 0
  Q after d given = Of d.core.kernel.threads

  still : StillOf Of s.core.kernel.threads
  still = lasts s.core.kernel.threads h

  each : EachMoves P Q ⊤ s
  each = record {
    begins = h;
    stores = λ d given place bytes inside x. x;
    goes_on = λ d given word x. x;
    bad_place = h;
    no_thread = λ asked none. h;
    prints = λ text. h;
  }

  object_moves : (kind : Kind) → ObjectMoves P Q ⊤ s ⊤ kind
  object_moves kind = record {
    makes = λ x blocks first on. h;
    deletes = λ o blocks found gone.
        woken_have Of lasts (threads_in_order kind o) table (code_word OBJECT_DELETED) h;
    changes = λ id x y known how. h;
    wakes = λ id word x one known chosen is. still.wakes one.one.item.thread word;
    waits = λ id thread x wants is may known must place leave. still.blocks (Object kind id) _;
  }

  serves_have : (x : Service) → Ends Q (serves s x)
  unfolding serves
  serves_have (Loadcore x) = loadcore_goes each (record { registers = λ libraries. h }) x
  serves_have (Sysmem x) =
      sysmem_goes each (record { takes = λ mode size at. h; frees = λ at. h }) x
  serves_have (Intrman x) = intrman_goes each (record { lines = λ left. h; turns = λ on. h }) x
  serves_have (Thbase x) = thbase_has Of lasts s h makes x
  serves_have (Thsemap x) =
      thsemap_goes each (object_moves Semaphore) x (λ asks. tt) (λ leaves. tt)
  serves_have (Thevent x) =
      thevent_goes each (object_moves EventFlag)
      (λ bits o found. woken_have Of lasts (threads_met (met_of o bits)) table (code_word OK) h) x
      (λ asks. tt) (λ leaves. tt)
  serves_have (Thmsgbx x) =
      thmsgbx_goes each (object_moves Mailbox) x (λ asks. tt) (λ leaves. tt)
  serves_have (Stdio x) = stdio_goes each x
  serves_have (Thvpool x) =
      thvpool_goes each (object_moves VariablePool)
      (λ id block y known there.
      let met = all_met id (with_variable_pools s.core
      (with_ranges s.core.kernel.variable_pools id y (without block y.ranges))) in
      subst (λ (c : Core). Of c.kernel.threads) (sym met.core)
      (met_have Of lasts met.met table h)) x (λ asks. tt) (λ leaves. tt)
  serves_have (Thfpool x) =
      thfpool_goes each (object_moves FixedPool) x (λ asks. tt) (λ leaves. tt)
  serves_have (Sysclib x) = sysclib_goes each x

  row_has : (library number : ℕ) (o : Option Row) → Ends Q (calls_row library number s o)
  row_has library number None = h
  row_has library number (Some row) =
      cond_both (allows row.context (in_handler s.core.kernel)) _ _ (Ends Q)
      (λ allowed. serves_have row.service) (λ elsewhere. h)

  library_has : (library number : ℕ) → Ends Q (calls_library library number s)
  unfolding calls_library
  library_has library number = row_has library number (row_of library number)

  handler_has : (o : Option ActiveHandler) → CoreEnds Q s (returns_handler s.core o)
  handler_has None = h
  handler_has (Some handler) =
      subst (λ (left : Kernel). Of left.threads)
      (sym (gives_to s.core.kernel handler.cause (reg s.core.cpu 2)).is) h

  pub tables_last : (code : ℕ) → Of (services s code).left.state.core.kernel.threads
  tables_last =
      any_call (Ends Q) s (record {
        thread = exits_have Of lasts s h makes (caller s.core) refl;
        handler = handler_has s.core.kernel.handler;
        returns = returns_have Of lasts s h makes (caller s.core);
        library = library_has;
        none = h;
      })

-- so does what holds of the live ones
module _ (Have : List Thread → Type 0) (Has : Thread → Type 0) (stays : Stays Have Has)
    (s : System) (h : Have s.core.kernel.threads.live) (makes : CanMake Have s) where
  pub services_have : (code : ℕ) → Have (services s code).left.state.core.kernel.threads.live
  services_have =
      tables_last (λ t. Have t.live) (live_last Have Has stays) s h
      (λ param stack blocks asked is some.
      (still_have Have Has stays s.core.kernel.threads h).creates _ stack _
      (makes param stack blocks asked is some))
