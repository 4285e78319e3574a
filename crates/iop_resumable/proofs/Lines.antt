-- There are as many interrupt lines, whatever is served, delivered or dispatched.
use Rattle.std.proofs.Common.{◌≡◌, ℕ, nat_lt, Option, Some, None, List, length, refl, ap}
use Rattle.std.specs.Prelude.{⊤}
use Rattle.std.proofs.lemmas.Bool.{cond_both}
use Rattle.std.proofs.lemmas.List.{length-set}
use Rattle.iop_base.specs.Piece.{Piece}
use Rattle.iop_base.specs.declared.code.Code.{Code}
use Rattle.iop_base.specs.declared.code.TheConstants.Code.{ILLEGAL_INTERRUPT}
use Rattle.iop_exec.specs.Row.{reg}
use Rattle.iop_intr.specs.InterruptLines.{line_of, on_line, handler_of, register_line, release_line, enable_line, disable_line}
use Rattle.iop_intr.specs.declared.irq_line.IrqLine.{IrqLine}
use Rattle.iop_intr.specs.declared.irqs.TheConstants.{IRQ_LINES}
use Rattle.iop_pools.specs.Pools.{with_ranges}
use Rattle.iop_pools.specs.Ranges.{without}
use Rattle.iop_services.specs.Table.{row_of, allows}
use Rattle.iop_services.specs.declared.intrman_service.IntrmanService.{IntrmanService}
use Rattle.iop_services.specs.declared.intrman_service.IntrmanService.TheVariants as intrman
use Rattle.iop_services.specs.declared.row.Row.{Row}
use Rattle.iop_services.specs.declared.service.Service.{Service}
use Rattle.iop_services.specs.declared.service.Service.TheVariants.{Loadcore, Sysmem, Intrman, Thbase, Thsemap, Thevent, Thmsgbx, Stdio, Thvpool, Thfpool, Sysclib}
use Rattle.iop_thread.specs.declared.kind.Kind.{Kind}
use Rattle.iop_thread.specs.declared.kind.Kind.TheVariants.{Semaphore, EventFlag, Mailbox, VariablePool, FixedPool}
use Rattle.iop_thread.specs.declared.wait.Wait.{Wait}
use Rattle.iop_thread.specs.declared.wait.Wait.TheVariants.{Delay, Object}
use Rattle.iop_kernel.specs.Boards.{Board, board_of, optional_place}
use Rattle.iop_kernel.specs.Handlers.{gives_result, returns_handler}
use Rattle.iop_kernel.specs.Interrupts.{disables_at, suspends_at, serves_intrman}
use Rattle.iop_kernel.specs.Serving.{serves, calls_row, calls_library, services}
use Rattle.iop_kernel.specs.System.{Kernel, Core, System, Done, in_handler, caller, argument, words_place, with_variable_pools}
use Rattle.iop_kernel.specs.Waits.{leaves_object, requeues_at, is_code}
use Rattle.iop_kernel.specs.declared.active_handler.ActiveHandler.{ActiveHandler}
use Rattle.iop_kernel.specs.declared.active_handler.Cause.{Cause}
use Rattle.iop_kernel.specs.declared.active_handler.Cause.TheVariants.{Line, Alarm}
use Rattle.iop_kernel.specs.declared.after.After.{After}
use Rattle.iop_kernel.proofs.Walk.Libraries.{loadcore_goes, sysmem_goes, stdio_goes, thbase_goes, thsemap_goes, thevent_goes, thmsgbx_goes, thvpool_goes, thfpool_goes}
use Rattle.iop_kernel.proofs.Walk.Meeting.{all_met}
use Rattle.iop_kernel.proofs.Walk.Moves.{EachMoves, ThreadMoves, ObjectMoves, CoreEnds, Ends}
use Rattle.iop_kernel.proofs.Walk.Steps.{delivers_goes, dispatches_goes}
use Rattle.iop_kernel.proofs.Walk.Sysclib.{sysclib_goes}
use Rattle.iop_kernel.proofs.Walk.Threads.{exits_go, returns_go}
use Rattle.iop_resumable.specs.Laws.{LinesStay}
use Rattle.iop_resumable.proofs.Calls.{any_call}

-- a call on a line
called : (call : IrqLine → Code × IrqLine) (lines : List IrqLine) (n : ℕ)
    → length (on_line call lines n).1 ≡ length lines
called call lines n =
    cond_both (nat_lt n IRQ_LINES) _ (ILLEGAL_INTERRUPT, lines)
    (λ (r : Code × List IrqLine). length r.1 ≡ length lines)
    (λ below. length-set lines n (call (line_of lines n)).1) (λ other. refl)

module _ (s : System) where
  abbrev Same : Kernel → Type 0
  Same k = length k.irqs ≡ length s.core.kernel.irqs

  abbrev P : System → List Piece → Type 0
  P d given = Same d.core.kernel

  abbrev Q : After → System → List Piece → Type 0
  Q after d given = Same d.core.kernel

  -- waits that end or change leave them
  leaves_same : (k : Kernel) (thread : ℕ) (wait : Option Wait) → Same k
      → Same (leaves_object k thread wait)
  leaves_same k thread (Some Delay) h = h
  leaves_same k thread (Some (Object kind id)) h = h
  leaves_same k thread other h = h

  requeues_same : (k : Kernel) (thread priority : ℕ) (wait : Option Wait) → Same k
      → Same (requeues_at k thread priority wait)
  requeues_same k thread priority (Some (Object kind id)) h = h
  requeues_same k thread priority other h = h

  each : EachMoves P Q ⊤ s
  each = record {
    begins = refl;
    stores = λ d given place bytes inside x. x;
    goes_on = λ d given word x. x;
    bad_place = refl;
    no_thread = λ asked none. refl;
    prints = λ text. refl;
  }

  thread_moves : ThreadMoves P Q ⊤ s ⊤
  thread_moves = record {
    dispatch = λ enabled on asks. refl;
    creates = λ size param stack blocks is. refl;
    deletes = λ id stack left is. refl;
    starts = λ id argument. refl;
    ends = λ id is other leave. refl;
    ends_deleted = λ id stack left is other did leave. refl;
    returns = λ id word is loader leave. refl;
    terminates = λ id wait left other is rests. leaves_same _ id wait refl;
    terminates_running = λ id wait left other is runs. leaves_same _ id wait refl;
    changes = λ id priority wait left is. requeues_same _ id priority wait refl;
    rotates = λ priority other. refl;
    rotates_beside = λ priority own may is. refl;
    rotates_own = λ priority id own may is leave. refl;
    releases = λ id t wait found is. leaves_same _ t.id (Some wait) refl;
    takes_wakeup = λ left is. refl;
    sleeps = λ left is may asks leave. refl;
    wakes_up = λ id other. refl;
    cancels = λ id. refl;
    suspends = λ id other may. refl;
    resumes = λ id other. refl;
    delays = λ moment thread is may leave. refl;
  }

  object_moves : (kind : Kind) → ObjectMoves P Q ⊤ s ⊤ kind
  object_moves kind = record {
    makes = λ x blocks first on. refl;
    deletes = λ o blocks found gone. refl;
    changes = λ id x y known how. refl;
    wakes = λ id word x one known chosen is. refl;
    waits = λ id thread x wants is may known must place leave. refl;
  }

  -- the services of interrupts change one line
  abbrev BoardGoes : Done Board → Type 0
  BoardGoes d = Same d.left.state.core.kernel

  disables_go : (line : ℕ) (o : Option (Option ℕ)) → BoardGoes (disables_at (board_of s) line o)
  disables_go line None = refl
  disables_go line (Some place) =
      cond_both (is_code (on_line disable_line s.core.kernel.irqs line).0 ILLEGAL_INTERRUPT) _ _
      BoardGoes (λ illegal. refl) (λ legal. called disable_line s.core.kernel.irqs line)

  suspends_go : (o : Option ℕ) → BoardGoes (suspends_at (board_of s) o)
  suspends_go None = refl
  suspends_go (Some place) = refl

  intrman_same : (x : IntrmanService) → BoardGoes (serves_intrman (board_of s) x)
  unfolding serves_intrman
  intrman_same intrman.RegisterIntrHandler =
      let gp = reg s.core.cpu 28 in
      called (register_line (handler_of (argument s.core 2) (argument s.core 3) gp))
      s.core.kernel.irqs (argument s.core 0)
  intrman_same intrman.ReleaseIntrHandler =
      called release_line s.core.kernel.irqs (argument s.core 0)
  intrman_same intrman.EnableIntr = called enable_line s.core.kernel.irqs (argument s.core 0)
  intrman_same intrman.DisableIntr =
      disables_go (argument s.core 0) (optional_place s.memory (argument s.core 1))
  intrman_same intrman.CpuDisableIntr =
      cond_both s.core.kernel.interrupts _ _ (CoreEnds Q s) (λ on. refl) (λ off. refl)
  intrman_same intrman.CpuEnableIntr = refl
  intrman_same intrman.CpuSuspendIntr = suspends_go (words_place s.memory (argument s.core 0) 1)
  intrman_same intrman.CpuResumeIntr = refl
  intrman_same intrman.QueryIntrContext = refl

  serves_same : (x : Service) → Ends Q (serves s x)
  unfolding serves
  serves_same (Loadcore x) = loadcore_goes each (record { registers = λ libraries. refl }) x
  serves_same (Sysmem x) =
      sysmem_goes each (record { takes = λ mode size at. refl; frees = λ at. refl }) x
  serves_same (Intrman x) = intrman_same x
  serves_same (Thbase x) =
      thbase_goes each thread_moves (record {
        sets = λ moment handler arg. refl;
        cancels = λ handler arg. refl;
      }) x (λ asks. tt) (λ leaves. tt)
  serves_same (Thsemap x) =
      thsemap_goes each (object_moves Semaphore) x (λ asks. tt) (λ leaves. tt)
  serves_same (Thevent x) =
      thevent_goes each (object_moves EventFlag) (λ bits o found. refl) x (λ asks. tt)
      (λ leaves. tt)
  serves_same (Thmsgbx x) =
      thmsgbx_goes each (object_moves Mailbox) x (λ asks. tt) (λ leaves. tt)
  serves_same (Stdio x) = stdio_goes each x
  serves_same (Thvpool x) =
      thvpool_goes each (object_moves VariablePool)
      (λ id block y known there.
      ap (λ (c : Core). length c.kernel.irqs) (all_met id (with_variable_pools s.core
      (with_ranges s.core.kernel.variable_pools id y (without block y.ranges)))).core) x
      (λ asks. tt) (λ leaves. tt)
  serves_same (Thfpool x) =
      thfpool_goes each (object_moves FixedPool) x (λ asks. tt) (λ leaves. tt)
  serves_same (Sysclib x) = sysclib_goes each x

  row_same : (library number : ℕ) (o : Option Row) → Ends Q (calls_row library number s o)
  row_same library number None = refl
  row_same library number (Some row) =
      cond_both (allows row.context (in_handler s.core.kernel)) _ _ (Ends Q)
      (λ allowed. serves_same row.service) (λ elsewhere. refl)

  library_same : (library number : ℕ) → Ends Q (calls_library library number s)
  unfolding calls_library
  library_same library number = row_same library number (row_of library number)

  -- a handler that returns has its line finished
  gives_same : (cause : Cause) (value : ℕ) → Same (gives_result s.core.kernel cause value)
  gives_same (Line line) value = length-set s.core.kernel.irqs line _
  gives_same (Alarm number) value = refl

  handler_same : (o : Option ActiveHandler) → CoreEnds Q s (returns_handler s.core o)
  handler_same None = refl
  handler_same (Some handler) = gives_same handler.cause (reg s.core.cpu 2)

  services_same : (code : ℕ) → Same (services s code).left.state.core.kernel
  services_same =
      any_call (Ends Q) s (record {
        thread = exits_go each thread_moves (λ none. refl) tt (caller s.core) refl;
        handler = handler_same s.core.kernel.handler;
        returns = returns_go each thread_moves refl tt (caller s.core) refl;
        library = library_same;
        none = refl;
      })

pub lines_stay : LinesStay
lines_stay = record {
  services = services_same;
  delivers = λ c d made.
      delivers_goes (λ left line. length left.kernel.irqs ≡ length c.kernel.irqs) c (λ may. record {
        begins_line = λ line handler found has. length-set c.kernel.irqs line _;
        due = λ none. record {
          begins_alarm = λ alarm taken. refl;
          wakes = λ delay taken. refl;
        };
      }) d made;
  dispatches = λ c d made.
      dispatches_goes (λ left line. length left.kernel.irqs ≡ length c.kernel.irqs) c
      (λ may did is. refl) d made;
}
