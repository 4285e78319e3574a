-- Each call does to the objects of a kind what it tells of them, where the services of their
-- library do.
use Rattle.std.proofs.Common.{◌≡◌, ◌≢◌, ℕ, ◌<◌, ◌≤◌, ◌==◌, not, Bool, true, false, Option, Some, None, List, [], ◌∷◌, length, refl, ap, sym, ◌∙◌, subst, arith}
use Rattle.std.proofs.lemmas.Bool.{cond_both}
use Rattle.std.proofs.lemmas.Bool.Decides.{nat_tests}
use Rattle.std.proofs.lemmas.List.{get_or-set_same}
use Rattle.iop_base.specs.declared.code.Code.{Code}
use Rattle.iop_base.specs.declared.code.TheConstants.Code.{OK, ILLEGAL_CONTEXT}
use Rattle.iop_base.specs.declared.guest_fault.GuestFault.{GuestFault}
use Rattle.iop_base.specs.declared.guest_fault.GuestFault.TheVariants.{Address, Service as NoService}
use Rattle.iop_exec.specs.Row.{reg}
use Rattle.iop_objects.specs.Objects.{object_of, state_of, deletes, waits}
use Rattle.iop_queues.specs.Queue.{Choice, chooses}
use Rattle.iop_queues.specs.declared.queued.Queued.{Queued}
use Rattle.iop_objects.specs.declared.waiter.Waiter.{Waiter}
use Rattle.iop_objects.proofs.Others.{waiters_leave_states}
use Rattle.iop_services.specs.Table.{row_of, allows}
use Rattle.iop_services.specs.declared.codes.TheConstants.{THBASE}
use Rattle.iop_services.specs.declared.row.Row.{Row}
use Rattle.iop_services.specs.declared.service.Service.{Service}
use Rattle.iop_services.proofs.Rows.{home}
use Rattle.iop_stubs.specs.Stubs.{Memory}
use Rattle.iop_thread.specs.ThreadTable.{priority_of}
use Rattle.iop_thread.specs.declared.kind.Kind.{Kind}
use Rattle.iop_thread.specs.declared.kind.Kind.TheVariants.{Semaphore, EventFlag, Mailbox, VariablePool, FixedPool}
use Rattle.iop_thread.specs.declared.thread.TheConstants.{LOADER}
use Rattle.iop_kernel.specs.Boards.{Board}
use Rattle.iop_kernel_laws.specs.CodeLaws.{KeepsObjects}
use Rattle.iop_kernel.specs.Handlers.{gives_result, returns_handler}
use Rattle.iop_kernel_laws.specs.Histories.{Called, answer_of, succeeds_by, call_with, message_by, called_by, called_of, called}
use Rattle.iop_kernel.specs.Kinds.{State, Wants, Live, Table, table, library_of}
use Rattle.iop_kernel.specs.ObjectServices.{unknown, waits_for, deletes_object, refers_to, refers_at}
use Rattle.iop_kernel.specs.Serving.{call_of, serves, calls_row, calls_library, calls, services}
use Rattle.iop_kernel.specs.System.{Core, Left, System, Done, Served, answered, answers, faults, caller, code_word, in_handler}
use Rattle.iop_kernel.specs.ThreadStarts.{returns_by}
use Rattle.iop_kernel.specs.declared.active_handler.ActiveHandler.{ActiveHandler}
use Rattle.iop_kernel.specs.declared.active_handler.Cause.{Cause}
use Rattle.iop_kernel.specs.declared.active_handler.Cause.TheVariants.{Line, Alarm}
use Rattle.iop_kernel.specs.declared.call.Call.{Call}
use Rattle.iop_kernel.specs.declared.call.Call.TheVariants.{Library, ThreadReturn, HandlerReturn, ModuleReturn}
use Rattle.iop_kernel_laws.proofs.Codes.Libraries.{serves_apart, exits_apart}
use Rattle.iop_kernel.proofs.Bodies.KindTables.{own_table}
use Rattle.iop_kernel_laws.proofs.Histories.Telling.{Tells, TellsBy, none_changes, deletes_told}
use Rattle.iop_kernel_laws.proofs.Placing.ObjectsKept.{same_objects}
use Rattle.iop_kernel.proofs.Placing.Queues.{none_chosen, all_chosen}

-- what a service leaves of the kernel and its processor
abbrev pub core_of : Served → Left Core
core_of d = record { state = d.left.state.core; after = d.left.after }

-- so what one on the board does
abbrev pub board_core : Done Board → Left Core
board_core d = record { state = d.left.state.core; after = d.left.after }

-- a call of a service that served this, in the history
abbrev pub call_to : System → Service → Served → Called
call_to s x d =
    call_with s.core x (core_of d)
    (message_by s.core s.memory d.left.state.memory x (core_of d))

-- a call succeeds where the word that is answered is 0
pub word_tells : (c : Core) → 2 < length c.cpu.regs → (word : ℕ)
    → (reg (answered c word).cpu 2 == 0) ≡ (word == 0)
word_tells c registers word = ap (λ n. n == 0) (get_or-set_same c.cpu.regs 2 word 0 registers)

module _ {W : Type 0} (by_priority : Bool) where
  -- a thread waits where one is chosen
  pub one_waits : (queue : List (Queued (Waiter W))) (c : Choice (Waiter W))
      → chooses by_priority queue ≡ Some c → not (length queue == 0) ≡ true
  one_waits [] c is = absurd (none_chosen by_priority c is)
  one_waits (x ∷ xs) c is = grind (arith, nat_tests)

  -- and none where none is
  pub none_waits : (queue : List (Queued (Waiter W))) → chooses by_priority queue ≡ None
      → not (length queue == 0) ≡ false
  none_waits queue is = ap (λ q. not (length q == 0)) (all_chosen by_priority queue is)

module _ (kind : Kind) (t : Tells (State kind)) (c : Core) where
  abbrev objects : Table kind
  objects = table kind c.kernel

  -- by what a service leaves, and the message that memory got by it
  abbrev pub TellsOf : Service → Left Core → (message : ℕ) → Type 0
  TellsOf x left message =
      TellsBy t objects (table kind left.state.kernel) (Some (call_with c x left message))

  -- whatever that is
  abbrev pub CoreTells : Service → Left Core → Type 0
  CoreTells x left = (message : ℕ) → TellsOf x left message

  module _ (x : Service) where
    -- nothing is told, and no object changes, where the call does not succeed
    unsuccessful : (left : Left Core) → succeeds_by (answer_of left.after left.state) ≡ false
        → ((n : ℕ) → state_of (table kind left.state.kernel) n ≡ state_of objects n)
        → objects.next ≤ (table kind left.state.kernel).next → CoreTells x left
    unsuccessful left fails same rises message =
        let call = call_with c x left message in
        none_changes t objects (Some call) (table kind left.state.kernel)
        (λ n. t.fails n call fails) same rises

    -- a code other than 0 is answered
    pub refused : 2 < length c.cpu.regs → (code : Code) → (code_word code == 0) ≡ false
        → CoreTells x (answers c code)
    refused registers code other =
        unsuccessful (answers c code) (word_tells c registers (code_word code) ∙ other) (λ n. refl)
        (omega arith)

    -- the `syscall` faults
    pub faulted : (fault : GuestFault) → CoreTells x (faults c fault)
    faulted fault = unsuccessful (faults c fault) refl (λ n. refl) (omega arith)

    -- the thread that calls waits
    pub waits_tell : (id : ℕ) (wants : Wants kind) (who : Option ℕ)
        → CoreTells x (waits_for kind c id wants who)
    waits_tell id wants None = faulted NoService
    waits_tell id wants (Some thread) =
        let own = own_table kind c.kernel (waits objects id (record {
          priority = priority_of c.kernel.threads.live thread;
          item = record { thread = thread; wants = wants };
        })) in
        unsuccessful (waits_for kind c id wants (Some thread)) refl
        (λ n. ap (λ s. state_of s n) own ∙ waiters_leave_states id _ objects n)
        (omega (arith, ap (λ s. s.next) own))

  -- a service that is silent
  module _ (x : Service) (silent : t.Silent x) where
    -- leaves the objects as they were
    pub nothing_told : (left : Left Core) → KeepsObjects objects (table kind left.state.kernel)
        → CoreTells x left
    nothing_told left keeps message =
        let call = call_with c x left message in
        none_changes t objects (Some call) (table kind left.state.kernel)
        (λ n. t.silent n call silent) keeps.states (omega (arith, keeps.next))

    -- or deletes one, if it is found
    pub deletes_tell : (o : Option (Live kind)) → CoreTells x (deletes_object kind c o)
    deletes_tell None message =
        nothing_told (answers c (unknown kind)) (same_objects objects) message
    deletes_tell (Some o) message =
        let call = call_with c x (deletes_object kind c (Some o)) message in
        subst (λ left. TellsBy t objects left (Some call))
        (sym (own_table kind c.kernel (deletes objects o.id)))
        (deletes_told t objects (Some call) (λ n. t.silent n call silent) o.id)

    -- or tells the status of one
    pub status_tells : (memory : Memory) (words : Live kind → List ℕ) (id : ℕ) (place : Option ℕ)
        → let b : Board = record { core = c; memory = memory } in
        CoreTells x (board_core (refers_at kind words b id place))
    status_tells memory words id None = nothing_told (faults c Address) (same_objects objects)
    status_tells memory words id (Some place) = by (object_of objects.live id)
      where
        by : (o : Option (Live kind)) → let b : Board = record { core = c; memory = memory } in
            CoreTells x (board_core (refers_to kind words b place o))
        by None = nothing_told (answers c (unknown kind)) (same_objects objects)
        by (Some o) = nothing_told (answers c OK) (same_objects objects)

-- thbase is the library of no kind
kind_not_thbase : (kind : Kind) → THBASE ≢ library_of kind
kind_not_thbase Semaphore is = cc is
kind_not_thbase EventFlag is = cc is
kind_not_thbase Mailbox is = cc is
kind_not_thbase VariablePool is = cc is
kind_not_thbase FixedPool is = cc is

module _ (kind : Kind) (t : Tells (State kind)) (s : System) where
  -- the objects before
  abbrev before : Table kind
  before = table kind s.core.kernel

  -- what is served, as a call of a service, whatever message memory got by it
  abbrev pub ServiceTells : Service → Served → Type 0
  ServiceTells x d = CoreTells kind t s.core x (core_of d)

  -- as the call that it is
  abbrev pub ItTells : Service → Served → Type 0
  ItTells x d =
      TellsBy t before (table kind d.left.state.core.kernel) (Some (call_to s x d))

  -- a silent service of another library tells nothing
  pub others_tell : (x : Service) → t.Silent x → home x ≢ library_of kind
      → ServiceTells x (serves s x)
  others_tell x silent other =
      nothing_told kind t s.core x silent (core_of (serves s x))
      ((serves_apart s x).objects kind other)

  module _ (registers : 2 < length s.core.cpu.regs)
      (each : (x : Service) → ItTells x (serves s x)) where
    -- what is served, and the call that it is in the history
    abbrev CallTells : Option Call → Served → Type 0
    CallTells o d = TellsBy t before (table kind d.left.state.core.kernel) (called_of s d o)

    -- what is no service of a library
    ended : (left : Table kind) → KeepsObjects before left → TellsBy t before left None
    ended left keeps =
        none_changes t before None left t.none keeps.states (omega (arith, keeps.next))

    -- a row of a library
    row_tells : (library number : ℕ) (o : Option Row) → let d = calls_row library number s o in
        TellsBy t before (table kind d.left.state.core.kernel) (called_by s d o)
    row_tells library number None = ended before (same_objects before)
    row_tells library number (Some row) =
        cond_both (allows row.context (in_handler s.core.kernel)) _ _
        (λ (d : Served).
        TellsBy t before (table kind d.left.state.core.kernel) (called_by s d (Some row)))
        (λ allowed. each row.service)
        (λ elsewhere. refused kind t s.core row.service registers ILLEGAL_CONTEXT refl _)

    -- a service of a library
    library_tells : (library number : ℕ)
        → CallTells (Some (Library library number)) (calls_library library number s)
    unfolding calls_library
    library_tells library number = row_tells library number (row_of library number)

    -- a handler returns, and its result is given to a line or to an alarm
    result_keeps : (cause : Cause) (value : ℕ)
        → KeepsObjects before (table kind (gives_result s.core.kernel cause value))
    result_keeps (Line line) value = same_objects before
    result_keeps (Alarm number) value = same_objects before

    handler_keeps : (o : Option ActiveHandler)
        → KeepsObjects before (table kind (returns_handler s.core o).state.kernel)
    handler_keeps None = same_objects before
    handler_keeps (Some handler) = result_keeps handler.cause (reg s.core.cpu 2)

    -- a module returns
    module_keeps : (o : Option ℕ)
        → KeepsObjects before (table kind (returns_by s.core o).state.kernel)
    module_keeps None = same_objects before
    module_keeps (Some id) =
        cond_both (id == LOADER) _ _
        (λ (left : Left Core). KeepsObjects before (table kind left.state.kernel))
        (λ loader. same_objects before) (λ other. same_objects before)

    -- by what is called
    calls_tell : (o : Option Call) → CallTells o (calls s o)
    calls_tell None = ended before (same_objects before)
    calls_tell (Some ThreadReturn) = ended _ ((exits_apart s).objects kind (kind_not_thbase kind))
    calls_tell (Some ModuleReturn) = ended _ (module_keeps (caller s.core))
    calls_tell (Some HandlerReturn) = ended _ (handler_keeps s.core.kernel.handler)
    calls_tell (Some (Library library number)) = library_tells library number

    -- a `syscall` of any code
    pub services_tell : (code : ℕ)
        → TellsBy t before (table kind (services s code).left.state.core.kernel) (called s code)
    unfolding called
    services_tell code = calls_tell (call_of code)
