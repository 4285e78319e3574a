-- What the services of a library leave as it was: the kernel's parts, the registered libraries and
-- the blocks are changed by the services of their own libraries alone.
use Rattle.std.proofs.Common.{◌≡◌, ◌≢◌, ℕ, Bool, true, false, Option, Some, List, refl, ap, sym, ◌∙◌, subst}
use Rattle.std.specs.Prelude.{⊤}
use Rattle.iop_base.specs.Piece.{Piece}
use Rattle.iop_base.specs.declared.code.TheConstants.Code.{WAIT_RELEASED}
use Rattle.iop_intr.specs.declared.irq_line.IrqLine.{IrqLine}
use Rattle.iop_registry.specs.declared.registry.Entry.{Entry}
use Rattle.iop_services.specs.declared.codes.TheConstants.{LOADCORE, SYSMEM, INTRMAN, THBASE, THVPOOL, THFPOOL}
use Rattle.iop_services.specs.declared.service.Service.{Service}
use Rattle.iop_services.proofs.Rows.{home}
use Rattle.iop_sysmem.specs.BlockMap.{BlockMap}
use Rattle.iop_pools.specs.VariablePools.{VariablePools}
use Rattle.iop_thread.specs.ThreadTable.{ThreadTable}
use Rattle.iop_thread.specs.declared.kind.Kind.{Kind}
use Rattle.iop_thread.specs.declared.kind.Kind.TheVariants.{Semaphore, EventFlag, Mailbox, VariablePool, FixedPool}
use Rattle.iop_thread.specs.declared.wait.Wait.{Wait}
use Rattle.iop_thread.specs.declared.wait.Wait.TheVariants.{Delay, Object}
use Rattle.iop_kernel_laws.specs.CodeLaws.{KeepsObjects, serves_kernel}
use Rattle.iop_kernel.specs.Kinds.{State, Table, table, with_table, library_of, is_by_priority}
use Rattle.iop_kernel.specs.Serving.{serves, calls_library}
use Rattle.iop_kernel.specs.System.{Kernel, Core, System, caller, with_threads, with_variable_pools, opened}
use Rattle.iop_kernel.specs.ThreadStarts.{exit_thread}
use Rattle.iop_kernel.specs.VariablePools.{meets_all}
use Rattle.iop_kernel.specs.Waits.{leaves_object, requeues_at, wakes_with}
use Rattle.iop_kernel.specs.declared.after.After.{After}
use Rattle.iop_kernel.proofs.Bodies.KindTables.{each_table}
use Rattle.iop_kernel_laws.proofs.Placing.ObjectsKept.{same_objects, drops_keep, requeues_keep}
use Rattle.iop_kernel.proofs.Walk.Changes.{IsMadeOn, GoesFrom}
use Rattle.iop_kernel.proofs.Walk.Meeting.{wakes_met, all_met}
use Rattle.iop_kernel.proofs.Walk.Moves.{Moves}
use Rattle.iop_kernel.proofs.Walk.Services.{serves_goes, library_goes, asked_not}
use Rattle.iop_kernel.proofs.Walk.Threads.{exits_go}

-- the objects of each kind are left as they were, but for those that wait
abbrev KeepsTables : (k l : Kernel) → Type 0
KeepsTables k l = (kind : Kind) → KeepsObjects (table kind k) (table kind l)

same_tables : (k : Kernel) → KeepsTables k k
same_tables k kind = same_objects (table kind k)

-- those of one kind are
keeps_table : (kind : Kind) (k : Kernel) (left : Table kind) → KeepsObjects (table kind k) left
    → KeepsTables k (with_table kind k left)
keeps_table kind k left own =
    each_table (λ other t. KeepsObjects (table other k) t) kind k left own
    (λ other apart. same_tables k other)

-- so are the lines and the handler
abbrev KeepsRest : (k l : Kernel) → Type 0
KeepsRest k l = (l.irqs ≡ k.irqs) × (l.handler ≡ k.handler) × KeepsTables k l

same_rest : (k : Kernel) → KeepsRest k k
same_rest k = (refl, refl, same_tables k)

-- a thread no longer waits
leaving_rest : (k : Kernel) (thread : ℕ) (wait : Option Wait)
    → KeepsRest k (leaves_object k thread wait)
leaving_rest k thread (Some Delay) = same_rest k
leaving_rest k thread (Some (Object kind id)) =
    (refl, refl, keeps_table kind k _ (drops_keep (table kind k) id thread))
leaving_rest k thread other = same_rest k

-- or has another priority
requeueing_rest : (k : Kernel) (thread priority : ℕ) (wait : Option Wait)
    → KeepsRest k (requeues_at k thread priority wait)
requeueing_rest k thread priority (Some (Object kind id)) =
    let t = table kind k in
    let by = is_by_priority kind t id in
    (refl, refl, keeps_table kind k _ (requeues_keep t id by thread priority))
requeueing_rest k thread priority other = same_rest k

-- the library of a kind serves the kernel, and is neither intrman nor thbase
kind_serves : (kind : Kind) → serves_kernel (library_of kind) ≡ true
kind_serves Semaphore = refl
kind_serves EventFlag = refl
kind_serves Mailbox = refl
kind_serves VariablePool = refl
kind_serves FixedPool = refl

kind_not_intrman : (kind : Kind) → library_of kind ≢ INTRMAN
kind_not_intrman Semaphore is = cc is
kind_not_intrman EventFlag is = cc is
kind_not_intrman Mailbox is = cc is
kind_not_intrman VariablePool is = cc is
kind_not_intrman FixedPool is = cc is

module _ (s : System) (library : ℕ) where
  abbrev k : Kernel
  k = s.core.kernel

  -- what a service of the library leaves of the kernel, the registered libraries and the blocks
  pub record IsApart (left : Kernel) (entries : List Entry) (used : BlockMap) : Type 0 where
    pub kernel : serves_kernel library ≡ false → left ≡ k
    pub intrman : library ≡ INTRMAN
        → left ≡ record k { interrupts = left.interrupts; irqs = left.irqs }
    pub irqs : library ≢ INTRMAN → left.irqs ≡ k.irqs
    pub timers : library ≢ THBASE → left.timers ≡ k.timers
    pub interrupts : library ≢ INTRMAN → library ≢ THBASE → left.interrupts ≡ k.interrupts
    pub dispatching : library ≢ THBASE → left.dispatching ≡ k.dispatching
    pub handler : left.handler ≡ k.handler
    pub libraries : library ≢ LOADCORE → entries ≡ s.libraries
    pub blocks : library ≢ SYSMEM → library ≢ THBASE → library ≢ THVPOOL → library ≢ THFPOOL
        → used ≡ s.blocks
    pub objects : (kind : Kind) → library ≢ library_of kind
        → KeepsObjects (table kind k) (table kind left)

  abbrev P : System → List Piece → Type 0
  P d given = IsApart d.core.kernel d.libraries d.blocks

  abbrev Q : After → System → List Piece → Type 0
  Q after d given = IsApart d.core.kernel d.libraries d.blocks

  -- the kernel is left
  still : (entries : List Entry) (blocks : BlockMap) → (library ≢ LOADCORE → entries ≡ s.libraries)
      → (library ≢ SYSMEM → library ≢ THBASE → library ≢ THVPOOL → library ≢ THFPOOL
      → blocks ≡ s.blocks) → IsApart k entries blocks
  still entries blocks libraries same_blocks = record {
    kernel = λ other. refl;
    intrman = λ own. refl;
    irqs = λ other. refl;
    timers = λ other. refl;
    interrupts = λ other another. refl;
    dispatching = λ other. refl;
    handler = refl;
    libraries = libraries;
    blocks = same_blocks;
    objects = λ kind other. same_tables k kind;
  }

  -- nothing changes
  nothing : IsApart k s.libraries s.blocks
  nothing = still s.libraries s.blocks (λ other. refl) (λ other another vpl fpl. refl)

  -- a library that serves the kernel may change it
  serving : (n : ℕ) → serves_kernel n ≡ true → library ≡ n → {A : Type 0}
      → serves_kernel library ≡ false → A
  serving n is own other = absurd (cc (ap serves_kernel own, is, other))

  -- sysmem changes the blocks
  by_sysmem : library ≡ SYSMEM → (blocks : BlockMap) → IsApart k s.libraries blocks
  by_sysmem own blocks =
      still s.libraries blocks (λ other. refl) (λ other another vpl fpl. absurd (other own))

  -- intrman changes whether interrupts are on, and the lines
  by_intrman : library ≡ INTRMAN → (interrupts : Bool) (irqs : List IrqLine)
      → IsApart (record k { interrupts = interrupts; irqs = irqs }) s.libraries s.blocks
  by_intrman own interrupts irqs = record {
    kernel = serving INTRMAN refl own;
    intrman = λ same. refl;
    irqs = λ other. absurd (other own);
    timers = λ other. refl;
    interrupts = λ other another. absurd (other own);
    dispatching = λ other. refl;
    handler = refl;
    libraries = λ other. refl;
    blocks = λ other another vpl fpl. refl;
    objects = λ kind other. same_tables k kind;
  }

  -- thbase all but the lines, the handler and the objects
  by_thbase : library ≡ THBASE → (left : Kernel) (blocks : BlockMap) → KeepsRest k left
      → IsApart left s.libraries blocks
  by_thbase own left blocks rest = record {
    kernel = serving THBASE refl own;
    intrman = λ same. absurd (cc (own, same));
    irqs = λ other. rest.0;
    timers = λ other. absurd (other own);
    interrupts = λ other another. absurd (another own);
    dispatching = λ other. absurd (other own);
    handler = rest.1;
    libraries = λ other. refl;
    blocks = λ other another vpl fpl. absurd (another own);
    objects = λ kind other. rest.2 kind;
  }

  -- those of objects their own, the threads, and the blocks where an object has one
  abbrev HasOwn : Kind → BlockMap → Type 0
  HasOwn kind blocks =
      library_of kind ≢ THVPOOL → library_of kind ≢ THFPOOL → blocks ≡ s.blocks

  by_blocks : (kind : Kind) → library ≡ library_of kind → (threads : ThreadTable)
      (left : Table kind) (blocks : BlockMap) → HasOwn kind blocks
      → IsApart (with_table kind (record k { threads = threads }) left) s.libraries blocks
  by_blocks kind own threads left blocks has = record {
    kernel = serving (library_of kind) (kind_serves kind) own;
    intrman = λ same. absurd (kind_not_intrman kind (sym own ∙ same));
    irqs = λ other. refl;
    timers = λ other. refl;
    interrupts = λ other another. refl;
    dispatching = λ other. refl;
    handler = refl;
    libraries = λ other. refl;
    blocks = λ other another vpl fpl. has (λ same. vpl (own ∙ same)) (λ same. fpl (own ∙ same));
    objects =
        each_table (λ other t. library ≢ library_of other → KeepsObjects (table other k) t) kind k
        left (λ other. absurd (other own)) (λ other apart another. same_tables k other);
  }

  by_kind : (kind : Kind) → library ≡ library_of kind → (threads : ThreadTable) (left : Table kind)
      → IsApart (with_table kind (record k { threads = threads }) left) s.libraries s.blocks
  by_kind kind own threads left = by_blocks kind own threads left s.blocks (λ vpl fpl. refl)

  made_own : (kind : Kind) (x : State kind) (blocks : BlockMap) → IsMadeOn kind x s.blocks blocks
      → HasOwn kind blocks
  made_own Semaphore x blocks same vpl fpl = same
  made_own EventFlag x blocks same vpl fpl = same
  made_own Mailbox x blocks same vpl fpl = same
  made_own VariablePool x blocks taken vpl fpl = absurd (vpl refl)
  made_own FixedPool x blocks taken vpl fpl = absurd (fpl refl)

  gone_own : (kind : Kind) (x : State kind) (blocks : BlockMap) → GoesFrom kind x s.blocks blocks
      → HasOwn kind blocks
  gone_own Semaphore x blocks same vpl fpl = same
  gone_own EventFlag x blocks same vpl fpl = same
  gone_own Mailbox x blocks same vpl fpl = same
  gone_own VariablePool x blocks freed vpl fpl = absurd (vpl refl)
  gone_own FixedPool x blocks freed vpl fpl = absurd (fpl refl)

  -- those that are met change the threads and the variable pools alone
  meets_own : library ≡ THVPOOL → (id : ℕ) (pools : VariablePools)
      → IsApart (meets_all id (with_variable_pools s.core pools)).kernel s.libraries s.blocks
  meets_own own id pools =
      let met = all_met id (with_variable_pools s.core pools) in
      subst (λ (d : Core). IsApart d.kernel s.libraries s.blocks) (sym met.core)
      (by_kind VariablePool own (wakes_met k.threads met.met) met.pools)

  -- each change of a service of the library
  pub apart : Moves P Q ⊤ s library
  apart = record {
    each = record {
      begins = nothing;
      stores = λ d given place bytes inside h. h;
      goes_on = λ d given word h. h;
      bad_place = nothing;
      no_thread = λ asked none. nothing;
      prints = λ text. nothing;
    };
    registry = λ own. record {
      registers = λ libraries.
          still libraries s.blocks (λ other. absurd (other own))
          (λ other another vpl fpl. refl);
    };
    blocks = λ own. record {
      takes = λ mode size at. by_sysmem own _;
      frees = λ at. by_sysmem own _;
    };
    interrupts = λ own. record {
      lines = λ left. by_intrman own _ left;
      turns = λ on. by_intrman own on _;
    };
    alarms = λ own. record {
      sets = λ moment handler arg. by_thbase own _ _ (same_rest k);
      cancels = λ handler arg. by_thbase own _ _ (same_rest k);
    };
    threads = λ own. record {
      dispatch = λ enabled on asks. by_thbase own _ _ (same_rest k);
      creates = λ size param stack blocks is. by_thbase own _ _ (same_rest k);
      deletes = λ id stack left is. by_thbase own _ _ (same_rest k);
      starts = λ id argument. by_thbase own _ _ (same_rest k);
      ends = λ id is other leave. by_thbase own _ _ (same_rest k);
      ends_deleted = λ id stack left is other did leave. by_thbase own _ _ (same_rest k);
      returns = λ id word is loader leave. by_thbase own _ _ (same_rest k);
      terminates = λ id wait left other is rests.
          by_thbase own _ _ (leaving_rest (with_threads s.core left).kernel id wait);
      terminates_running = λ id wait left other is runs.
          by_thbase own _ _ (leaving_rest (with_threads (opened s.core) left).kernel id wait);
      changes = λ id priority wait left is.
          by_thbase own _ _ (requeueing_rest (with_threads s.core left).kernel id priority wait);
      rotates = λ priority other. by_thbase own _ _ (same_rest k);
      rotates_beside = λ priority same may is. by_thbase own _ _ (same_rest k);
      rotates_own = λ priority id same may is leave. by_thbase own _ _ (same_rest k);
      releases = λ id t wait found is.
          by_thbase own _ _
          (leaving_rest (wakes_with s.core t.id WAIT_RELEASED).kernel t.id (Some wait));
      takes_wakeup = λ left is. by_thbase own _ _ (same_rest k);
      sleeps = λ left is may asks leave. by_thbase own _ _ (same_rest k);
      wakes_up = λ id other. by_thbase own _ _ (same_rest k);
      cancels = λ id. by_thbase own _ _ (same_rest k);
      suspends = λ id other may. by_thbase own _ _ (same_rest k);
      resumes = λ id other. by_thbase own _ _ (same_rest k);
      delays = λ moment thread is may leave. by_thbase own _ _ (same_rest k);
    };
    objects = λ kind own. record {
      makes = λ x blocks legal made. by_blocks kind own _ _ blocks (made_own kind x blocks made);
      deletes = λ o blocks found gone.
          by_blocks kind own _ _ blocks (gone_own kind o.state blocks gone);
      changes = λ id x y known how. by_kind kind own _ _;
      wakes = λ id word x one known chosen is. by_kind kind own _ _;
      waits = λ id thread x wants is may known must place leave. by_kind kind own _ _;
    };
    sets = λ own bits o found. by_kind EventFlag own _ _;
    meets = λ own id block x known there. meets_own own id _;
  }

-- each service leaves what is not its library's
pub serves_apart : (s : System) (x : Service) → let d = serves s x in
    IsApart s (home x) d.left.state.core.kernel d.left.state.libraries d.left.state.blocks
serves_apart s x = serves_goes x (apart s (home x)) (λ asked. tt) (λ leave. tt)

-- so does the thread that ends
pub exits_apart : (s : System)
    → IsApart s THBASE (exit_thread s.core).state.kernel s.libraries s.blocks
exits_apart s =
    let m = apart s THBASE in
    exits_go m.each (m.threads refl) (λ none. nothing s THBASE) tt (caller s.core) refl

-- so does a call of a library
pub library_stays : (s : System) (library number : ℕ)
    → let left = (calls_library library number s).left.state in
    IsApart s library left.core.kernel left.libraries left.blocks
library_stays s library number =
    library_goes library number (apart s library) (nothing s library) (asked_not s)
