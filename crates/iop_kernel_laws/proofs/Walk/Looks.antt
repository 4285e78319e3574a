-- What looks at the kernel's clock alone, if at the kernel at all, lasts over each change of the
-- kernel.
use Rattle.std.proofs.Common.{◌≡◌, ℕ, Option, Some, List, [], refl, sym, subst}
use Rattle.iop_base.specs.Piece.{Piece}
use Rattle.iop_base.specs.declared.code.TheConstants.Code.{WAIT_RELEASED}
use Rattle.iop_registry.specs.declared.registry.Entry.{Entry}
use Rattle.iop_sysmem.specs.Allocating.{allocating}
use Rattle.iop_sysmem.specs.BlockMap.{BlockMap, freeing}
use Rattle.iop_thread.specs.declared.kind.Kind.{Kind}
use Rattle.iop_thread.specs.declared.kind.Kind.TheVariants.{Semaphore, EventFlag, Mailbox, VariablePool, FixedPool}
use Rattle.iop_thread.specs.declared.wait.Wait.{Wait}
use Rattle.iop_thread.specs.declared.wait.Wait.TheVariants.{Delay, Object}
use Rattle.iop_kernel.specs.Kinds.{State}
use Rattle.iop_kernel.specs.System.{Core, System, with_threads, opened}
use Rattle.iop_kernel.specs.Waits.{core_leaves, core_requeues, wakes_with}
use Rattle.iop_kernel.specs.declared.after.After.{After}
use Rattle.iop_kernel.specs.declared.after.After.TheVariants.{Switch, ModuleReturned}
use Rattle.iop_kernel.specs.declared.pool_services.TheConstants.{FROM_BELOW}
use Rattle.iop_kernel.specs.declared.stacks.TheConstants.{FROM_ABOVE}
use Rattle.iop_kernel.proofs.Walk.Changes.{IsMadeOn, GoesFrom}
use Rattle.iop_kernel.proofs.Walk.Meeting.{meets_clock}
use Rattle.iop_kernel.proofs.Walk.Moves.{EachMoves, ServiceMoves}

-- a thread that waits no more leaves the clock as it is
leaves_clock : (c : Core) (thread : ℕ) (wait : Option Wait)
    → (core_leaves c thread wait).kernel.clock ≡ c.kernel.clock
leaves_clock c thread (Some Delay) = refl
leaves_clock c thread (Some (Object kind id)) = refl
leaves_clock c thread other = refl

-- so does one of another priority
requeues_clock : (c : Core) (thread priority : ℕ) (wait : Option Wait)
    → (core_requeues c thread priority wait).kernel.clock ≡ c.kernel.clock
requeues_clock c thread priority (Some (Object kind id)) = refl
requeues_clock c thread priority other = refl

module _ (P : System → List Piece → Type 0) (Q : After → System → List Piece → Type 0)
    (Asks : Type 0) (s : System) where
  -- at the same moment
  abbrev IsNow : Core → Type 0
  IsNow c = c.kernel.clock ≡ s.core.kernel.clock

  pub record Looks (MayLeave : Type 0) : Type 0 where
    pub each : EachMoves P Q Asks s
    -- the kernel and its processor change
    pub cores : (c : Core) → IsNow c → P (record s { core = c }) []
    -- and a block is taken or freed
    pub takes : (mode size at stack : ℕ) (blocks : BlockMap) (c : Core) → IsNow c
        → allocating s.blocks mode size at ≡ (stack, blocks)
        → P (record s { core = c; blocks = blocks }) []
    pub frees : (stack : ℕ) (c : Core) → IsNow c
        → P (record s { core = c; blocks = (freeing s.blocks stack).1 }) []
    pub registers : (libraries : List Entry) → P (record s { libraries = libraries }) []
    -- the caller does not go on
    pub switches : (d : System) → P d [] → MayLeave → Q Switch d []
    pub returns : (word : ℕ) → MayLeave
        → Q (ModuleReturned word) (record s { core = opened s.core }) []

  module _ {MayLeave : Type 0} (h : Looks MayLeave) where
    kept : (blocks : BlockMap) → blocks ≡ s.blocks → (c : Core) → IsNow c
        → P (record s { core = c; blocks = blocks }) []
    kept blocks same c now =
        subst (λ (b : BlockMap). P (record s { core = c; blocks = b }) []) (sym same) (h.cores c now)

    freed : (base : ℕ) (blocks : BlockMap) → blocks ≡ (freeing s.blocks base).1 → (c : Core)
        → IsNow c → P (record s { core = c; blocks = blocks }) []
    freed base blocks same c now =
        subst (λ (b : BlockMap). P (record s { core = c; blocks = b }) []) (sym same)
        (h.frees base c now)

    -- an object is made on a block, or none
    made_on : (kind : Kind) (x : State kind) (blocks : BlockMap) → IsMadeOn kind x s.blocks blocks
        → (c : Core) → IsNow c → P (record s { core = c; blocks = blocks }) []
    made_on Semaphore x blocks same c now = kept blocks same c now
    made_on EventFlag x blocks same c now = kept blocks same c now
    made_on Mailbox x blocks same c now = kept blocks same c now
    made_on VariablePool x blocks on c now = h.takes FROM_BELOW x.size 0 x.base blocks c now on.taken
    made_on FixedPool x blocks on c now = h.takes FROM_BELOW x.size 0 x.base blocks c now on.taken

    -- it goes, and its block with it
    gone_from : (kind : Kind) (x : State kind) (blocks : BlockMap) → GoesFrom kind x s.blocks blocks
        → (c : Core) → IsNow c → P (record s { core = c; blocks = blocks }) []
    gone_from Semaphore x blocks same c now = kept blocks same c now
    gone_from EventFlag x blocks same c now = kept blocks same c now
    gone_from Mailbox x blocks same c now = kept blocks same c now
    gone_from VariablePool x blocks same c now = freed x.base blocks same c now
    gone_from FixedPool x blocks same c now = freed x.base blocks same c now

  pub looks_aside : {MayLeave : Type 0} → Looks MayLeave → (library : ℕ)
      → ServiceMoves P Q Asks s MayLeave library
  looks_aside h library = record {
    each = h.each;
    registry = λ own_library. record { registers = h.registers };
    blocks = λ own_library. record {
      takes = λ mode size at. let r = allocating s.blocks mode size at in
          h.takes mode size at r.0 r.1 s.core refl refl;
      frees = λ at. h.frees at s.core refl;
    };
    interrupts =
        λ own_library. record { lines = λ left. h.cores _ refl; turns = λ on. h.cores _ refl };
    alarms = λ own_library. record {
      sets = λ moment handler arg. h.cores _ refl;
      cancels = λ handler arg. h.cores _ refl;
    };
    threads = λ own_library. record {
      dispatch = λ enabled on asks. h.cores _ refl;
      creates = λ size param stack blocks is. h.takes FROM_ABOVE size 0 stack blocks _ refl is;
      deletes = λ id stack left is. h.frees stack _ refl;
      starts = λ id argument. h.cores _ refl;
      ends = λ id is other leave. h.switches _ (h.cores _ refl) leave;
      ends_deleted = λ id stack left is other did leave.
          h.switches _ (h.frees stack _ refl) leave;
      returns = λ id word is loader leave. h.returns word leave;
      terminates = λ id wait left other is rests.
          h.cores _ (leaves_clock (with_threads s.core left) id wait);
      terminates_running = λ id wait left other is runs.
          h.cores _ (leaves_clock (with_threads (opened s.core) left) id wait);
      changes = λ id priority wait left is.
          h.cores _ (requeues_clock (with_threads s.core left) id priority wait);
      rotates = λ priority other. h.cores _ refl;
      rotates_beside = λ priority own may is. h.cores _ refl;
      rotates_own = λ priority id own may is leave. h.switches _ (h.cores _ refl) leave;
      releases = λ id t wait found is.
          h.cores _ (leaves_clock (wakes_with s.core t.id WAIT_RELEASED) t.id (Some wait));
      takes_wakeup = λ left is. h.cores _ refl;
      sleeps = λ left is may asks leave. h.switches _ (h.cores _ refl) leave;
      wakes_up = λ id other. h.cores _ refl;
      cancels = λ id. h.cores _ refl;
      suspends = λ id other may. h.cores _ refl;
      resumes = λ id other. h.cores _ refl;
      delays = λ moment thread is may leave. h.switches _ (h.cores _ refl) leave;
    };
    objects = λ kind own_library. record {
      makes = λ x blocks legal made. made_on h kind x blocks made _ refl;
      deletes = λ o blocks found gone. gone_from h kind o.state blocks gone _ refl;
      changes = λ id x y known how. h.cores _ refl;
      wakes = λ id word x one known chosen is. h.cores _ refl;
      waits = λ id thread x wants is may known must place leave.
          h.switches _ (h.cores _ refl) leave;
    };
    sets = λ own_library bits o found. h.cores _ refl;
    meets = λ own_library id block x known there. h.cores _ (meets_clock id _);
  }
