-- The ranges that are out of each pool are apart and inside of it, whatever is served.
use Rattle.std.proofs.Common.{◌≡◌, ◌≢◌, ℕ, ◌+◌, ◌^◌, ◌<◌, true, Option, Some, None, List, ap, sym, subst, arith}
use Rattle.std.specs.Prelude.{⊤}
use Rattle.std.proofs.lemmas.Bool.Decides.{nat_tests}
use Rattle.iop_base.specs.Piece.{Piece}
use Rattle.iop_exec.specs.Row.{reg}
use Rattle.iop_objects.specs.Objects.{with_waiters}
use Rattle.iop_objects.specs.declared.waiter.Waiter.{Waiter}
use Rattle.iop_objects.proofs.EachObject.{each_with_waiters, each_with_state, each_creates, each_deletes}
use Rattle.iop_pools.specs.Pools.{Pool, with_ranges}
use Rattle.iop_pools.specs.Ranges.{without}
use Rattle.iop_pools.specs.Standing.{AreInOrder, ArePlaced, IsPool}
use Rattle.iop_pools.specs.VariablePools.{VariablePools, meets_next}
use Rattle.iop_pools.specs.declared.met.Met.{Met}
use Rattle.iop_pools.specs.declared.variable_pool.TheConstants.{MOST_RANGES}
use Rattle.iop_pools.proofs.KeptPools.{pool_taken, pool_freed}
use Rattle.iop_pools.proofs.MetNext.{met_next}
use Rattle.iop_queues.specs.declared.queued.Queued.{Queued}
use Rattle.iop_sysmem.specs.BlockMap.{BlockMap, AreBlocks}
use Rattle.iop_thread.specs.declared.kind.Kind.{Kind}
use Rattle.iop_thread.specs.declared.kind.Kind.TheVariants.{Semaphore, EventFlag, Mailbox, VariablePool, FixedPool}
use Rattle.iop_thread.specs.declared.wait.Wait.{Wait}
use Rattle.iop_thread.specs.declared.wait.Wait.TheVariants.{Object}
use Rattle.iop_kernel.specs.Kinds.{State, Wants, Table, table, with_table}
use Rattle.iop_kernel.specs.PoolMemory.{IsSound, AreSound, PoolsAreSound}
use Rattle.iop_kernel.specs.Serving.{services}
use Rattle.iop_kernel.specs.System.{Kernel, System, with_variable_pools}
use Rattle.iop_kernel.specs.Waits.{leaves_object, requeues_at}
use Rattle.iop_kernel.specs.declared.after.After.{After}
use Rattle.iop_kernel.specs.declared.pool_services.TheConstants.{FROM_BELOW}
use Rattle.iop_kernel.proofs.Bodies.KindTables.{each_table}
use Rattle.iop_kernel.proofs.Bodies.StackBlocks.{taken_ends}
use Rattle.iop_kernel_laws.proofs.Keeping.Handlers.{gives_to}
use Rattle.iop_kernel.proofs.Walk.Changes.{IsNew, TakesBlock, IsFirst, IsMadeOn, Changes}
use Rattle.iop_kernel.proofs.Walk.Changes.FixedChanges.{takes as takes_block, gives}
use Rattle.iop_kernel.proofs.Walk.Changes.VariableChanges.{takes}
use Rattle.iop_kernel.proofs.Walk.Meeting.{meets_last}
use Rattle.iop_kernel.proofs.Walk.Moves.{Moves, CallMoves}
use Rattle.iop_kernel.proofs.Walk.Services.{services_go, asked_not}

-- whatever waits for it
abbrev SoundWith : (kind : Kind) → State kind → List (Queued (Waiter (Wants kind))) → Type 0
SoundWith kind x waiters = IsSound kind x

module _ (k : Kernel) (h : PoolsAreSound k) where
  -- other objects of a kind
  with_others : (kind : Kind) (left : Table kind) → AreSound kind left
      → PoolsAreSound (with_table kind k left)
  with_others kind left so = each_table AreSound kind k left so (λ other apart. h other)

  -- a thread is no longer among those that wait for the object of its wait, or for a time
  leaves_sound : (thread : ℕ) (wait : Option Wait) → PoolsAreSound (leaves_object k thread wait)
  leaves_sound thread (Some (Object kind id)) =
      with_others kind _
      (each_with_waiters (SoundWith kind) (table kind k) (h kind) id _ (λ x is sound. sound))
  leaves_sound thread other = h

  -- a thread has another priority among them
  requeues_sound : (thread priority : ℕ) (wait : Option Wait)
      → PoolsAreSound (requeues_at k thread priority wait)
  requeues_sound thread priority (Some (Object kind id)) =
      with_others kind _
      (each_with_waiters (SoundWith kind) (table kind k) (h kind) id _ (λ x is sound. sound))
  requeues_sound thread priority other = h

-- what is known of an object changes
changed_sound : (kind : Kind) (s : Table kind) (id : ℕ) (x y : State kind) → IsSound kind x
    → Changes kind s id x y → IsSound kind y
changed_sound Semaphore s id x y sound how = tt
changed_sound EventFlag s id x y sound how = tt
changed_sound Mailbox s id x y sound how = tt
changed_sound VariablePool s id x y sound (takes size place some is) =
    let positive : 0 < size = grind (arith, nat_tests, some) in
    pool_taken _ x sound size place positive is
changed_sound FixedPool s id x y sound (takes_block place is) =
    pool_taken _ x sound x.unit place sound.unit is
changed_sound FixedPool s id x y sound (gives block there none) =
    pool_freed _ x sound block

-- one thread is met, and its memory taken
met_sound : (s left : VariablePools) → AreSound VariablePool s → (id : ℕ) (met : Met)
    → meets_next s id ≡ (Some met, left) → AreSound VariablePool left
met_sound s left h id met is =
    let m = met_next s id met left is in
    let rest = with_waiters s id m.one.others in
    let waiting = each_with_waiters (SoundWith VariablePool) s h id m.one.others
    (λ x known sound. sound) in
    let some = m.some in
    let positive : 0 < m.one.one.item.wants = grind (arith, nat_tests, some) in
    subst (AreSound VariablePool) (sym m.leaves)
    (each_with_state (SoundWith VariablePool) rest waiting id _
    (pool_taken MOST_RANGES m.x (h id m.x m.known) m.one.one.item.wants met.block positive m.place))

module _ (s : System) (blocks : AreBlocks s.blocks) (size : s.blocks.size < 2 ^ 32)
    (h : PoolsAreSound s.core.kernel) where
  abbrev k : Kernel
  k = s.core.kernel

  -- one is made on a block
  new_sound : (most : ℕ) (x : Pool) (left : BlockMap) → IsNew most x → TakesBlock x s.blocks left
      → IsPool most x
  new_sound most x left new on =
      let some = on.some in
      let there : x.base ≢ 0 = λ none. grind (arith, nat_tests, some, none) in
      let ends = taken_ends s.blocks blocks FROM_BELOW x.size 0 x.base
      (sym (ap (λ t. t.0) on.taken)) there in
      record {
        unit = new.unit;
        units = new.units;
        size = new.size;
        few = new.few;
        inside = omega (arith, ends, size);
        order =
            subst (AreInOrder x.base (x.base + x.size)) (sym new.none) (omega arith);
        placed = subst (ArePlaced x.base x.unit) (sym new.none) tt;
      }

  first_sound : (kind : Kind) (x : State kind) (left : BlockMap) → IsFirst kind x
      → IsMadeOn kind x s.blocks left → IsSound kind x
  first_sound Semaphore x left first on = tt
  first_sound EventFlag x left first on = tt
  first_sound Mailbox x left first on = tt
  first_sound VariablePool x left first on = new_sound _ x left first on
  first_sound FixedPool x left first on = new_sound _ x left first on

  abbrev P : System → List Piece → Type 0
  P d given = PoolsAreSound d.core.kernel

  abbrev Q : After → System → List Piece → Type 0
  Q after d given = PoolsAreSound d.core.kernel

  sound_moves : (library : ℕ) → Moves P Q ⊤ s library
  sound_moves library = record {
    each = record {
      begins = h;
      stores = λ d given place bytes inside now. now;
      goes_on = λ d given word now. now;
      bad_place = h;
      no_thread = λ asked none. h;
      prints = λ text. h;
    };
    registry = λ own_library. record { registers = λ libraries. h };
    blocks = λ own_library. record { takes = λ mode size at. h; frees = λ at. h };
    interrupts = λ own_library. record { lines = λ left. h; turns = λ on. h };
    alarms = λ own_library. record {
      sets = λ moment handler arg. h;
      cancels = λ handler arg. h;
    };
    threads = λ own_library. record {
      dispatch = λ enabled on asks. h;
      creates = λ size param stack blocks is. h;
      deletes = λ id stack left is. h;
      starts = λ id argument. h;
      ends = λ id is other leave. h;
      ends_deleted = λ id stack left is other did leave. h;
      returns = λ id word is loader leave. h;
      terminates = λ id wait left other is rests. leaves_sound _ h id wait;
      terminates_running = λ id wait left other is runs. leaves_sound _ h id wait;
      changes = λ id priority wait left is. requeues_sound _ h id priority wait;
      rotates = λ priority other. h;
      rotates_beside = λ priority own may is. h;
      rotates_own = λ priority id own may is leave. h;
      releases = λ id t wait found is. leaves_sound _ h t.id (Some wait);
      takes_wakeup = λ left is. h;
      sleeps = λ left is may asks leave. h;
      wakes_up = λ id other. h;
      cancels = λ id. h;
      suspends = λ id other may. h;
      resumes = λ id other. h;
      delays = λ moment thread is may leave. h;
    };
    objects = λ kind own_library. let t = table kind k in let S = SoundWith kind in record {
      makes = λ x left first on. with_others k h kind _
          (each_creates S t (h kind) x (first_sound kind x left first on));
      deletes = λ o left found gone. with_others k h kind _ (each_deletes S t (h kind) o.id);
      changes = λ id x y known how. with_others k h kind _
          (each_with_state S t (h kind) id y
          (changed_sound kind t id x y (h kind id x known) how));
      wakes = λ id word x one known chosen is. with_others k h kind _
          (each_with_waiters S t (h kind) id _ (λ y now sound. sound));
      waits = λ id thread x wants is may known must place leave. with_others k h kind _
          (each_with_waiters S t (h kind) id _ (λ y now sound. sound));
    };
    sets = λ own_library bits o found. with_others k h EventFlag _ (λ id x known. tt);
    meets = λ own_library id block x known there.
        meets_last (λ d. PoolsAreSound d.kernel) id
        (λ c met left is now. with_others c.kernel now VariablePool left
        (met_sound c.kernel.variable_pools left (now VariablePool) id met is))
        (with_variable_pools s.core
        (with_ranges k.variable_pools id x (without block x.ranges)))
        (with_others k h VariablePool _
        (each_with_state (SoundWith VariablePool) k.variable_pools (h VariablePool) id _
        (pool_freed MOST_RANGES x (h VariablePool id x known) block)));
  }

  sound_calls : CallMoves P Q ⊤ s
  sound_calls = record {
    unlisted = λ library number. h;
    no_service = h;
    handler = λ handler is.
        subst (λ (left : Kernel). PoolsAreSound (record left { interrupts = true; handler = None }))
        (sym (gives_to k handler.cause (reg s.core.cpu 2)).is) h;
  }

  -- whatever is served
  pub services_sound : (code : ℕ) → PoolsAreSound (services s code).left.state.core.kernel
  services_sound code = services_go sound_moves sound_calls (asked_not s) code
