-- The objects of each kind stay sound over each small change that a service makes.
use Rattle.std.proofs.Common.{◌≡◌, ℕ, Option, Some, List, [], refl, sym, ◌∙◌, subst}
use Rattle.std.specs.Prelude.{⊤, bit_or}
use Rattle.std.proofs.lemmas.Option.{same_Some}
use Rattle.iop_base.specs.Piece.{Piece}
use Rattle.iop_event.specs.WakeConditions.{settles}
use Rattle.iop_objects.specs.Objects.{AreObjects, state_of, waiters_of}
use Rattle.iop_objects.proofs.Chosen.{taken_by}
use Rattle.iop_objects.proofs.EachObject.{each_changes, found_holds}
use Rattle.iop_objects.proofs.OtherWaiters.{left_taken, left_without, left_requeued}
use Rattle.iop_pools.specs.Pools.{with_ranges}
use Rattle.iop_pools.specs.Ranges.{without}
use Rattle.iop_pools.specs.declared.variable_pool.TheConstants.{MOST_RANGES}
use Rattle.iop_pools.proofs.KeptPools.{pool_freed}
use Rattle.iop_sysmem.specs.BlockMap.{BlockMap}
use Rattle.iop_thread.specs.declared.kind.Kind.{Kind}
use Rattle.iop_thread.specs.declared.kind.Kind.TheVariants.{EventFlag, VariablePool}
use Rattle.iop_thread.specs.declared.wait.Wait.{Wait}
use Rattle.iop_thread.specs.declared.wait.Wait.TheVariants.{Object as ForObject}
use Rattle.iop_kernel.specs.Kinds.{State, Wants, Live, Table, table, with_table, waits_by_priority, is_by_priority}
use Rattle.iop_kernel.specs.Placing.{IsPlaced}
use Rattle.iop_kernel.specs.System.{Kernel, System, with_variable_pools}
use Rattle.iop_kernel.specs.Waits.{leaves_object, requeues_at}
use Rattle.iop_kernel.specs.declared.after.After.{After}
use Rattle.iop_kernel.proofs.Bodies.KindTables.{each_table}
use Rattle.iop_kernel.proofs.Keeping.Meetings.{set_flags}
use Rattle.iop_kernel.proofs.Walk.Changes.{IsFirst, IsMadeOn, Changes, HasToWait}
use Rattle.iop_kernel.proofs.Walk.Meeting.{meets_last}
use Rattle.iop_kernel.proofs.Walk.Moves.{EachMoves, RegistryMoves, BlockMoves, InterruptMoves, AlarmMoves, ThreadMoves, ObjectMoves, Sets, Meets}
use Rattle.iop_resumable.proofs.Changed.{CanChange, IsPoolOf, changed, changed_few, first_sound, first_empty}
use Rattle.iop_resumable.proofs.Sound.{Sound}
use Rattle.iop_resumable.proofs.Standing.{Stand, Stands, stand_waiters, stand_left, stand_state, stand_creates, stand_deletes}
use Rattle.iop_resumable.proofs.Waited.{CanWait, waited, settled_sound, met_sound}

module _ (k : Kernel) (are : (kind : Kind) → AreObjects (table kind k)) (h : Stands k) where
  -- other objects of a kind
  pub with_others : (kind : Kind) (left : Table kind) → Stand kind left
      → Stands (with_table kind k left)
  with_others kind left so = each_table Stand kind k left so (λ other apart. h other)

  -- a thread is no longer among those that wait for the object of its wait, or for a time
  pub leaves_standing : (thread : ℕ) (wait : Option Wait) → Stands (leaves_object k thread wait)
  leaves_standing thread (Some (ForObject kind id)) =
      with_others kind _
      (stand_left kind (table kind k) (are kind) (h kind) id _
      (left_without thread (waiters_of (table kind k) id)))
  leaves_standing thread other = h

  -- a thread has another priority among them
  pub requeues_standing : (thread priority : ℕ) (wait : Option Wait)
      → Stands (requeues_at k thread priority wait)
  requeues_standing thread priority (Some (ForObject kind id)) =
      with_others kind _
      (stand_left kind (table kind k) (are kind) (h kind) id _
      (left_requeued (is_by_priority kind (table kind k) id) thread priority
      (waiters_of (table kind k) id)))
  requeues_standing thread priority other = h

abbrev pub P : System → List Piece → Type 0
P d given = Stands d.core.kernel

abbrev pub Q : After → System → List Piece → Type 0
Q after d given = Stands d.core.kernel

module _ (s : System) (placed : IsPlaced s.core.kernel) (h : Stands s.core.kernel) where
  abbrev k : Kernel
  k = s.core.kernel

  are : (kind : Kind) → AreObjects (table kind s.core.kernel)
  are kind = (placed.objects kind).sound

  pub each_moves : EachMoves P Q ⊤ s
  each_moves = record {
    begins = h;
    stores = λ d given place bytes inside now. now;
    goes_on = λ d given word now. now;
    bad_place = h;
    no_thread = λ asked none. h;
    prints = λ text. h;
  }

  pub registry_moves : RegistryMoves P Q ⊤ s
  registry_moves = record { registers = λ libraries. h }

  pub block_moves : BlockMoves P Q ⊤ s
  block_moves = record { takes = λ mode size at. h; frees = λ at. h }

  pub interrupt_moves : InterruptMoves P Q ⊤ s
  interrupt_moves = record { lines = λ left. h; turns = λ on. h }

  pub alarm_moves : AlarmMoves P Q ⊤ s
  alarm_moves = record {
    sets = λ moment handler arg. h;
    cancels = λ handler arg. h;
  }

  pub thread_moves : {MayLeave : Type 0} → ThreadMoves P Q ⊤ s MayLeave
  thread_moves = record {
    dispatch = λ enabled on asks. h;
    creates = λ size param stack blocks is. h;
    deletes = λ id stack left is. h;
    starts = λ id argument. h;
    ends = λ id is other leave. h;
    ends_deleted = λ id stack left is other did leave. h;
    returns = λ id word is loader leave. h;
    terminates = λ id wait left other is rests. leaves_standing _ are h id wait;
    terminates_running = λ id wait left other is runs. leaves_standing _ are h id wait;
    changes = λ id priority wait left is. requeues_standing _ are h id priority wait;
    rotates = λ priority other. h;
    rotates_beside = λ priority own may is. h;
    rotates_own = λ priority id own may is leave. h;
    releases = λ id t wait found is. leaves_standing _ are h t.id (Some wait);
    takes_wakeup = λ left is. h;
    sleeps = λ left is may asks leave. h;
    wakes_up = λ id other. h;
    cancels = λ id. h;
    suspends = λ id other may. h;
    resumes = λ id other. h;
    delays = λ moment thread is may leave. h;
  }

  module _ {MayLeave : Type 0} (kind : Kind)
      (made : (x : State kind) (blocks : BlockMap) → IsFirst kind x
      → IsMadeOn kind x s.blocks blocks → IsPoolOf kind → Sound kind x [])
      (can : (id : ℕ) (x y : State kind) (how : Changes kind (table kind s.core.kernel) id x y)
      → CanChange kind (table kind s.core.kernel) id x y how)
      (may_wait : MayLeave → (id : ℕ) (x : State kind) (wants : Wants kind)
      → state_of (table kind s.core.kernel) id ≡ Some x
      → HasToWait kind (table kind s.core.kernel) id x wants → CanWait kind x wants) where
    abbrev t : Table kind
    t = table kind s.core.kernel

    pub object_moves : ObjectMoves P Q ⊤ s MayLeave kind
    object_moves = record {
      makes = λ x left first on.
          with_others k are h kind _ (stand_creates kind t (are kind) (h kind) x
          (first_empty kind x first) (first_sound kind x first (made x left first on)));
      deletes = λ o left found gone.
          with_others k are h kind _ (stand_deletes kind t (are kind) (h kind) o.id);
      changes = λ id x y known how.
          with_others k are h kind _ (stand_state kind t (are kind) (h kind) id x y known
          (changed_few kind t id x y (h kind).few how)
          (changed kind t id x y how (can id x y how) (waiters_of t id)));
      wakes = λ id word x one known chosen is.
          with_others k are h kind _ (stand_left kind t (are kind) (h kind) id one.others
          (left_taken (taken_by (waits_by_priority kind x) (waiters_of t id) one chosen)));
      waits = λ id thread x wants is may known must place leave.
          with_others k are h kind _ (stand_waiters kind t (are kind) (h kind) id _
          (λ y there sound.
          let same : x ≡ y = same_Some x y (sym known ∙ there) in
          waited kind t id y _
          (subst (λ (z : State kind). HasToWait kind t id z wants) same must)
          (subst (λ (z : State kind). CanWait kind z wants) same
          (may_wait leave id x wants known must)) sound));
    }

  pub sets_flags : Sets P Q ⊤ s
  sets_flags bits o found =
      with_others k are h EventFlag (set_flags s.core o bits) (record {
        each = each_changes (Sound EventFlag) k.event_flags (h EventFlag).each o.id _ (λ u. refl)
            (λ u there.
            let same : o ≡ u = same_Some o u (sym found ∙ there) in
            subst (λ (u : Live EventFlag). Sound EventFlag
            (record u.state { pattern = (settles (bit_or o.state.pattern bits) o.waiters).pattern })
            (settles (bit_or o.state.pattern bits) o.waiters).waiters) same
            (settled_sound o.state (bit_or o.state.pattern bits) _ o.waiters
            (found_holds (Sound EventFlag) k.event_flags (h EventFlag).each o.id o found)));
        few = tt;
      })

  pub meets_pools : Meets P Q ⊤ s
  meets_pools id block x known there =
      meets_last (λ d. Stands d.kernel) id
      (λ c met left is now.
      each_table Stand VariablePool c.kernel left (record {
        each = met_sound c.kernel.variable_pools left (now VariablePool).each id met is;
        few = tt;
      }) (λ other apart. now other))
      (with_variable_pools s.core
      (with_ranges k.variable_pools id x (without block x.ranges)))
      (with_others k are h VariablePool _
      (stand_state VariablePool k.variable_pools (are VariablePool)
      (h VariablePool) id x _ known tt (λ sound. record {
        sound = pool_freed MOST_RANGES x sound.sound block;
        unit = sound.unit;
        layout = sound.layout;
        waiters = sound.waiters;
      })))
