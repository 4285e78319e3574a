-- Each thread that waits has a place for what it is told, whatever is served.
use Rattle.std.proofs.Common.{◌≡◌, ℕ, Option, Some, None, List, ◌∷◌, [], ◌++◌, All, length, true, refl, sym, subst}
use Rattle.std.specs.Prelude.{⊤, bit_or}
use Rattle.std.proofs.lemmas.List.Elements.{All-nil, All-push, All-weaker}
use Rattle.iop_base.specs.Piece.{Piece}
use Rattle.iop_base.specs.declared.code.TheConstants.Code.{WAIT_RELEASED}
use Rattle.iop_event.specs.WakeConditions.{settles}
use Rattle.iop_exec.specs.Row.{reg}
use Rattle.iop_objects.specs.Objects.{object_of, waiters_in, waiters_of, with_waiters}
use Rattle.iop_objects.proofs.Changes.{state_of-with_waiters}
use Rattle.iop_pools.specs.Pools.{with_ranges}
use Rattle.iop_pools.specs.Ranges.{without}
use Rattle.iop_pools.specs.VariablePools.{VariablePools, meets_next}
use Rattle.iop_pools.specs.declared.met.Met.{Met}
use Rattle.iop_pools.proofs.MetNext.{met_next}
use Rattle.iop_queues.specs.declared.queued.Queued.{Queued}
use Rattle.iop_objects.specs.declared.waiter.Waiter.{Waiter}
use Rattle.iop_objects.proofs.EachObject.{HoldsOfEach, found_holds, each_changes, each_with_waiters, each_with_state, each_creates, each_deletes}
use Rattle.iop_objects.proofs.OtherWaiters.{NoOthers, all_others, none_without, none_requeued, none_chosen_new, none_taken_new}
use Rattle.iop_stubs.specs.Stubs.{Memory}
use Rattle.iop_thread.specs.declared.kind.Kind.{Kind}
use Rattle.iop_thread.specs.declared.kind.Kind.TheVariants.{Semaphore, EventFlag, Mailbox, VariablePool, FixedPool}
use Rattle.iop_thread.specs.declared.wait.Wait.{Wait}
use Rattle.iop_thread.specs.declared.wait.Wait.TheVariants.{Object}
use Rattle.iop_kernel.specs.Kinds.{State, Wants, Live, Table, table, with_table, waits_by_priority, is_by_priority}
use Rattle.iop_kernel.specs.Serving.{services}
use Rattle.iop_kernel.specs.System.{Kernel, System, with_threads, with_variable_pools, opened}
use Rattle.iop_kernel.specs.WaiterPlaces.{HasPlace, HavePlaces}
use Rattle.iop_kernel.specs.Waits.{leaves_object, requeues_at, wakes_with}
use Rattle.iop_kernel.specs.declared.after.After.{After}
use Rattle.iop_kernel.proofs.Bodies.KindTables.{each_table}
use Rattle.iop_kernel_laws.proofs.Keeping.Handlers.{gives_to}
use Rattle.iop_kernel.proofs.Placing.Moves.{settled_flag, settled_rest}
use Rattle.iop_kernel.proofs.Walk.Meeting.{meets_last}
use Rattle.iop_kernel.proofs.Walk.Moves.{Moves, CallMoves}
use Rattle.iop_kernel.proofs.Walk.Services.{services_go, asked_not}

module _ (memory : Memory) where
  abbrev Has : (kind : Kind) → Queued (Waiter (Wants kind)) → Type 0
  Has kind x = HasPlace kind memory x.item.wants

  -- those that wait for an object have their places, whatever its state is
  abbrev AllHave : (kind : Kind) → State kind → List (Queued (Waiter (Wants kind))) → Type 0
  AllHave kind state waiters = All (Has kind) waiters

  -- told of the objects of a kind that are live
  abbrev Each : (kind : Kind) → Table kind → Type 0
  Each kind = HoldsOfEach (AllHave kind)

  abbrev EachKind : Kernel → Type 0
  EachKind k = (kind : Kind) → Each kind (table kind k)

  -- for one that is not live none waits
  all_have : (k : Kernel) → EachKind k → HavePlaces memory k
  all_have k h kind id = by (object_of (table kind k).live id) refl
    where
      by : (o : Option (Live kind)) → object_of (table kind k).live id ≡ o
          → All (Has kind) (waiters_in o)
      by None found = All-nil (Has kind)
      by (Some o) found = found_holds (AllHave kind) (table kind k) (h kind) id o found

  module _ (kind : Kind) (s : Table kind) (h : Each kind s) where
    -- none waits that did not
    others_have : (id : ℕ) (new : List (Queued (Waiter (Wants kind))))
        → NoOthers (waiters_of s id) new → Each kind (with_waiters s id new)
    others_have id new none =
        each_with_waiters (AllHave kind) s h id new
        (λ x is. all_others (λ w. HasPlace kind memory w.wants) (waiters_of s id) new none)

    -- one waits that has a place
    one_has : (id : ℕ) (x : Queued (Waiter (Wants kind))) → HasPlace kind memory x.item.wants
        → Each kind (with_waiters s id (waiters_of s id ++ x ∷ []))
    one_has id x has =
        each_with_waiters (AllHave kind) s h id _
        (λ known is all. All-push (Has kind) (waiters_of s id) x all has)

  module _ (k : Kernel) (h : EachKind k) where
    -- other objects of a kind
    with_others : (kind : Kind) (left : Table kind) → Each kind left
        → EachKind (with_table kind k left)
    with_others kind left so = each_table Each kind k left so (λ other apart. h other)

    -- a thread is no longer among those that wait for the object of its wait, or for a time
    leaves_have : (thread : ℕ) (wait : Option Wait) → EachKind (leaves_object k thread wait)
    leaves_have thread (Some (Object kind id)) =
        let t = table kind k in
        with_others kind _
        (others_have kind t (h kind) id _ (none_without thread (waiters_of t id)))
    leaves_have thread other = h

    -- a thread has another priority among them
    requeues_have : (thread priority : ℕ) (wait : Option Wait)
        → EachKind (requeues_at k thread priority wait)
    requeues_have thread priority (Some (Object kind id)) =
        let t = table kind k in
        with_others kind _ (others_have kind t (h kind) id _
        (none_requeued (is_by_priority kind t id) thread priority (waiters_of t id)))
    requeues_have thread priority other = h

  -- one is met, and its memory taken
  met_has : (k : Kernel) → EachKind k → (id : ℕ) (met : Met) (left : VariablePools)
      → meets_next k.variable_pools id ≡ (Some met, left) → Each VariablePool left
  met_has k h id met left is =
      let m = met_next k.variable_pools id met left is in
      let rest = others_have VariablePool k.variable_pools (h VariablePool) id m.one.others
      (none_taken_new m.taken) in
      subst (Each VariablePool) (sym m.leaves)
      (each_with_state (AllHave VariablePool) (with_waiters k.variable_pools id m.one.others)
      rest id _
      (rest id m.x (state_of-with_waiters k.variable_pools id m.x m.known m.one.others)))

module _ (s : System) (h : EachKind s.memory s.core.kernel) where
  abbrev k : Kernel
  k = s.core.kernel

  abbrev P : System → List Piece → Type 0
  P d given = EachKind s.memory d.core.kernel

  abbrev Q : After → System → List Piece → Type 0
  Q after d given = EachKind s.memory d.core.kernel

  place_moves : (library : ℕ) → Moves P Q ⊤ s library
  place_moves library = record {
    each = record {
      begins = h;
      stores = λ d given place bytes inside now. now;
      goes_on = λ d given word now. now;
      bad_place = h;
      no_thread = λ asked none. h;
      prints = λ text. h;
    };
    registry = λ own_library. record { registers = λ libraries. h };
    blocks = λ own_library. record { takes = λ mode size at. h; frees = λ at. h };
    interrupts = λ own_library. record { lines = λ left. h; turns = λ on. h };
    alarms = λ own_library. record {
      sets = λ moment handler arg. h;
      cancels = λ handler arg. h;
    };
    threads = λ own_library. record {
      dispatch = λ enabled on asks. h;
      creates = λ size param stack blocks is. h;
      deletes = λ id stack left is. h;
      starts = λ id argument. h;
      ends = λ id is other leave. h;
      ends_deleted = λ id stack left is other did leave. h;
      returns = λ id word is loader leave. h;
      terminates = λ id wait left other is rests.
          leaves_have s.memory (with_threads s.core left).kernel h id wait;
      terminates_running = λ id wait left other is runs.
          leaves_have s.memory (with_threads (opened s.core) left).kernel h id wait;
      changes = λ id priority wait left is.
          requeues_have s.memory (with_threads s.core left).kernel h id priority wait;
      rotates = λ priority other. h;
      rotates_beside = λ priority own may is. h;
      rotates_own = λ priority id own may is leave. h;
      releases = λ id t wait found is.
          leaves_have s.memory (wakes_with s.core t.id WAIT_RELEASED).kernel h t.id (Some wait);
      takes_wakeup = λ left is. h;
      sleeps = λ left is may asks leave. h;
      wakes_up = λ id other. h;
      cancels = λ id. h;
      suspends = λ id other may. h;
      resumes = λ id other. h;
      delays = λ moment thread is may leave. h;
    };
    objects = λ kind own_library. let t = table kind k in record {
      makes = λ x blocks legal made. with_others s.memory k h kind _
          (each_creates (AllHave s.memory kind) t (h kind) x (All-nil (Has s.memory kind)));
      deletes = λ o blocks found gone. with_others s.memory k h kind _
          (each_deletes (AllHave s.memory kind) t (h kind) o.id);
      changes = λ id x y known how. with_others s.memory k h kind _
          (each_with_state (AllHave s.memory kind) t (h kind) id y (h kind id x known));
      wakes = λ id word x one known chosen is. with_others s.memory k h kind _
          (others_have s.memory kind t (h kind) id _
          (none_chosen_new (waits_by_priority kind x) (waiters_of t id) one chosen));
      waits = λ id thread x wants is may known must place leave.
          with_others s.memory k h kind _ (one_has s.memory kind t (h kind) id _ place);
    };
    sets = λ own_library bits o found.
        let settled = settles (bit_or o.state.pattern bits) o.waiters in
        with_others s.memory k h EventFlag _
        (each_changes (AllHave s.memory EventFlag) k.event_flags (h EventFlag) o.id
        (settled_flag settled) (λ u. refl)
        (λ u is. settled_rest (Has s.memory EventFlag) (bit_or o.state.pattern bits) o.waiters
        (found_holds (AllHave s.memory EventFlag) k.event_flags (h EventFlag) o.id o found)));
    meets = λ own_library id block x known there.
        meets_last (λ d. EachKind s.memory d.kernel) id
        (λ c met left is now.
        with_others s.memory c.kernel now VariablePool left (met_has s.memory c.kernel now id met left is))
        (with_variable_pools s.core
        (with_ranges k.variable_pools id x (without block x.ranges)))
        (with_others s.memory k h VariablePool _
        (each_with_state (AllHave s.memory VariablePool) k.variable_pools (h VariablePool) id _
        (h VariablePool id x known)));
  }

  place_calls : CallMoves P Q ⊤ s
  place_calls = record {
    unlisted = λ library number. h;
    no_service = h;
    handler = λ handler is.
        subst (λ (left : Kernel). EachKind s.memory (record left {
          interrupts = true;
          handler = None;
        })) (sym (gives_to k handler.cause (reg s.core.cpu 2)).is) h;
  }

-- the places are those of each memory of that size
place_in : (old new : Memory) → length new.ram ≡ length old.ram → (kind : Kind)
    (wants : Wants kind) → HasPlace kind old wants → HasPlace kind new wants
place_in old new size Semaphore wants has = tt
place_in old new size EventFlag wants has = rw size has
place_in old new size Mailbox at has = rw size has
place_in old new size VariablePool wants has = tt
place_in old new size FixedPool wants has = tt

pub places_in : (old new : Memory) (k : Kernel) → length new.ram ≡ length old.ram
    → HavePlaces old k → HavePlaces new k
places_in old new k size h kind id =
    All-weaker (λ x. HasPlace kind old x.item.wants) (λ x. HasPlace kind new x.item.wants)
    (λ x has. place_in old new size kind x.item.wants has) (waiters_of (table kind k) id)
    (h kind id)

-- whatever is served
pub services_have_places : (s : System) (code : ℕ) → HavePlaces s.memory s.core.kernel
    → HavePlaces s.memory (services s code).left.state.core.kernel
services_have_places s code have =
    let h : EachKind s.memory s.core.kernel = λ kind id x known. have kind id in
    all_have s.memory (services s code).left.state.core.kernel
    (services_go (place_moves s h) (place_calls s h) (asked_not s) code)
