-- Pools stay inside of RAM, whatever is served.
use Rattle.std.proofs.Common.{◌≡◌, ℕ, ◌^◌, ◌≤◌, Bool, true, Some, None, Option, List, [], map, All, sym, ◌∙◌, subst, arith}
use Rattle.std.specs.Prelude.{⊤}
use Rattle.std.specs.List.{list_all}
use Rattle.std.proofs.lemmas.Bool.{and_parts, and_from}
use Rattle.std.proofs.lemmas.List.Folds.{list_all-map}
use Rattle.iop_base.specs.Piece.{Piece}
use Rattle.iop_exec.specs.Row.{reg}
use Rattle.iop_objects.specs.Objects.{Object, AreObjects, waiters_of, with_waiters}
use Rattle.iop_objects.specs.declared.waiter.Waiter.{Waiter}
use Rattle.iop_objects.proofs.EachLeft.{all_of_each, each_of_all}
use Rattle.iop_objects.proofs.EachObject.{HoldsOfEach, each_with_waiters, each_with_state, each_creates, each_deletes}
use Rattle.iop_pools.specs.Pools.{Pool, with_ranges}
use Rattle.iop_pools.specs.Ranges.{without}
use Rattle.iop_pools.specs.VariablePools.{VariablePools, meets_next}
use Rattle.iop_pools.specs.declared.met.Met.{Met}
use Rattle.iop_pools.proofs.MetNext.{met_next}
use Rattle.iop_queues.specs.declared.queued.Queued.{Queued}
use Rattle.iop_saved_checks.specs.Made.{is_inside, pools_of, pools_are_inside}
use Rattle.iop_saved_checks.proofs.Lists.{each_is, all_pass}
use Rattle.iop_sysmem.specs.BlockMap.{BlockMap, AreBlocks}
use Rattle.iop_thread.specs.declared.kind.Kind.{Kind}
use Rattle.iop_thread.specs.declared.kind.Kind.TheVariants.{Semaphore, EventFlag, Mailbox, VariablePool, FixedPool}
use Rattle.iop_thread.specs.declared.wait.Wait.{Wait}
use Rattle.iop_thread.specs.declared.wait.Wait.TheVariants.{Object as ForObject}
use Rattle.iop_kernel.specs.Kinds.{State, Wants, Table, table, with_table}
use Rattle.iop_kernel.specs.Serving.{services}
use Rattle.iop_kernel.specs.System.{Kernel, System, with_variable_pools}
use Rattle.iop_kernel.specs.Waits.{leaves_object, requeues_at}
use Rattle.iop_kernel.specs.declared.after.After.{After}
use Rattle.iop_kernel.specs.declared.pool_services.TheConstants.{FROM_BELOW}
use Rattle.iop_kernel.proofs.Bodies.KindTables.{each_table}
use Rattle.iop_kernel_laws.proofs.Keeping.Handlers.{gives_to}
use Rattle.iop_kernel.proofs.Walk.Changes.{TakesBlock, IsMadeOn, Changes}
use Rattle.iop_kernel.proofs.Walk.Changes.FixedChanges.{takes as takes_block, gives}
use Rattle.iop_kernel.proofs.Walk.Changes.VariableChanges.{takes}
use Rattle.iop_kernel.proofs.Walk.Meeting.{meets_last}
use Rattle.iop_kernel.proofs.Walk.Moves.{Moves, CallMoves}
use Rattle.iop_kernel.proofs.Walk.Services.{services_go, asked_not}
use Rattle.iop_resumable.proofs.TakenBlocks.{block_taken, range_there}

module _ (size : ℕ) where
  abbrev Ends : Pool → Type 0
  Ends x = is_inside size x ≡ true

  -- a pool is inside; the other objects have no memory
  abbrev IsIn : (kind : Kind) → State kind → List (Queued (Waiter (Wants kind))) → Type 0
  IsIn Semaphore x waiters = ⊤
  IsIn EventFlag x waiters = ⊤
  IsIn Mailbox x waiters = ⊤
  IsIn VariablePool x waiters = Ends x
  IsIn FixedPool x waiters = Ends x

  abbrev AreIn : (kind : Kind) → Table kind → Type 0
  AreIn kind s = HoldsOfEach (IsIn kind) s

  abbrev pub AllIn : Kernel → Type 0
  AllIn k = (kind : Kind) → AreIn kind (table kind k)

  module _ (k : Kernel) (h : AllIn k) where
    -- other objects of a kind
    with_others : (kind : Kind) (left : Table kind) → AreIn kind left
        → AllIn (with_table kind k left)
    with_others kind left so = each_table AreIn kind k left so (λ other apart. h other)

    -- others wait for an object
    others_wait : (kind : Kind) (id : ℕ) (ws : List (Queued (Waiter (Wants kind))))
        → AllIn (with_table kind k (with_waiters (table kind k) id ws))
    others_wait kind id ws =
        with_others kind _
        (each_with_waiters (IsIn kind) (table kind k) (h kind) id ws
        (λ x known. same kind x (waiters_in kind id) ws))
      where
        waiters_in : (kind : Kind) → ℕ → List (Queued (Waiter (Wants kind)))
        waiters_in kind id = waiters_of (table kind k) id

        same : (kind : Kind) (x : State kind) (old new : List (Queued (Waiter (Wants kind))))
            → IsIn kind x old → IsIn kind x new
        same Semaphore x old new is = tt
        same EventFlag x old new is = tt
        same Mailbox x old new is = tt
        same VariablePool x old new is = is
        same FixedPool x old new is = is

    leaves_in : (thread : ℕ) (wait : Option Wait) → AllIn (leaves_object k thread wait)
    leaves_in thread (Some (ForObject kind id)) = others_wait kind id _
    leaves_in thread other = h

    requeues_in : (thread priority : ℕ) (wait : Option Wait)
        → AllIn (requeues_at k thread priority wait)
    requeues_in thread priority (Some (ForObject kind id)) = others_wait kind id _
    requeues_in thread priority other = h

  -- what is known of an object changes
  changed_in : (kind : Kind) (s : Table kind) (id : ℕ) (x y : State kind)
      (old new : List (Queued (Waiter (Wants kind)))) → IsIn kind x old → Changes kind s id x y
      → IsIn kind y new
  changed_in Semaphore s id x y old new is how = tt
  changed_in EventFlag s id x y old new is how = tt
  changed_in Mailbox s id x y old new is how = tt
  changed_in VariablePool s id x y old new is (takes size place some at) = is
  changed_in FixedPool s id x y old new is (takes_block place at) = is
  changed_in FixedPool s id x y old new is (gives block there none) = is

  -- one thread is met, and its memory taken
  met_in : (s left : VariablePools) → AreIn VariablePool s → (id : ℕ) (met : Met)
      → meets_next s id ≡ (Some met, left) → AreIn VariablePool left
  met_in s left h id met is =
      let m = met_next s id met left is in
      let rest = with_waiters s id m.one.others in
      let waiting = each_with_waiters (IsIn VariablePool) s h id m.one.others
      (λ x known inside. inside) in
      subst (AreIn VariablePool) (sym m.leaves)
      (each_with_state (IsIn VariablePool) rest waiting id _ (h id m.x m.known))

  -- by the test of a table
  module _ {W : Type 0} (live : List (Object Pool W)) where
    abbrev test : Object Pool W → Bool
    test o = is_inside size o.state

    abbrev EndsIn : Object Pool W → Type 0
    EndsIn o = Ends o.state

    ends_each : list_all (is_inside size) (map (λ o. o.state) live) ≡ true → All EndsIn live
    ends_each is =
        each_is test EndsIn (λ o is. is) live
        (sym (list_all-map (is_inside size) (λ (o : Object Pool W). o.state) live) ∙ is)

    inside_each : All EndsIn live → list_all (is_inside size) (map (λ o. o.state) live) ≡ true
    inside_each all =
        list_all-map (is_inside size) (λ (o : Object Pool W). o.state) live
        ∙ all_pass test EndsIn (λ o is. is) live all

  pub all_in : (k : Kernel) → pools_are_inside size k ≡ true → AllIn k
  unfolding pools_are_inside
  all_in k h = let parts = and_parts _ _ h in by parts.0 parts.1
    where
      by : list_all (is_inside size) (pools_of k.variable_pools) ≡ true
          → list_all (is_inside size) (pools_of k.fixed_pools) ≡ true
          → (kind : Kind) → AreIn kind (table kind k)
      by variable fixed Semaphore = λ id x known. tt
      by variable fixed EventFlag = λ id x known. tt
      by variable fixed Mailbox = λ id x known. tt
      by variable fixed VariablePool =
          each_of_all (IsIn VariablePool) k.variable_pools
          (ends_each k.variable_pools.live variable)
      by variable fixed FixedPool =
          each_of_all (IsIn FixedPool) k.fixed_pools (ends_each k.fixed_pools.live fixed)

  pub are_inside : (k : Kernel) → ((kind : Kind) → AreObjects (table kind k)) → AllIn k
      → pools_are_inside size k ≡ true
  unfolding pools_are_inside
  are_inside k are h =
      and_from _ _
      (inside_each k.variable_pools.live
      (all_of_each (IsIn VariablePool) k.variable_pools (are VariablePool) (h VariablePool)))
      (inside_each k.fixed_pools.live
      (all_of_each (IsIn FixedPool) k.fixed_pools (are FixedPool) (h FixedPool)))

module _ (s : System) (blocks : AreBlocks s.blocks) (small : s.blocks.size ≤ 2 ^ 29)
    (h : AllIn s.blocks.size s.core.kernel) where
  abbrev k : Kernel
  k = s.core.kernel

  -- one is made on a block
  new_in : (x : Pool) (left : BlockMap) → TakesBlock x s.blocks left → Ends s.blocks.size x
  new_in x left on =
      let taken = block_taken s.blocks left FROM_BELOW x.size x.base blocks on.taken on.some in
      range_there s.blocks.size x.base x.size (omega (arith, small, taken.ends, taken.some)) taken.some
      (omega (arith, taken.ends))

  first_in : (kind : Kind) (x : State kind) (left : BlockMap) → IsMadeOn kind x s.blocks left
      → IsIn s.blocks.size kind x []
  first_in Semaphore x left on = tt
  first_in EventFlag x left on = tt
  first_in Mailbox x left on = tt
  first_in VariablePool x left on = new_in x left on
  first_in FixedPool x left on = new_in x left on

  abbrev P : System → List Piece → Type 0
  P d given = AllIn s.blocks.size d.core.kernel

  abbrev Q : After → System → List Piece → Type 0
  Q after d given = AllIn s.blocks.size d.core.kernel

  pools_move : (library : ℕ) → Moves P Q ⊤ s library
  pools_move library = record {
    each = record {
      begins = h;
      stores = λ d given place bytes inside now. now;
      goes_on = λ d given word now. now;
      bad_place = h;
      no_thread = λ asked none. h;
      prints = λ text. h;
    };
    registry = λ own_library. record { registers = λ libraries. h };
    blocks = λ own_library. record { takes = λ mode size at. h; frees = λ at. h };
    interrupts = λ own_library. record { lines = λ left. h; turns = λ on. h };
    alarms = λ own_library. record {
      sets = λ moment handler arg. h;
      cancels = λ handler arg. h;
    };
    threads = λ own_library. record {
      dispatch = λ enabled on asks. h;
      creates = λ size param stack blocks is. h;
      deletes = λ id stack left is. h;
      starts = λ id argument. h;
      ends = λ id is other leave. h;
      ends_deleted = λ id stack left is other did leave. h;
      returns = λ id word is loader leave. h;
      terminates = λ id wait left other is rests. leaves_in s.blocks.size _ h id wait;
      terminates_running = λ id wait left other is runs. leaves_in s.blocks.size _ h id wait;
      changes = λ id priority wait left is. requeues_in s.blocks.size _ h id priority wait;
      rotates = λ priority other. h;
      rotates_beside = λ priority own may is. h;
      rotates_own = λ priority id own may is leave. h;
      releases = λ id t wait found is. leaves_in s.blocks.size _ h t.id (Some wait);
      takes_wakeup = λ left is. h;
      sleeps = λ left is may asks leave. h;
      wakes_up = λ id other. h;
      cancels = λ id. h;
      suspends = λ id other may. h;
      resumes = λ id other. h;
      delays = λ moment thread is may leave. h;
    };
    objects = λ kind own_library. let t = table kind k in let S = IsIn s.blocks.size kind in record {
      makes = λ x left first on. with_others s.blocks.size k h kind _
          (each_creates S t (h kind) x (first_in kind x left on));
      deletes = λ o left found gone. with_others s.blocks.size k h kind _
          (each_deletes S t (h kind) o.id);
      changes = λ id x y known how. with_others s.blocks.size k h kind _
          (each_with_state S t (h kind) id y
          (changed_in s.blocks.size kind t id x y _ _ (h kind id x known) how));
      wakes = λ id word x one known chosen is. others_wait s.blocks.size k h kind id _;
      waits = λ id thread x wants is may known must place leave.
          others_wait s.blocks.size k h kind id _;
    };
    sets = λ own_library bits o found.
        with_others s.blocks.size k h EventFlag _ (λ id x known. tt);
    meets = λ own_library id block x known there.
        meets_last (λ d. AllIn s.blocks.size d.kernel) id
        (λ c met left is now. with_others s.blocks.size c.kernel now VariablePool left
        (met_in s.blocks.size c.kernel.variable_pools left (now VariablePool) id met is))
        (with_variable_pools s.core
        (with_ranges k.variable_pools id x (without block x.ranges)))
        (with_others s.blocks.size k h VariablePool _
        (each_with_state (IsIn s.blocks.size VariablePool) k.variable_pools (h VariablePool) id _
        (h VariablePool id x known)));
  }

  pools_called : CallMoves P Q ⊤ s
  pools_called = record {
    unlisted = λ library number. h;
    no_service = h;
    handler = λ handler is.
        subst (λ (left : Kernel).
        AllIn s.blocks.size (record left { interrupts = true; handler = None }))
        (sym (gives_to k handler.cause (reg s.core.cpu 2)).is) h;
  }

  -- whatever is served
  pub services_in : (code : ℕ) → AllIn s.blocks.size (services s code).left.state.core.kernel
  services_in code = services_go pools_move pools_called (asked_not s) code
