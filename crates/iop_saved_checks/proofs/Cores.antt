-- What was read and put back is as in a run, where its tables agree, and the other way.
use Rattle.std.proofs.Common.{◌≡◌, ℕ, Bool, true, false, None, Some, Option, List, [], ◌∷◌, All, refl, subst}
use Rattle.std.specs.Prelude.{◌==◌, nat_lt, if◌then◌else◌, IfSome, option_map}
use Rattle.std.proofs.lemmas.List.Elements.{All-head, All-tail, All-weaker}
use Rattle.iop_exec.specs.Laws.{IsSteady}
use Rattle.iop_exec.specs.declared.cpu.Cpu.{Cpu}
use Rattle.iop_kernel.specs.Dispatching.{Dispatched, dispatches, dispatched}
use Rattle.iop_kernel.specs.Kinds.{table}
use Rattle.iop_kernel.specs.PoolMemory.{PoolsAreSound}
use Rattle.iop_kernel.specs.Standing.{core}
use Rattle.iop_kernel.specs.System.{Kernel, Core, may_dispatch}
use Rattle.iop_kernel.specs.declared.active_handler.ActiveHandler.{ActiveHandler}
use Rattle.iop_objects.specs.Objects.{AreObjects, Object, object_of}
use Rattle.iop_pools.specs.FixedRestoring as fixed
use Rattle.iop_pools.specs.Standing.{IsPool}
use Rattle.iop_pools.specs.VariableRestoring as variable
use Rattle.iop_saved_kernel.specs.Laws.{TablesCanBeBack, IsReadableKept, IsSteadyCore}
use Rattle.iop_thread.specs.Laws.{AreSteady, IsSteadyIn, KeptBy, AnyRegisters}
use Rattle.iop_thread.specs.Operations.{dispatches_it, dispatches_by}
use Rattle.iop_thread.specs.ThreadTable.{running_thread, best_ready, ready_first}
use Rattle.iop_thread.specs.declared.kind.Kind.{Kind}
use Rattle.iop_thread.specs.declared.kind.Kind.TheVariants.{Semaphore, EventFlag, Mailbox, VariablePool, FixedPool}
use Rattle.iop_thread.specs.declared.state.State.{State as ThreadState}
use Rattle.iop_thread.specs.declared.state.State.TheVariants.{Dormant, Running, Ready, Waiting, Suspended, WaitingSuspended}
use Rattle.iop_thread.specs.declared.thread.Thread.{Thread}
use Rattle.iop_saved_checks.specs.Laws.{HasLoaded, TablesAreSound, TablesAreRegular, AgreeingCoresAreSound, CoresInRunsAgree}
use Rattle.iop_saved_checks.proofs.Passing.{sound_agree}
use Rattle.iop_saved_checks.proofs.Sound.{agreeing_are_sound}

-- what holds of each live object holds of what is known of it
of_state : {A W : Type 0} (P : A → Type 0) (live : List (Object A W)) (id : ℕ) (x : A)
    → All (λ o. P o.state) live → option_map (λ o. o.state) (object_of live id) ≡ Some x → P x
of_state P [] id x all known = absurd cc
of_state P (o ∷ os) id x all known =
    by (o.id == id) known (of_state P os id x (All-tail (λ p. P p.state) o os all))
  where
    by : (b : Bool) → option_map (λ p. p.state) (if b then Some o else object_of os id) ≡ Some x
        → (option_map (λ p. p.state) (object_of os id) ≡ Some x → P x) → P x
    by true here later =
        let same : o.state ≡ x = cc here in subst P same (All-head (λ p. P p.state) o os all)
    by false here later = later here

module _ (k : Kernel) (h : TablesCanBeBack k) where
  objects : (kind : Kind) → AreObjects (table kind k)
  objects Semaphore = h.semaphores.0.objects.sound
  objects EventFlag = h.event_flags.0.objects.sound
  objects Mailbox = h.mailboxes.0.objects.sound
  objects VariablePool = h.variable_pools.0.objects.sound
  objects FixedPool = h.fixed_pools.0.objects.sound

  pools : PoolsAreSound k
  pools Semaphore id x known = tt
  pools EventFlag id x known = tt
  pools Mailbox id x known = tt
  pools VariablePool id x known =
      of_state (IsPool _) k.variable_pools.live id x
      (All-weaker variable.IsRegular (λ o. IsPool _ o.state) (λ o regular. regular.sound)
      k.variable_pools.live h.variable_pools.0.pools) known
  pools FixedPool id x known =
      of_state (IsPool _) k.fixed_pools.live id x
      (All-weaker fixed.IsRegular (λ o. IsPool _ o.state) (λ o regular. regular.sound)
      k.fixed_pools.live h.fixed_pools.0.pools) known

  sound : TablesAreSound k
  sound = record { threads = h.threads; objects = objects; pools = pools; timers = h.timers }

  regular : TablesAreRegular k
  regular = record {
    sound = sound;
    variable_pools = h.variable_pools.0.pools;
    fixed_pools = h.fixed_pools.0.pools;
  }

-- a thread that keeps a readable processor, and of which nothing is pending where it waits, is steady
steady_in : (state : ThreadState) → KeptBy IsReadableKept AnyRegisters state → HasLoaded state
    → IsSteadyIn state
steady_in Dormant kept loaded = tt
steady_in Running kept loaded = tt
steady_in (Ready own) kept loaded = kept.readable.steady
steady_in (Waiting wait own) kept loaded = (kept.0.readable.steady, loaded.1)
steady_in (Suspended own) kept loaded = kept.readable.steady
steady_in (WaitingSuspended wait own) kept loaded = (kept.0.readable.steady, loaded.1)

-- and the other way
loaded_in : (state : ThreadState) → IsSteadyIn state → HasLoaded state
loaded_in Dormant steady = tt
loaded_in Running steady = tt
loaded_in (Ready own) steady = tt
loaded_in (Waiting wait own) steady = (tt, steady.1)
loaded_in (Suspended own) steady = tt
loaded_in (WaitingSuspended wait own) steady = (tt, steady.1)

module _ (c : Core) (steady : IsSteadyCore c)
    (loaded : All (λ t. HasLoaded t.state) c.kernel.threads.live) where
  steady_threads : AreSteady c.kernel.threads
  steady_threads = λ k d below.
      steady_in _ (steady.threads k d below).kept (loaded k d below)

  steady_handler : IfSome c.kernel.handler (λ handler. IsSteady handler.kept)
  steady_handler = by c.kernel.handler steady.handler
    where
      by : (handler : Option ActiveHandler)
          → IfSome handler (λ handler. IsReadableKept handler.kept)
          → IfSome handler (λ handler. IsSteady handler.kept)
      by None is = tt
      by (Some handler) is = is.readable.steady

-- that none is dispatched does not hang on the processor
none_for : (k : Kernel) (one other : Cpu) → dispatches (core k one) ≡ None
    → dispatches (core k other) ≡ None
unfolding dispatches
none_for k one other =
    by (may_dispatch k) (running_thread k.threads) (best_ready k.threads)
  where
    whatever : Cpu → Bool → (running best : Option Thread) → Option Dispatched
    whatever cpu may running best =
        if may then option_map (dispatched k) (dispatches_by k.threads cpu running best) else None

    less : (r t : Thread) (b : Bool)
        → option_map (dispatched k) (if b
        then Some (dispatches_it (ready_first k.threads r one) one t) else None) ≡ None
        → option_map (dispatched k) (if b
        then Some (dispatches_it (ready_first k.threads r other) other t) else None) ≡ None
    less r t true h = absurd cc
    less r t false h = refl

    by : (may : Bool) (running best : Option Thread) → whatever one may running best ≡ None
        → whatever other may running best ≡ None
    by false running best h = refl
    by true running None h = refl
    by true None (Some t) h = absurd cc
    by true (Some r) (Some t) h = less r t (nat_lt t.priority r.priority) h

pub cores_sound : AgreeingCoresAreSound
cores_sound memory c back steady agree =
    let tables = sound c.kernel back.tables in
    let is = agreeing_are_sound memory c.kernel tables agree in record {
      core = record {
        placed = is.placed;
        overdue = is.overdue;
        awake = is.awake;
        steady = steady.cpu.steady;
        threads = steady_threads c steady is.loaded;
        handler = steady_handler c steady is.loaded;
      };
      places = is.places;
      pools = tables.pools;
      settled = is.settled c.cpu;
      made = is.made;
    }

pub cores_agree : CoresInRunsAgree
cores_agree memory c back h =
    sound_agree memory c.kernel (regular c.kernel back.tables) (record {
      placed = h.core.placed;
      overdue = h.core.overdue;
      loaded = All-weaker (λ t. IsSteadyIn t.state) (λ t. HasLoaded t.state)
          (λ t steady. loaded_in t.state steady) c.kernel.threads.live h.core.threads;
      awake = h.core.awake;
      places = h.places;
      settled = λ cpu. none_for c.kernel c.cpu cpu h.settled;
      made = h.made;
    })
