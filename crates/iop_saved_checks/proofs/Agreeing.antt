-- Where the tables of a kernel agree, threads and those that wait are in their places, and no wait
-- is overdue.
use Rattle.std.proofs.Common.{◌≡◌, ℕ, Bool, true, false, not, Option, Some, None, List, [], ◌∷◌, map, All, refl, sym, ◌∙◌, subst, arith}
use Rattle.std.specs.Prelude.{◌==◌, ◌&&◌, ◌||◌, is_some, if◌then◌else◌, length}
use Rattle.std.specs.List.{list_all}
use Rattle.std.proofs.lemmas.Bool.{and_parts}
use Rattle.std.proofs.lemmas.Bool.Decides.{nat_tests}
use Rattle.std.proofs.lemmas.List.Elements.{All-contains, All-weaker}
use Rattle.iop_base.specs.Numbers.{one_if}
use Rattle.iop_kernel.specs.Kinds.{State, Wants, table}
use Rattle.iop_kernel.specs.Laws.{IsAwake}
use Rattle.iop_kernel.specs.Overdue.{NoneOverdue, AreIdle}
use Rattle.iop_kernel.specs.Placing.{IsPlaced, AreWaited, AreDelayed, HasItsPriority, is_for, is_for_delay}
use Rattle.iop_kernel.specs.System.{Kernel, in_handler}
use Rattle.iop_kernel.specs.WaiterPlaces.{HavePlaces, HasPlace}
use Rattle.iop_kernel.specs.Waits.{threads_of}
use Rattle.iop_objects.specs.Objects.{Object, object_of, state_of, waiters_of}
use Rattle.iop_stubs.specs.Stubs.{Memory}
use Rattle.iop_thread.proofs.LiveThreads.{thread_of_id, thread_of_is_live}
use Rattle.iop_thread.specs.Placing.{times}
use Rattle.iop_thread.specs.States.{wait_in, sleeps}
use Rattle.iop_thread.specs.ThreadTable.{thread_of}
use Rattle.iop_thread.specs.Waits.{wait_of}
use Rattle.iop_thread.specs.declared.kind.Kind.{Kind}
use Rattle.iop_thread.specs.declared.kind.Kind.TheVariants.{Semaphore, EventFlag, Mailbox, VariablePool, FixedPool}
use Rattle.iop_thread.specs.declared.state.State.{State as ThreadState}
use Rattle.iop_thread.specs.declared.state.State.TheVariants.{Dormant, Running, Ready, Waiting, Suspended, WaitingSuspended}
use Rattle.iop_thread.specs.declared.thread.Thread.{Thread}
use Rattle.iop_thread.specs.declared.wait.Wait.{Wait}
use Rattle.iop_thread.specs.declared.wait.Wait.TheVariants.{Sleep, Delay, Object as ForObject}
use Rattle.iop_saved_checks.specs.Idle.{is_idle_where}
use Rattle.iop_saved_checks.specs.Kernels.{is_awake, all_objects_agree, agrees}
use Rattle.iop_saved_checks.specs.Laws.{TablesAreSound, HasLoaded}
use Rattle.iop_saved_checks.specs.Made.{AreMade}
use Rattle.iop_saved_checks.specs.Objects.{agrees_in, objects_agree}
use Rattle.iop_saved_checks.specs.Places.{has_place}
use Rattle.iop_saved_checks.specs.Threads.{is_awaited, is_unwoken, has_loaded, is_in_turn, thread_agrees, threads_agree, delays_agree}
use Rattle.iop_saved_checks.specs.Waiters.{are_waiters}
use Rattle.iop_saved_checks.proofs.Idle.{idle_is}
use Rattle.iop_saved_checks.proofs.Lists.{each_is}
use Rattle.iop_saved_checks.proofs.WaiterParts.{IsPart, parts_are, none_else}
use Rattle.iop_saved_checks.proofs.Waits.{its_wait, its_delay, waits_for, one_delay, no_delay}

-- the parts of the test
pub record AllAgree (memory : Memory) (k : Kernel) : Type 0 where
  pub awake : is_awake k ≡ true
  pub threads : threads_agree k ≡ true
  pub delays : delays_agree k ≡ true
  pub objects : (kind : Kind) → objects_agree memory k.threads kind (table kind k) ≡ true
  pub made : AreMade (length memory.ram) k

pub all_agree : (memory : Memory) (k : Kernel) → agrees memory k ≡ true → AllAgree memory k
unfolding agrees all_objects_agree
all_agree memory k h =
    let pools = and_parts _ _ h in
    let made = and_parts _ _ pools.0 in
    let rest = and_parts _ _ made.0 in
    let delays = and_parts _ _ rest.0 in
    let threads = and_parts _ _ delays.0 in
    let fixed = and_parts _ _ rest.1 in
    let variable = and_parts _ _ fixed.0 in
    let box = and_parts _ _ variable.0 in
    let flag = and_parts _ _ box.0 in record {
      awake = threads.0;
      threads = threads.1;
      delays = delays.1;
      objects = of flag.0 flag.1 box.1 variable.1 fixed.1;
      made = record { threads = made.1; pools = pools.1 };
    }
  where
    of : objects_agree memory k.threads Semaphore k.semaphores ≡ true
        → objects_agree memory k.threads EventFlag k.event_flags ≡ true
        → objects_agree memory k.threads Mailbox k.mailboxes ≡ true
        → objects_agree memory k.threads VariablePool k.variable_pools ≡ true
        → objects_agree memory k.threads FixedPool k.fixed_pools ≡ true
        → (kind : Kind) → objects_agree memory k.threads kind (table kind k) ≡ true
    of a b c d e Semaphore = a
    of a b c d e EventFlag = b
    of a b c d e Mailbox = c
    of a b c d e VariablePool = d
    of a b c d e FixedPool = e

-- a test of all ids holds of that of an object
at_id : {A W : Type 0} (p : ℕ → Bool) (live : List (Object A W)) (id : ℕ) (o : Object A W)
    → object_of live id ≡ Some o → list_all p (map (λ o. o.id) live) ≡ true → p id ≡ true
at_id p [] id o found h = absurd cc
at_id {A} {W} p (x ∷ live) id o found h = by (x.id == id) refl found (at_id p live id o)
  where
    parts : (p x.id ≡ true) × (list_all p (map (λ (o : Object A W). o.id) live) ≡ true)
    parts = and_parts (p x.id) (list_all p (map (λ (o : Object A W). o.id) live)) h

    by : (b : Bool) → (x.id == id) ≡ b
        → (if b then Some x else object_of live id) ≡ Some o
        → (object_of live id ≡ Some o → list_all p (map (λ (o : Object A W). o.id) live) ≡ true
        → p id ≡ true)
        → p id ≡ true
    by true is here later = let same : x.id ≡ id = grind (arith, nat_tests, is) in
        subst (λ n. p n ≡ true) same parts.0
    by false is behind later = later behind parts.1

module _ (memory : Memory) (k : Kernel) (sound : TablesAreSound k) (h : AllAgree memory k) where
  -- what the test of a thread says
  pub record ThreadParts (t : Thread) : Type 0 where
    pub awaited : is_awaited k t.id (wait_in t.state) ≡ true
    pub unwoken : is_unwoken t ≡ true
    pub loaded : has_loaded t.state ≡ true
    pub in_turn : is_in_turn k t ≡ true

  pub parts_of : (t : Thread) → thread_agrees k t ≡ true → ThreadParts t
  parts_of t passes =
      let turn = and_parts (is_awaited k t.id (wait_in t.state) && is_unwoken t
      && has_loaded t.state) (is_in_turn k t) passes in
      let loaded = and_parts (is_awaited k t.id (wait_in t.state) && is_unwoken t)
      (has_loaded t.state) turn.0 in
      let unwoken = and_parts (is_awaited k t.id (wait_in t.state)) (is_unwoken t) loaded.0 in
      record {
        awaited = unwoken.0;
        unwoken = unwoken.1;
        loaded = loaded.1;
        in_turn = turn.1;
      }

  -- a thread that waits passes its test
  pub thread_passes : (id : ℕ) (t : Thread) → thread_of k.threads.live id ≡ Some t
      → thread_agrees k t ≡ true
  unfolding threads_agree
  thread_passes id t found =
      All-contains (λ u. thread_agrees k u ≡ true) k.threads.live t
      (each_is (thread_agrees k) (λ u. thread_agrees k u ≡ true) (λ u is. is) k.threads.live
      h.threads)
      (thread_of_is_live k.threads.live id t found)

  awaited : (id : ℕ) (wait : Wait) → wait_of k.threads id ≡ Some wait
      → is_awaited k id (Some wait) ≡ true
  awaited id wait waits =
      let it = waits_for k.threads id wait waits in
      let passes = parts_of it.thread (thread_passes id it.thread it.found) in
      subst (λ w. is_awaited k id w ≡ true) it.is
      (subst (λ n. is_awaited k n (wait_in it.thread.state) ≡ true)
      (thread_of_id k.threads.live id it.thread it.found) passes.awaited)

  module _ (kind : Kind) (id : ℕ) where
    -- the object of an id agrees, if there is one, and for none nobody waits
    pub record IsAt : Type 0 where
      pub waiters : are_waiters k.threads kind id (has_place kind memory)
          (waiters_of (table kind k) id) ≡ true
      pub idle : is_idle_where kind (state_of (table kind k) id) (waiters_of (table kind k) id)
          ≡ true

    is_at : IsAt
    unfolding objects_agree
    is_at = by (object_of (table kind k).live id) refl
      where
        by : (o : Option (Object (State kind) (Wants kind)))
            → object_of (table kind k).live id ≡ o → IsAt
        by None none = record { waiters = rw none refl; idle = rw none refl }
        by (Some o) found =
            let passes = and_parts _ _
            (at_id (agrees_in memory k.threads kind (table kind k)) (table kind k).live id o found
            (h.objects kind)) in record { waiters = passes.0; idle = passes.1 }

    waiters_are : All (IsPart k.threads kind id (has_place kind memory))
        (waiters_of (table kind k) id)
    waiters_are =
        parts_are k.threads kind id (has_place kind memory) (waiters_of (table kind k) id)
        is_at.waiters

    times_are : (thread : ℕ) → times thread (threads_of (waiters_of (table kind k) id))
        ≡ one_if (is_for kind id (wait_of k.threads thread))
    times_are thread = by (is_for kind id (wait_of k.threads thread)) refl
      where
        by : (b : Bool) → is_for kind id (wait_of k.threads thread) ≡ b
            → times thread (threads_of (waiters_of (table kind k) id)) ≡ one_if b
        by true is =
            let once = awaited thread (ForObject kind id)
            (its_wait kind id (wait_of k.threads thread) is) in
            grind (arith, nat_tests, once)
        by false is =
            none_else k.threads kind id (has_place kind memory) thread is
            (waiters_of (table kind k) id) is_at.waiters

  waited : (kind : Kind) → AreWaited kind (table kind k) k.threads
  waited kind = record {
    waiters = times_are kind;
    priorities = λ id.
        All-weaker (IsPart k.threads kind id (has_place kind memory)) (HasItsPriority k.threads)
        (λ x part. part.priority) (waiters_of (table kind k) id) (waiters_are kind id);
    sound = sound.objects kind;
  }

  delayed : AreDelayed k.timers k.threads
  unfolding delays_agree
  delayed = record {
    delays = λ thread. by thread (is_for_delay (wait_of k.threads thread)) refl;
    kept = sound.timers;
    room = omega (arith, sound.threads.ids.few);
  }
    where
      by : (thread : ℕ) (b : Bool) → is_for_delay (wait_of k.threads thread) ≡ b
          → times thread (map (λ delay. delay.thread) k.timers.delays) ≡ one_if b
      by thread true is =
          one_delay thread k.timers.delays sound.timers.delays_differ
          (awaited thread Delay (its_delay (wait_of k.threads thread) is))
      by thread false is = no_delay k.threads thread is k.timers.delays h.delays

  pub placed : IsPlaced k
  placed = record { threads = sound.threads; objects = waited; delays = delayed }

  idle : (kind : Kind) → AreIdle kind (table kind k)
  idle kind id x known =
      idle_is kind x (waiters_of (table kind k) id) (sound.pools kind id x known)
      (subst (λ o. is_idle_where kind o (waiters_of (table kind k) id) ≡ true) known
      (is_at kind id).idle)

  -- a thread that sleeps has no wakeups
  unwoken : (t : Thread) → thread_agrees k t ≡ true → wait_in t.state ≡ Some Sleep
      → t.wakeups ≡ 0
  unwoken t passes asleep =
      let here : (t.wakeups == 0) ≡ true =
      by (wait_in t.state) asleep (parts_of t passes).unwoken in
      grind (arith, nat_tests, here)
    where
      by : (w : Option Wait) → w ≡ Some Sleep → (not (sleeps w) || t.wakeups == 0) ≡ true
          → (t.wakeups == 0) ≡ true
      by (Some Sleep) is part = part
      by (Some Delay) is part = absurd cc
      by (Some (ForObject kind id)) is part = absurd cc
      by None is part = absurd cc

  pub loaded : All (λ t. HasLoaded t.state) k.threads.live
  unfolding threads_agree
  loaded =
      each_is (thread_agrees k) (λ t. HasLoaded t.state) of k.threads.live h.threads
    where
      no_load : {X : Type 0} (o : Option X) → not (is_some o) ≡ true → o ≡ None
      no_load None is = refl
      no_load (Some x) is = absurd cc

      by : (state : ThreadState) → has_loaded state ≡ true → HasLoaded state
      by Dormant is = tt
      by Running is = tt
      by (Ready own) is = tt
      by (Waiting wait own) is = (tt, no_load own.pending is)
      by (Suspended own) is = tt
      by (WaitingSuspended wait own) is = (tt, no_load own.pending is)

      of : (t : Thread) → thread_agrees k t ≡ true → HasLoaded t.state
      of t passes = by t.state (parts_of t passes).loaded

  pub overdue : NoneOverdue k
  unfolding threads_agree
  overdue = record {
    objects = idle;
    sleepers =
        each_is (thread_agrees k) (λ t. wait_in t.state ≡ Some Sleep → t.wakeups ≡ 0) unwoken
        k.threads.live h.threads;
  }

  pub awake : k.threads.running ≡ None → IsAwake k
  awake none = by h.awake
    where
      by : (is_some k.threads.running || k.dispatching && (in_handler k || k.interrupts)) ≡ true
          → IsAwake k
      by is =
          let rest : (k.dispatching && (in_handler k || k.interrupts)) ≡ true =
          sym (rw none refl) ∙ is in
          let parts = and_parts _ _ rest in record {
            dispatching = parts.0;
            interrupts = λ no_handler. sym (rw no_handler refl) ∙ parts.1;
          }

  has : (kind : Kind) (wants : Wants kind) → has_place kind memory wants ≡ true
      → HasPlace kind memory wants
  has Semaphore wants is = tt
  has EventFlag wants is = is
  has Mailbox at is = is
  has VariablePool size is = tt
  has FixedPool wants is = tt

  pub places : HavePlaces memory k
  places kind id =
      All-weaker (IsPart k.threads kind id (has_place kind memory))
      (λ x. HasPlace kind memory x.item.wants) (λ x part. has kind x.item.wants part.place)
      (waiters_of (table kind k) id) (waiters_are kind id)

-- what is answered of a kind is that of the kind that is asked for
pub of_kind : {kind own : Kind} {answer : Bool} (memory : Memory) (k : Kernel) → kind ≡ own
    → answer ≡ objects_agree memory k.threads own (table own k)
    → answer ≡ objects_agree memory k.threads kind (table kind k)
of_kind {answer = answer} memory k is =
    subst (λ one. answer ≡ objects_agree memory k.threads one (table one k)) (sym is)
