-- A thread waits for one object at most, and where one runs, fewer wait for the objects of a kind,
-- or for a time, than threads are live.
use Rattle.std.proofs.Common.{◌≡◌, ℕ, ◌+◌, ◌<◌, ◌≤◌, ◌==◌, ◌||◌, false, true, is_some, Option, Some, None, IfSome, List, [], ◌∷◌, get_or, length, map, flat_map, refl, ap, sym, ◌∙◌, subst, arith, ◌≢◌, Bool, if◌then◌else◌, All}
use Rattle.std.specs.List.{list_any}
use Rattle.std.specs.Prelude.{option_and_then, option_map, unwrap_or}
use Rattle.std.proofs.lemmas.Bool.{eq-eqb, cond_both, eqb-true, ne_eqb}
use Rattle.std.proofs.lemmas.Bool.Decides.{nat_tests}
use Rattle.std.proofs.lemmas.List.{length-append, length-map}
use Rattle.std.proofs.lemmas.List.Sums.{count_by-le-length, length-filter, sum_by-cons}
use Rattle.iop_base.specs.Numbers.{one_if}
use Rattle.iop_base.proofs.Lists.{find-none}
use Rattle.iop_objects.specs.Laws.{threads_of, threads_waiting}
use Rattle.iop_objects.specs.Objects.{Object, waiting, object_of, waiters_in}
use Rattle.iop_objects.specs.declared.objects.TheConstants.{MOST_WAITERS}
use Rattle.iop_objects.proofs.Others.{HaveRisingIds}
use Rattle.iop_base.proofs.Searching.{AllPairs-head, AllPairs-tail}
use Rattle.iop_ready.specs.declared.entry.Entry.{Entry}
use Rattle.iop_thread.specs.Placing as threads_placing
use Rattle.iop_thread.specs.Placing.{times}
use Rattle.iop_thread.specs.States.{is_running, wait_in}
use Rattle.iop_thread.specs.ThreadTable.{ThreadTable, thread_of, is_it}
use Rattle.iop_thread.specs.Waits.{wait_of}
use Rattle.iop_thread.specs.declared.kind.Kind.{Kind}
use Rattle.iop_thread.specs.declared.kind.Kind.TheVariants.{Semaphore, EventFlag, Mailbox, VariablePool, FixedPool}
use Rattle.iop_thread.specs.declared.state.State.{State}
use Rattle.iop_thread.specs.declared.state.State.TheVariants.{Running}
use Rattle.iop_thread.specs.declared.thread.Thread.{Thread}
use Rattle.iop_thread.specs.declared.wait.Wait.{Wait}
use Rattle.iop_thread.specs.declared.wait.Wait.TheVariants.{Delay}
use Rattle.iop_thread.proofs.ReadyIds.{times_first}
use Rattle.iop_time.specs.Timers.{Timers, is_delay_of}
use Rattle.iop_time.specs.declared.clock.TheConstants.{MOST_DELAYS}
use Rattle.iop_kernel.specs.Kinds.{Table, table}
use Rattle.iop_kernel.specs.Placing.{IsPlaced, AreWaited, is_for_delay, is_for}
use Rattle.iop_kernel.specs.Standing.{IsActive, IsUndelayed, HasRoomToWait}
use Rattle.iop_kernel.specs.System.{Kernel}
use Rattle.iop_kernel.specs.declared.active_handler.ActiveHandler.{ActiveHandler}
use Rattle.iop_kernel.specs.declared.kernel.Kernel.{Kernel as Program}
use Rattle.iop_kernel.proofs.Bodies.KindTables.{one_object}
use Rattle.iop_kernel.proofs.Placing.Live.{few}
use Rattle.iop_kernel.proofs.Placing.Queues.{delayed, undelayed, times_append, times_in}
use Rattle.iop_kernel.proofs.Placing.Threads.{running_waits_not}

module _ {A W : Type 0} where
  -- no object has the id of one in front of it
  none_behind : (id : ℕ) (live : List (Object A W)) → All (λ o. id < o.id) live
      → object_of live id ≡ None
  none_behind id live others =
      find-none (λ o. o.id == id) live
      (λ k d below. ne_eqb (get_or live k d).id id
      (λ same. let less = others k d below in omega (arith, less, same)))

  module _ (kind : Kind) (t : ℕ) where
    -- how often a thread is among those that wait for the object of an id
    abbrev often : List (Object A W) → ℕ → ℕ
    often live id = times_in t (waiters_in (object_of live id))

    -- a thread is among those that wait for all objects together at most once, and only where it
    -- waits
    abbrev IsOnce : List (Object A W) → Type 0
    IsOnce live = (wait : Option Wait) → ((id : ℕ) → often live id ≡ one_if (is_for kind id wait))
        → times t (flat_map threads_of live) ≤ one_if (is_some wait)

    module _ (o : Object A W) (live : List (Object A W)) (own : HaveRisingIds (o ∷ live)) where
      -- behind an object none has its id, and each other one is found as before
      behind : (id : ℕ) → often live id ≡ (if o.id == id then 0 else often (o ∷ live) id)
      behind id =
          let none = none_behind o.id live (AllPairs-head (λ a b. a.id < b.id) o live own) in
          grind (arith, nat_tests, none)

      one_more : IsOnce live → IsOnce (o ∷ live)
      one_more later wait each = by (is_for kind o.id wait) refl
        where
          first : times_in t o.waiters ≡ one_if (is_for kind o.id wait)
          first = rw (eq-eqb o.id o.id refl) at (each o.id)

          all : times t (flat_map threads_of (o ∷ live))
              ≡ times_in t o.waiters + times t (flat_map threads_of live)
          all = times_append t (threads_of o) (flat_map threads_of live)

          -- behind this one it waits for the others alone
          rest : (w : Option Wait) → is_for kind o.id w ≡ false
              → ((id : ℕ) → (o.id == id) ≡ false → is_for kind id wait ≡ is_for kind id w)
              → (id : ℕ) → often live id ≡ one_if (is_for kind id w)
          rest w not_this same id =
              behind id
              ∙ cond_both (o.id == id) 0 (often (o ∷ live) id) (λ n. n ≡ one_if (is_for kind id w))
              (λ it. ap one_if
              (sym (subst (λ id. is_for kind id w ≡ false) (eqb-true o.id id it) not_this)))
              (λ other. each id ∙ ap one_if (same id other))

          some : (w : Option Wait) → is_for kind o.id w ≡ true → is_some w ≡ true
          some None is = cc
          some (Some w) is = refl

          by : (b : Bool) → is_for kind o.id wait ≡ b
              → times t (flat_map threads_of (o ∷ live)) ≤ one_if (is_some wait)
          by true is =
              let else_none = later None
              (rest None refl (λ id other. one_object kind o.id id wait is ∙ other)) in
              omega (arith, all, first ∙ ap one_if is, else_none, ap one_if (some wait is))
          by false is =
              let others = later wait (rest wait is (λ id other. refl)) in
              omega (arith, all, first ∙ ap one_if is, others)

    -- so it is for each list of objects
    pub waits_once : (live : List (Object A W)) → HaveRisingIds live → IsOnce live
    waits_once [] own = λ wait each. omega arith
    waits_once (o ∷ live) own =
        one_more o live own (waits_once live (AllPairs-tail (λ a b. a.id < b.id) o live own))

-- those that wait for all objects together
pub length-waiting : {A W : Type 0} (live : List (Object A W))
    → length (flat_map threads_of live) ≡ waiting (record { live = live; next = 0 })
length-waiting [] = refl
length-waiting (o ∷ live) =
    omega (
      arith,
      length-append (threads_of o) (flat_map threads_of live),
      length-map o.waiters (λ x. x.item.thread),
      sum_by-cons (λ n. n) (length o.waiters) (map (λ p. length p.waiters) live),
      length-waiting live,
    )

-- a thread that runs does not wait
runs_or_waits : (state : State) → one_if (is_running state) + one_if (is_some (wait_in state)) ≤ 1
runs_or_waits Running = omega arith
runs_or_waits other = omega arith

module _ (s : ThreadTable) (placed : threads_placing.IsPlaced s) (one : ℕ)
    (runs : s.running ≡ Some one) where
  -- threads that all wait, each there once at most, are fewer than are live
  fewer : (ws : List ℕ) → ((t : ℕ) → times t ws ≤ one_if (is_some (wait_of s t)))
      → length ws < length s.live
  fewer ws most = few s.live (one ∷ ws) (λ t. by t (thread_of s.live t)
      (sym (ap (λ o. is_it o t) runs) ∙ placed.running t) (most t))
    where
      by : (t : ℕ) (o : Option Thread)
          → (one == t) ≡ unwrap_or (option_map (λ t. is_running t.state) o) false
          → times t ws ≤ one_if (is_some (option_and_then (λ t. wait_in t.state) o))
          → times t (one ∷ ws) ≤ one_if (is_some o)
      by t None is least = omega (arith, times_first t one ws, ap one_if is, least)
      by t (Some u) is least =
          omega (arith, times_first t one ws, ap one_if is, least, runs_or_waits u.state)

  -- a thread is among those that wait for objects of a kind only where it waits, so they are fewer
  fewer_wait : (kind : Kind) (o : Table kind) → AreWaited kind o s → waiting o < length s.live
  fewer_wait kind o h =
      let less = fewer (threads_waiting o)
      (λ t. waits_once kind t o.live h.sound.ids (wait_of s t) (λ id. h.waiters id t)) in
      omega (arith, less, length-waiting o.live)

module _ (k : Kernel) (h : IsPlaced k) (id : ℕ) (runs : k.threads.running ≡ Some id) where
  -- where a thread runs, there is room for one more delay
  pub fewer_delays : length k.timers.delays < MOST_DELAYS
  fewer_delays =
      let ds = k.timers.delays in
      let less = fewer k.threads h.threads id runs (delayed ds)
      (λ t. omega (arith, h.delays.delays t, by (wait_of k.threads t))) in
      omega (arith, less, length-map ds (λ d. d.thread), h.delays.room)
    where
      by : (wait : Option Wait) → one_if (is_for_delay wait) ≤ one_if (is_some wait)
      by (Some Delay) = omega arith
      by other = omega arith

  -- and it has none
  pub runs_undelayed : list_any (is_delay_of id) k.timers.delays ≡ false
  runs_undelayed =
      undelayed k.timers.delays id
      (h.delays.delays id ∙ ap (λ w. one_if (is_for_delay w))
      (running_waits_not k.threads h.threads id
      (ap (λ o. is_it o id) runs ∙ eq-eqb id id refl)))

module _ {R : Type 0} {stands_for : R → List Entry → Type 0} (k : Program R)
    (active : IsActive stands_for k) where
  abbrev s : Kernel
  s = active.0

  abbrev placed : IsPlaced s
  placed = active.1.placed

  -- the thread that runs, if one does, has no delay
  undelayed_held : IsUndelayed stands_for k
  undelayed_held =
      record { kernel = s; holds = active.1.holds; free = by s.threads.running refl }
    where
      by : (o : Option ℕ) → s.threads.running ≡ o
          → IfSome o (λ thread. list_any (is_delay_of thread) s.timers.delays ≡ false)
      by None runs = tt
      by (Some id) runs = runs_undelayed s placed id runs

  module _ (none : k.handler ≡ None) where
    -- where no handler runs, but a thread or a handler does, a thread runs
    thread_runs : (id : ℕ) × (s.threads.running ≡ Some id)
    thread_runs = by s.handler s.threads.running refl (active.1.holds.handler ∙ none) active.2
      where
        by : (handler : Option ActiveHandler) (o : Option ℕ) → s.threads.running ≡ o
            → handler ≡ None → (is_some handler || is_some o) ≡ true
            → (id : ℕ) × (s.threads.running ≡ Some id)
        by (Some handler) o runs none is = cc
        by None None runs none is = cc
        by None (Some id) runs none is = (id, runs)

    -- and there is room for one more that waits for an object: no more threads are live than there
    -- are places
    room_for : (kind : Kind) → waiting (table kind s) < MOST_WAITERS
    room_for kind =
        let it = thread_runs in
        let places = k.threads.places in
        let stands = active.1.holds.threads.holds in
        omega (
          arith,
          fewer_wait s.threads placed.threads it.0 it.1 kind (table kind s) (placed.objects kind),
          stands.count,
          stands.size,
          length-filter is_some places,
          count_by-le-length is_some places,
        )

  -- so there is room for the thread that calls, if one does
  pub active_room : HasRoomToWait stands_for k
  active_room = let holds = active.1.holds in record {
    undelayed = undelayed_held;
    delays = λ none. let it = thread_runs none in
        subst (λ (timers : Timers). length timers.delays < MOST_DELAYS) holds.timers
        (fewer_delays s placed it.0 it.1);
    semaphores = λ none.
        subst (λ o. waiting o < MOST_WAITERS) holds.semaphores (room_for none Semaphore);
    event_flags = λ none.
        subst (λ o. waiting o < MOST_WAITERS) holds.event_flags (room_for none EventFlag);
    mailboxes = λ none.
        subst (λ o. waiting o < MOST_WAITERS) holds.mailboxes (room_for none Mailbox);
    variable_pools = λ none.
        subst (λ o. waiting o < MOST_WAITERS) holds.variable_pools (room_for none VariablePool);
    fixed_pools = λ none.
        subst (λ o. waiting o < MOST_WAITERS) holds.fixed_pools (room_for none FixedPool);
  }
