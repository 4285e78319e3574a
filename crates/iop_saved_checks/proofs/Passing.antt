-- The tables of a sound kernel agree.
use Rattle.std.proofs.Common.{◌≡◌, ℕ, ◌≤◌, Bool, true, false, not, Option, Some, None, option_map, option_and_then, unwrap_or, List, [], ◌∷◌, map, All, Contains, refl, sym, ◌∙◌, ap, subst, arith}
use Rattle.std.specs.Prelude.{◌==◌, ◌&&◌, ◌||◌, is_some, nat_le}
use Rattle.std.specs.List.{list_all}
use Rattle.std.proofs.lemmas.Bool.{and_from}
use Rattle.std.proofs.lemmas.Bool.Decides.{nat_tests}
use Rattle.std.proofs.lemmas.List.Elements.{All-contains, All-contains_itself, All-head, All-tail}
use Rattle.iop_base.specs.Numbers.{one_if}
use Rattle.iop_kernel.specs.Dispatching.{dispatches, dispatched}
use Rattle.iop_kernel.specs.Kinds.{Wants, Live, Table, table}
use Rattle.iop_kernel.specs.Overdue.{IsIdle}
use Rattle.iop_kernel.specs.Placing.{HasItsPriority, is_for, is_for_delay}
use Rattle.iop_kernel.specs.System.{Kernel, in_handler, may_dispatch}
use Rattle.iop_kernel.specs.WaiterPlaces.{HasPlace}
use Rattle.iop_kernel.specs.Waits.{threads_of}
use Rattle.iop_kernel.specs.declared.active_handler.ActiveHandler.{ActiveHandler}
use Rattle.iop_objects.specs.Objects.{object_of, state_of, waiters_of, waiters_in}
use Rattle.iop_objects.specs.declared.waiter.Waiter.{Waiter}
use Rattle.iop_pools.specs.FixedRestoring as fixed
use Rattle.iop_pools.specs.VariableRestoring as variable
use Rattle.iop_queues.specs.declared.queued.Queued.{Queued}
use Rattle.iop_stubs.specs.Stubs.{Memory}
use Rattle.iop_thread.proofs.IdOrder.{rising_distinct}
use Rattle.iop_thread.proofs.LiveThreads.{contains_thread_of}
use Rattle.iop_thread.proofs.Strict.{settled_is}
use Rattle.iop_thread.specs.Laws.{IsSettled}
use Rattle.iop_thread.specs.Operations as threads
use Rattle.iop_thread.specs.Placing.{times, is_in_state}
use Rattle.iop_thread.specs.States.{wait_in, sleeps, is_ready, is_running, zeroed_at}
use Rattle.iop_thread.specs.ThreadTable.{thread_of, priority_of, running_thread, is_it}
use Rattle.iop_thread.specs.Waits.{wait_of}
use Rattle.iop_thread.specs.declared.kind.Kind.{Kind}
use Rattle.iop_thread.specs.declared.kind.Kind.TheVariants.{Semaphore, EventFlag, Mailbox, VariablePool, FixedPool}
use Rattle.iop_thread.specs.declared.state.State.{State as ThreadState}
use Rattle.iop_thread.specs.declared.state.State.TheVariants.{Dormant, Running, Ready, Waiting, Suspended, WaitingSuspended}
use Rattle.iop_thread.specs.declared.thread.Thread.{Thread}
use Rattle.iop_thread.specs.declared.wait.Wait.{Wait}
use Rattle.iop_thread.specs.declared.wait.Wait.TheVariants.{Sleep, Delay, Object as ForObject}
use Rattle.iop_time.specs.declared.delay.Delay.{Delay as DelayOf}
use Rattle.iop_saved_checks.specs.Idle.{is_idle_where}
use Rattle.iop_saved_checks.specs.Kernels.{is_awake, all_objects_agree, agrees}
use Rattle.iop_saved_checks.specs.Laws.{TablesAreRegular, IsInAgreement, HasLoaded, SoundKernelsAgree}
use Rattle.iop_saved_checks.specs.Objects.{agrees_in, objects_agree}
use Rattle.iop_saved_checks.specs.Places.{has_place}
use Rattle.iop_saved_checks.specs.Threads.{is_awaited, is_unwoken, has_loaded, is_behind, is_in_turn, thread_agrees, threads_agree, delays_agree}
use Rattle.iop_saved_checks.specs.Waiters.{is_waiter}
use Rattle.iop_saved_checks.proofs.IdlePassing.{IsRegular, idle_passes}
use Rattle.iop_saved_checks.proofs.Lists.{all_pass}
use Rattle.iop_saved_checks.proofs.Among.{one_at_least, is_held, has_delay, all_times, contains_mapped, object_found, its_own}

module _ (memory : Memory) (k : Kernel) (regular : TablesAreRegular k)
    (h : IsInAgreement memory k) where
  awake_passes : is_awake k ≡ true
  awake_passes = by k.threads.running refl
    where
      may : (handler : Option ActiveHandler) → (handler ≡ None → k.interrupts ≡ true)
          → (is_some handler || k.interrupts) ≡ true
      may None on = on refl
      may (Some one) on = refl

      by : (running : Option ℕ) → k.threads.running ≡ running
          → (is_some running || k.dispatching && (in_handler k || k.interrupts)) ≡ true
      by (Some id) is = refl
      by None is =
          let awake = h.awake is in
          and_from k.dispatching (in_handler k || k.interrupts) awake.dispatching
          (may k.handler awake.interrupts)

  -- each live thread is found by its id
  found : (t : Thread) → Contains k.threads.live t → thread_of k.threads.live t.id ≡ Some t
  found t live =
      contains_thread_of k.threads.live t
      (rising_distinct k.threads.live regular.sound.threads.ids.rising) live

  module _ (t : Thread) (live : Contains k.threads.live t) where
    waits_so : wait_of k.threads t.id ≡ wait_in t.state
    waits_so = ap (option_and_then (λ u. wait_in u.state)) (found t live)

    awaited_passes : (wait : Option Wait) → wait_in t.state ≡ wait
        → is_awaited k t.id wait ≡ true
    awaited_passes None is = refl
    awaited_passes (Some Sleep) is = refl
    awaited_passes (Some Delay) is =
        has_delay t.id k.timers.delays
        (h.placed.delays.delays t.id ∙ ap (λ w. one_if (is_for_delay w)) (waits_so ∙ is))
    awaited_passes (Some (ForObject kind id)) is =
        let times_are = (h.placed.objects kind).waiters id t.id in
        let once : times t.id (threads_of (waiters_of (table kind k) id)) ≡ 1 =
        times_are ∙ ap (λ w. one_if (is_for kind id w)) (waits_so ∙ is)
        ∙ ap one_if (its_own kind id) in
        grind (arith, nat_tests, once)

    unwoken_passes : is_unwoken t ≡ true
    unwoken_passes = by (wait_in t.state) refl
      where
        none : (t.wakeups ≡ 0) → (t.wakeups == 0) ≡ true
        none is = grind (arith, nat_tests, is)

        by : (wait : Option Wait) → wait_in t.state ≡ wait
            → (not (sleeps wait) || t.wakeups == 0) ≡ true
        by None is = refl
        by (Some Sleep) is =
            none (All-contains (λ u. wait_in u.state ≡ Some Sleep → u.wakeups ≡ 0) k.threads.live t
            h.overdue.sleepers live is)
        by (Some Delay) is = refl
        by (Some (ForObject kind id)) is = refl

    loaded_passes : has_loaded t.state ≡ true
    loaded_passes =
        by t.state (All-contains (λ u. HasLoaded u.state) k.threads.live t h.loaded live)
      where
        no_load : {X : Type 0} (o : Option X) → o ≡ None → not (is_some o) ≡ true
        no_load o none = rw none refl

        by : (state : ThreadState) → HasLoaded state → has_loaded state ≡ true
        by Dormant is = refl
        by Running is = refl
        by (Ready own) is = refl
        by (Waiting wait own) is = no_load own.pending is.1
        by (Suspended own) is = refl
        by (WaitingSuspended wait own) is = no_load own.pending is.1

    -- no ready thread is better than the one that runs, where another may run
    in_turn_passes : is_in_turn k t ≡ true
    unfolding dispatches
    in_turn_passes = by (may_dispatch k) refl
      where
        no_map : {X Y : Type 0} (f : X → Y) (o : Option X) → option_map f o ≡ None → o ≡ None
        no_map f None e = refl
        no_map f (Some x) e = absurd cc

        settled : may_dispatch k ≡ true → IsSettled k.threads
        settled may =
            settled_is k.threads (zeroed_at 0) regular.sound.threads
            (no_map (dispatched k) (threads.dispatches k.threads (zeroed_at 0))
            (sym (rw may refl) ∙ h.settled (zeroed_at 0)))

        listed : is_ready t.state ≡ true → times t.id k.threads.ready ≡ 1
        listed is =
            regular.sound.threads.ready t.id
            ∙ ap (λ o. one_if (unwrap_or (option_map (λ u. is_ready u.state) o) false))
            (found t live)
            ∙ ap one_if is

        there : (id : ℕ) (o : Option Thread)
            → unwrap_or (option_map (λ u. is_running u.state) o) false ≡ true
            → (u : Thread) × (o ≡ Some u)
        there id None is = absurd cc
        there id (Some u) is = (u, refl)

        behind : is_ready t.state ≡ true → IsSettled k.threads → (running : Option ℕ)
            → k.threads.running ≡ running
            → is_behind t (option_and_then (thread_of k.threads.live) running) ≡ true
        behind ready settled None is =
            let none : times t.id k.threads.ready ≡ 0 = ap (times t.id) (settled.idle is) in
            absurd (omega (arith, none, listed ready))
        behind ready settled (Some r) is =
            let runs : is_in_state is_running k.threads.live r ≡ true =
            sym (regular.sound.threads.running r) ∙ ap (λ o. is_it o r) is
            ∙ grind (arith, nat_tests) in
            let it = there r (thread_of k.threads.live r) runs in
            let le = all_times (λ id. priority_of k.threads.live r ≤ priority_of k.threads.live id)
            k.threads.ready t.id (omega (arith, listed ready)) (settled.best r is) in
            let own : priority_of k.threads.live t.id ≡ t.priority =
            ap (λ o. unwrap_or (option_map (λ u. u.priority) o) 0) (found t live) in
            let its : priority_of k.threads.live r ≡ it.0.priority =
            ap (λ o. unwrap_or (option_map (λ u. u.priority) o) 0) it.1 in
            let passes : nat_le it.0.priority t.priority ≡ true =
            grind (arith, nat_tests, le, own, its) in
            ap (is_behind t) it.1 ∙ passes

        by : (b : Bool) → may_dispatch k ≡ b
            → (not (b && is_ready t.state) || is_behind t (running_thread k.threads)) ≡ true
        by false may = refl
        by true may = ready (is_ready t.state) refl
          where
            ready : (r : Bool) → is_ready t.state ≡ r
                → (not r || is_behind t (running_thread k.threads)) ≡ true
            ready false is = refl
            ready true is = behind is (settled may) k.threads.running refl

    passes : thread_agrees k t ≡ true
    passes =
        and_from _ _ (and_from _ _ (and_from _ _ (awaited_passes (wait_in t.state) refl)
        unwoken_passes) loaded_passes) in_turn_passes

  threads_pass : threads_agree k ≡ true
  unfolding threads_agree
  threads_pass =
      all_pass (thread_agrees k) (Contains k.threads.live) passes k.threads.live
      (All-contains_itself k.threads.live)

  -- a delay that stands is that of a thread that waits for a time
  delay_passes : (d : DelayOf) → Contains k.timers.delays d
      → is_for_delay (wait_of k.threads d.thread) ≡ true
  delay_passes d inside =
      is_held (times d.thread (map (λ delay. delay.thread) k.timers.delays))
      (is_for_delay (wait_of k.threads d.thread))
      (one_at_least (map (λ delay. delay.thread) k.timers.delays) d.thread
      (contains_mapped (λ (delay : DelayOf). delay.thread) k.timers.delays d inside))
      (h.placed.delays.delays d.thread)

  delays_pass : delays_agree k ≡ true
  unfolding delays_agree
  delays_pass =
      all_pass (λ delay. is_for_delay (wait_of k.threads delay.thread)) (Contains k.timers.delays)
      delay_passes k.timers.delays (All-contains_itself k.timers.delays)

  module _ (kind : Kind) where
    abbrev s : Table kind
    s = table kind k

    places_pass : (wants : Wants kind) → HasPlace kind memory wants
        → has_place kind memory wants ≡ true
    places_pass wants is = by kind wants is
      where
        by : (kind : Kind) (wants : Wants kind) → HasPlace kind memory wants
            → has_place kind memory wants ≡ true
        by Semaphore wants is = refl
        by EventFlag wants is = is
        by Mailbox at is = is
        by VariablePool size is = refl
        by FixedPool wants is = refl

    waiter_passes : (id : ℕ) (x : Queued (Waiter (Wants kind))) → Contains (waiters_of s id) x
        → (is_waiter k.threads kind id x && has_place kind memory x.item.wants) ≡ true
    waiter_passes id x inside =
        let queue = waiters_of s id in
        let waits = is_held (times x.item.thread (threads_of queue))
        (is_for kind id (wait_of k.threads x.item.thread))
        (one_at_least (threads_of queue) x.item.thread
        (contains_mapped (λ (x : Queued (Waiter (Wants kind))). x.item.thread) queue x inside))
        ((h.placed.objects kind).waiters id x.item.thread) in
        let its = All-contains (HasItsPriority k.threads) queue x
        ((h.placed.objects kind).priorities id) inside in
        let place = All-contains (λ x. HasPlace kind memory x.item.wants) queue x
        (h.places kind id) inside in
        and_from _ _ (and_from _ _ waits (grind (arith, nat_tests, its)))
        (places_pass x.item.wants place)

    is_regular : (o : Live kind) → Contains s.live o → IsRegular kind o
    is_regular = by kind
      where
        by : (kind : Kind) (o : Live kind) → Contains (table kind k).live o → IsRegular kind o
        by Semaphore o inside = tt
        by EventFlag o inside = tt
        by Mailbox o inside = tt
        by VariablePool o inside =
            All-contains variable.IsRegular k.variable_pools.live o regular.variable_pools inside
        by FixedPool o inside =
            All-contains fixed.IsRegular k.fixed_pools.live o regular.fixed_pools inside

    object_passes : (o : Live kind) → Contains s.live o
        → agrees_in memory k.threads kind s o.id ≡ true
    object_passes o inside =
        let known : object_of s.live o.id ≡ Some o =
        object_found s.live o (regular.sound.objects kind).ids inside in
        and_from _ _
        (all_pass (λ x. is_waiter k.threads kind o.id x && has_place kind memory x.item.wants)
        (Contains (waiters_of s o.id)) (waiter_passes o.id) (waiters_of s o.id)
        (All-contains_itself (waiters_of s o.id)))
        (idle_at known)
      where
        idle_at : object_of s.live o.id ≡ Some o
            → is_idle_where kind (state_of s o.id) (waiters_of s o.id) ≡ true
        idle_at known =
            let state : state_of s o.id ≡ Some o.state = ap (option_map (λ p. p.state)) known in
            let waiters : waiters_of s o.id ≡ o.waiters = ap waiters_in known in
            rw (state, waiters)
            (idle_passes kind o (is_regular o inside)
            (subst (IsIdle kind o.state) waiters (h.overdue.objects kind o.id o.state state)))

    objects_pass : objects_agree memory k.threads kind s ≡ true
    unfolding objects_agree
    objects_pass = ids s.live (All-contains_itself s.live)
      where
        ids : (live : List (Live kind)) → All (Contains s.live) live
            → list_all (agrees_in memory k.threads kind s) (map (λ o. o.id) live) ≡ true
        ids [] all = refl
        ids (o ∷ os) all =
            and_from _ _ (object_passes o (All-head (Contains s.live) o os all))
            (ids os (All-tail (Contains s.live) o os all))

  pub pass : agrees memory k ≡ true
  unfolding agrees all_objects_agree
  pass =
      and_from _ _ (and_from _ _
      (and_from _ _ (and_from _ _ (and_from _ _ awake_passes threads_pass) delays_pass)
      (and_from _ _ (and_from _ _ (and_from _ _ (and_from _ _ (objects_pass Semaphore)
      (objects_pass EventFlag)) (objects_pass Mailbox)) (objects_pass VariablePool))
      (objects_pass FixedPool))) h.made.threads) h.made.pools

pub sound_agree : SoundKernelsAgree
sound_agree memory k regular h = pass memory k regular h
