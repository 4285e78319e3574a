-- How the waits of threads end, by the service or the delivery that ends them.
use Rattle.std.proofs.Common.{◌≡◌, ℕ, zero, suc, ◌<◌, true, false, if◌then◌else◌, Option, Some, None, Ok, Err, List, [], ◌∷◌, Contains, refl, ap, sym, ◌∙◌, subst, arith}
use Rattle.std.specs.Prelude.{bit_or, option_and_then, option_map, unwrap_or}
use Rattle.std.proofs.lemmas.Bool.Decides.{nat_tests}
use Rattle.iop_base.specs.Numbers.{one_if}
use Rattle.iop_base.specs.declared.code.TheConstants.Code.{ILLEGAL_BLOCK, ILLEGAL_THREAD, WAIT_RELEASED}
use Rattle.iop_event.specs.WakeConditions.{settles}
use Rattle.iop_mbx.specs.Mailboxes as mailboxes
use Rattle.iop_objects.specs.Objects.{object_of, state_of, waiters_in, waiters_of, takes, takes_next, with_waiters}
use Rattle.iop_pools.specs.FixedPools as pools
use Rattle.iop_pools.specs.Pools.{by_priority}
use Rattle.iop_pools.specs.Ranges.{is_out}
use Rattle.iop_queues.specs.Queue.{chooses}
use Rattle.iop_sema.specs.Semaphores as semaphores
use Rattle.iop_thread.specs.Operations.{wakes, wakes_up}
use Rattle.iop_thread.specs.Placing.{times}
use Rattle.iop_thread.specs.States.{wait_in}
use Rattle.iop_thread.specs.ThreadTable.{thread_of}
use Rattle.iop_thread.specs.Waits.{wait_of}
use Rattle.iop_thread.specs.Waking.{IsWoken}
use Rattle.iop_thread.specs.declared.kind.Kind.TheVariants.{Semaphore, EventFlag, Mailbox, FixedPool}
use Rattle.iop_thread.specs.declared.thread.Thread.{Thread}
use Rattle.iop_thread.specs.declared.wait.Wait.{Wait}
use Rattle.iop_thread.specs.declared.wait.Wait.TheVariants.{Sleep, Delay, Object}
use Rattle.iop_thread.proofs.LiveThreads.{thread_of_id}
use Rattle.iop_thread.proofs.Woken.{wakes_so, wakes_sleeper}
use Rattle.iop_time.specs.declared.delay.Delay.{Delay as DelayOf}
use Rattle.iop_kernel.specs.Answering.{leaves_code}
use Rattle.iop_kernel.specs.Boards.{Board}
use Rattle.iop_kernel.specs.Deliveries.{Delivered}
use Rattle.iop_kernel.specs.DeliveryLaws.{DeliversDelay}
use Rattle.iop_kernel.specs.EventFlags.{sets_flag, set_event_flag, serves_thevent}
use Rattle.iop_kernel.specs.FixedPools.{frees_fpl, free_fpl, serves_thfpool}
use Rattle.iop_kernel.specs.Kinds.{Live}
use Rattle.iop_kernel.specs.Mailboxes.{sends_by, send_mbx, serves_thmsgbx}
use Rattle.iop_kernel.specs.NamedThreads.{is_nobody_else}
use Rattle.iop_kernel.specs.ObjectServices.{threads_in_order}
use Rattle.iop_kernel.specs.Placing.{IsPlaced, is_for_delay}
use Rattle.iop_kernel.specs.Semaphores.{signals_by, signal_sema, serves_thsemap}
use Rattle.iop_kernel.specs.System.{Kernel, Core, Left, Done, argument, answers, code_word}
use Rattle.iop_kernel.specs.Thbase.{serves_thbase}
use Rattle.iop_kernel.specs.ThreadWaits.{releases_from, releases_it, release_wait, wakeup_thread}
use Rattle.iop_kernel.specs.VariablePools.{serves_thvpool}
use Rattle.iop_kernel.specs.Waits.{wakes_with, leaves_object}
use Rattle.iop_kernel_laws.specs.WakingLaws.{WakesOne, WakesEach, WaitsEndSo}
use Rattle.iop_kernel.proofs.Keeping.Meetings.{threads_met, meets_core}
use Rattle.iop_kernel.proofs.Placing.Moves.{times_settled}
use Rattle.iop_kernel.proofs.Placing.Queues.{delayed}
use Rattle.iop_kernel_laws.proofs.WaitsEnd.Met.{free_wakes}
use Rattle.iop_kernel_laws.proofs.WaitsEnd.Waiters.{next_of, times_there, first_waits, each_wakes}

-- a signal
signal_wakes : (c : Core) (id : ℕ) (o : Live Semaphore) (thread : ℕ) (rest : List ℕ)
    → IsPlaced c.kernel → object_of c.kernel.semaphores.live id ≡ Some o
    → threads_in_order Semaphore o ≡ thread ∷ rest
    → WakesOne thread (Object Semaphore id) 0 c.kernel.threads
    (signal_sema c id).state.kernel.threads
signal_wakes c id o thread rest h live is =
    let s = c.kernel.semaphores in
    let by = semaphores.by_priority o.state in
    let next = next_of thread rest by o.waiters is in
    let chosen : chooses by (waiters_of s id) ≡ Some next.0 =
    ap (λ (found : Option (Live Semaphore)). chooses by (waiters_in found)) live ∙ next.1 in
    let did = ap (semaphores.signals_it s id) (ap (option_map (λ o. o.state)) live)
    ∙ ap (λ one. semaphores.signals_by s id o.state (takes s id one)) chosen in
    let left = signals_by c (Ok (Some next.0.one.item.thread), with_waiters s id next.0.others) in
    record {
      waited = first_waits Semaphore c.kernel h id o live thread rest is;
      woken = subst (λ (left : Left Core).
          IsWoken c.kernel.threads left.state.kernel.threads thread 0)
          (sym (ap (signals_by c) did))
          (subst (λ one. IsWoken c.kernel.threads left.state.kernel.threads one 0) next.2
          (wakes_so c.kernel.threads next.0.one.item.thread 0));
    }

-- a message that is sent
send_wakes : (b : Board) (id message : ℕ) (o : Live Mailbox) (thread : ℕ) (rest : List ℕ)
    → IsPlaced b.core.kernel → object_of b.core.kernel.mailboxes.live id ≡ Some o
    → threads_in_order Mailbox o ≡ thread ∷ rest
    → WakesOne thread (Object Mailbox id) 0 b.core.kernel.threads
    (send_mbx b id message).left.state.core.kernel.threads
send_wakes b id message o thread rest h live is =
    let k = b.core.kernel in
    let s = k.mailboxes in
    let by = mailboxes.waiters_by_priority o.state.attr in
    let known : state_of s id ≡ Some o.state = ap (option_map (λ o. o.state)) live in
    let ordered : mailboxes.is_by_priority s id ≡ by =
    ap (λ x. unwrap_or (option_map (λ x. mailboxes.waiters_by_priority x.attr) x) false) known in
    let next = next_of thread rest by o.waiters is in
    let chosen : chooses by (waiters_of s id) ≡ Some next.0 =
    ap (λ (found : Option (Live Mailbox)). chooses by (waiters_in found)) live ∙ next.1 in
    let did = ap (λ x. mailboxes.waiter_for s x (mailboxes.takes_waiter s id)) known
    ∙ ap (λ by. mailboxes.waiter_for s (Some o.state) (takes s id (chooses by (waiters_of s id))))
    ordered
    ∙ ap (λ one. mailboxes.waiter_for s (Some o.state) (takes s id one)) chosen in
    record {
      waited = first_waits Mailbox k h id o live thread rest is;
      woken = subst (λ (d : Done Board).
          IsWoken k.threads d.left.state.core.kernel.threads thread 0)
          (sym (ap (sends_by b id message) did))
          (subst (λ one. IsWoken k.threads (wakes k.threads next.0.one.item.thread 0) one 0)
          next.2 (wakes_so k.threads next.0.one.item.thread 0));
    }

-- a block that is given back
give_wakes : (c : Core) (id block : ℕ) (o : Live FixedPool) (thread : ℕ) (rest : List ℕ)
    → IsPlaced c.kernel → object_of c.kernel.fixed_pools.live id ≡ Some o
    → is_out block o.state.ranges ≡ true → threads_in_order FixedPool o ≡ thread ∷ rest
    → WakesOne thread (Object FixedPool id) block c.kernel.threads
    (free_fpl c id block).state.kernel.threads
give_wakes c id block o thread rest h live there is =
    let s = c.kernel.fixed_pools in
    let by = by_priority o.state in
    let next = next_of thread rest by o.waiters is in
    let chosen : chooses by (waiters_of s id) ≡ Some next.0 =
    ap (λ (found : Option (Live FixedPool)). chooses by (waiters_in found)) live ∙ next.1 in
    let did = ap (pools.gives_it s id block) (ap (option_map (λ o. o.state)) live)
    ∙ ap (λ b. if b then pools.gives_to s id block o.state (takes_next s id by)
    else (Err ILLEGAL_BLOCK, s)) there
    ∙ ap (λ one. pools.gives_to s id block o.state (takes s id one)) chosen in
    let left =
    frees_fpl c block (Ok (Some next.0.one.item.thread), with_waiters s id next.0.others) in
    record {
      waited = first_waits FixedPool c.kernel h id o live thread rest is;
      woken = subst (λ (left : Left Core).
          IsWoken c.kernel.threads left.state.kernel.threads thread block)
          (sym (ap (frees_fpl c block) did))
          (subst (λ one. IsWoken c.kernel.threads left.state.kernel.threads one block) next.2
          (wakes_so c.kernel.threads next.0.one.item.thread block));
    }

-- bits that are set
set_wakes : (b : Board) (id bits : ℕ) (o : Live EventFlag) → IsPlaced b.core.kernel
    → object_of b.core.kernel.event_flags.live id ≡ Some o
    → WakesEach (threads_met (settles (bit_or o.state.pattern bits) o.waiters).met)
    (Object EventFlag id) 0 b.core.kernel.threads
    (set_event_flag b id bits).left.state.core.kernel.threads
set_wakes b id bits o h live =
    let k = b.core.kernel in
    let pattern = bit_or o.state.pattern bits in
    let met = (settles pattern o.waiters).met in
    let Each = WakesEach (threads_met met) (Object EventFlag id) 0 k.threads in
    subst (λ (d : Done Board). Each d.left.state.core.kernel.threads)
    (sym (ap (sets_flag b bits) live))
    (subst (λ (c : Core). Each c.kernel.threads) (sym (meets_core met _))
    (each_wakes EventFlag k h id o live (threads_met met) 0
    (λ t. omega (
      arith,
      times_settled t pattern o.waiters,
      times_there EventFlag k h id o live t,
    ))))

-- a thread that leaves the object of its wait leaves no other thread
leaving_threads : (k : Kernel) (thread : ℕ) (wait : Wait)
    → (leaves_object k thread (Some wait)).threads ≡ k.threads
leaving_threads k thread Sleep = refl
leaving_threads k thread Delay = refl
leaving_threads k thread (Object kind id) = refl

-- a thread is released, by the thread of the id
module _ (c : Core) (id : ℕ) (wait : Wait) where
  abbrev word : ℕ
  word = code_word WAIT_RELEASED

  abbrev Releases : Left Core → Type 0
  Releases left = IsWoken c.kernel.threads left.state.kernel.threads id word

  released_by : (t : Thread) → t.id ≡ id → (o : Option Wait) → o ≡ Some wait
      → Releases (releases_from c t.id o)
  released_by t own None is = absurd (cc is)
  released_by t own (Some why) is =
      subst (λ threads. IsWoken c.kernel.threads threads id word)
      (sym (leaving_threads (wakes_with c t.id WAIT_RELEASED).kernel t.id why))
      (subst (λ one. IsWoken c.kernel.threads (wakes c.kernel.threads t.id word) one word) own
      (wakes_so c.kernel.threads t.id word))

  released : (o : Option Thread) → thread_of c.kernel.threads.live id ≡ o
      → option_and_then (λ t. wait_in t.state) o ≡ Some wait → Releases (releases_it c o)
  released None found is = absurd (cc is)
  released (Some t) found is =
      released_by t (thread_of_id c.kernel.threads.live id t found) (wait_in t.state) is

  release_wakes : is_nobody_else c id ≡ false → wait_of c.kernel.threads id ≡ Some wait
      → Releases (release_wait c id)
  release_wakes other is =
      subst (λ b. Releases (if b then answers c ILLEGAL_THREAD
      else releases_it c (thread_of c.kernel.threads.live id))) (sym other)
      (released (thread_of c.kernel.threads.live id) refl is)

-- a thread that sleeps is woken
wakeup_wakes : (c : Core) (id : ℕ) → is_nobody_else c id ≡ false
    → wait_of c.kernel.threads id ≡ Some Sleep
    → IsWoken c.kernel.threads (wakeup_thread c id).state.kernel.threads id 0
wakeup_wakes c id other asleep =
    subst (λ b. IsWoken c.kernel.threads (if b then answers c ILLEGAL_THREAD
    else leaves_code c (wakes_up c.kernel.threads id)).state.kernel.threads id 0) (sym other)
    (wakes_sleeper c.kernel.threads id asleep)

-- the thread of a delay that stands waits for it
delay_waits : (k : Kernel) (delay : DelayOf) → IsPlaced k → Contains k.timers.delays delay
    → wait_of k.threads delay.thread ≡ Some Delay
delay_waits k delay h stands =
    of (wait_of k.threads delay.thread)
    (omega (arith, there k.timers.delays stands, h.delays.delays delay.thread))
  where
    of : (wait : Option Wait) → 0 < one_if (is_for_delay wait) → wait ≡ Some Delay
    of (Some Delay) some = refl
    of other some = absurd (omega (arith, some))

    there : (delays : List DelayOf) → Contains delays delay
        → 0 < times delay.thread (delayed delays)
    there [] (n, below, here) = absurd (omega (arith, below))
    there (first ∷ delays) (zero, below, here) =
        let same : first ≡ delay = here in
        let own = ap (λ (d : DelayOf). d.thread) same in
        grind (arith, nat_tests, own)
    there (first ∷ delays) (suc n, below, here) =
        let more = there delays (n, omega (arith, below), here) in grind (arith, nat_tests, more)

delay_wakes : (c : Core) (d : Delivered) (delay : DelayOf) → IsPlaced c.kernel
    → Contains c.kernel.timers.delays delay → DeliversDelay c d delay
    → WakesOne delay.thread Delay 0 c.kernel.threads d.core.kernel.threads
delay_wakes c d delay h stands delivers = record {
  waited = delay_waits c.kernel delay h stands;
  woken = subst (λ threads. IsWoken c.kernel.threads threads delay.thread 0)
      (sym delivers.woken) (wakes_so c.kernel.threads delay.thread 0);
}

pub waits_end_so : WaitsEndSo
unfolding serves_thbase serves_thsemap serves_thevent serves_thmsgbx serves_thvpool serves_thfpool
waits_end_so = record {
  signals = λ b. signal_wakes b.core (argument b.core 0);
  sends = λ b. send_wakes b (argument b.core 0) (argument b.core 1);
  sets = λ b. set_wakes b (argument b.core 0) (argument b.core 1);
  gives = λ s. give_wakes s.core (argument s.core 0) (argument s.core 1);
  frees = λ s. free_wakes s.core (argument s.core 0) (argument s.core 1);
  releases = λ s. release_wakes s.core (argument s.core 0);
  wakes_up = λ s. wakeup_wakes s.core (argument s.core 0);
  delays = delay_wakes;
}
