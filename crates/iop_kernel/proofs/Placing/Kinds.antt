-- Threads and waiters stay placed where the running thread waits for an object or for a time, or
-- threads that wait for an object are woken: once for all kinds of objects.
use Rattle.std.proofs.Common.{◌≡◌, ℕ, ◌+◌, ◌<◌, ◌==◌, nat_lt, Bool, true, false, if◌then◌else◌, Option, Some, None, List, ◌∷◌, ◌++◌, [], All, refl, ap, sym, ◌∙◌, subst, arith}
use Rattle.std.proofs.lemmas.Bool.{cond_both, eq-eqb, ltb-false, ltb-true}
use Rattle.std.proofs.lemmas.List.Elements.{All-push, All-weaker}
use Rattle.iop_base.specs.Numbers.{one_if}
use Rattle.iop_exec.specs.declared.cpu.Cpu.{Cpu}
use Rattle.iop_objects.specs.Objects.{object_of, state_of, waiters_in, waiters_of}
use Rattle.iop_objects.specs.Objects as objects
use Rattle.iop_queues.specs.Queue.{Choice, chooses, in_order}
use Rattle.iop_queues.specs.declared.queued.Queued.{Queued}
use Rattle.iop_objects.specs.declared.waiter.Waiter.{Waiter}
use Rattle.iop_objects.proofs.Changes.{waiters_of-with_waiters, waiters_of-with_state}
use Rattle.iop_objects.proofs.Chosen.{all_but_chosen, all_but_taken}
use Rattle.iop_objects.proofs.Others.{IsBut, with_waiters_but, with_state_but, but_twice}
use Rattle.iop_pools.specs.Pools.{Pool}
use Rattle.iop_pools.specs.VariablePools.{VariablePools, meets_next}
use Rattle.iop_pools.specs.declared.met.Met.{Met}
use Rattle.iop_pools.proofs.MetNext.{met_next}
use Rattle.iop_thread.specs.Operations as threads
use Rattle.iop_thread.specs.Placing.{times}
use Rattle.iop_thread.specs.ThreadTable.{ThreadTable, is_it, priority_of}
use Rattle.iop_thread.specs.Waits.{wait_of}
use Rattle.iop_thread.specs.declared.kind.Kind.{Kind}
use Rattle.iop_thread.specs.declared.kind.Kind.TheVariants.{VariablePool}
use Rattle.iop_thread.specs.declared.wait.Wait.{Wait}
use Rattle.iop_thread.specs.declared.wait.Wait.TheVariants.{Delay, Object}
use Rattle.iop_thread.proofs.ReadyIds.{times_first}
use Rattle.iop_time.specs.Timers.{delays}
use Rattle.iop_time.proofs.Keeping.{with_delay-keeps}
use Rattle.iop_kernel.specs.Kinds.{State, Wants, Table, table, with_table, waits_by_priority}
use Rattle.iop_kernel.specs.Placing.{IsPlaced, HasItsPriority, is_for, is_for_delay}
use Rattle.iop_kernel.specs.System.{Kernel}
use Rattle.iop_kernel.specs.Waits.{threads_of, wakes_all}
use Rattle.iop_kernel.proofs.Bodies.KindTables.{for_object, own_object}
use Rattle.iop_kernel.proofs.Placing.Basics.{places, moves, keeps, same_live}
use Rattle.iop_kernel.proofs.Placing.Priorities.{all_waiting, keeps_priorities}
use Rattle.iop_kernel.proofs.Placing.QueuedPriorities.{queued_on}
use Rattle.iop_kernel.proofs.Placing.Queues.{times_added, times_in, times_in_last, times_in_order, chosen_split, taken_split}
use Rattle.iop_kernel.proofs.Placing.Rooms.{fewer_delays, runs_undelayed}
use Rattle.iop_kernel.proofs.Placing.Threads.{all_woken, delay_turns, object_turns, running_waits_not}
use Rattle.iop_kernel.proofs.Placing.Turns.{Turns}

-- the running thread waits
module _ (k : Kernel) (h : IsPlaced k) (wait : Wait) (registers : Cpu) where
  abbrev blocked : ThreadTable
  blocked = threads.blocks k.threads wait registers

  pub blocked_turns : Turns wait (is_it k.threads.running) None (Some wait) k.threads blocked
  blocked_turns =
      let placed = (places k h).blocks wait registers tt tt in
      let moved = (moves k h).blocks wait registers in
      record {
        placed = placed;
        room = same_live k h placed moved.live;
        before = running_waits_not k.threads h.threads;
        after = moved.waits;
        alike = λ asks same. sym same;
        priorities = all_waiting ((keeps k h).blocks wait registers);
      }

  -- a list of the threads for whose waits something is true has the running one more
  one_more : (thread : ℕ) → k.threads.running ≡ Some thread → (asks : Option Wait → Bool)
      → asks None ≡ false → asks (Some wait) ≡ true → {often later : ℕ → ℕ}
      → ((t : ℕ) → often t ≡ one_if (asks (wait_of k.threads t)))
      → ((t : ℕ) → later t ≡ one_if (thread == t) + often t) → (t : ℕ)
      → later t ≡ (if is_it k.threads.running t then one_if (asks (Some wait)) else often t)
  one_more thread runs asks none own {often} {later} once more t =
      let same = ap (λ o. one_if (is_it o t)) runs in
      cond_both (is_it k.threads.running t) _ _ (λ n. later t ≡ n)
      (λ it.
      let nobody = once t ∙ ap (λ w. one_if (asks w))
      (running_waits_not k.threads h.threads t it) ∙ ap one_if none in
      omega (arith, more t, same, ap one_if it, nobody, ap one_if own))
      (λ other. omega (arith, more t, same, ap one_if other))

-- it waits for a time
pub delayed_placed : (k : Kernel) → IsPlaced k → (registers : Cpu) (moment thread : ℕ)
    → k.threads.running ≡ Some thread
    → IsPlaced (record k {
      threads = threads.blocks k.threads Delay registers;
      timers = delays k.timers moment thread;
    })
delayed_placed k h registers moment thread runs =
    delay_turns k h (blocked_turns k h Delay registers) _
    (with_delay-keeps k.timers moment thread h.delays.kept (runs_undelayed k h thread runs)
    (fewer_delays k h thread runs))
    (one_more k h Delay registers thread runs is_for_delay refl refl h.delays.delays
    (times_added k.timers.delays _))

module _ (kind : Kind) (k : Kernel) (h : IsPlaced k) (id : ℕ) where
  abbrev s : Table kind
  s = table kind k

  -- it waits for an object
  pub blocked_placed : (registers : Cpu) (thread : ℕ) → k.threads.running ≡ Some thread
      → (x : State kind) → state_of s id ≡ Some x → (wants : Wants kind)
      → IsPlaced (with_table kind
      (record k { threads = threads.blocks k.threads (Object kind id) registers })
      (objects.waits s id (record {
        priority = priority_of k.threads.live thread;
        item = record { thread = thread; wants = wants };
      })))
  blocked_placed registers thread runs x known wants =
      let left = threads.blocks k.threads (Object kind id) registers in
      let keep = (keeps_priorities k.threads h.threads).blocks (Object kind id) registers in
      let last : Queued (Waiter (Wants kind)) = record {
        priority = priority_of k.threads.live thread;
        item = record { thread = thread; wants = wants };
      } in
      let more = waiters_of s id ++ last ∷ [] in
      let now = waiters_of-with_waiters s id x known more in
      object_turns k h kind id (blocked_turns k h (Object kind id) registers) _
      (with_waiters_but s id more)
      (one_more k h (Object kind id) registers thread runs (is_for kind id) refl
      (own_object kind id id ∙ eq-eqb id id refl) ((h.objects kind).waiters id)
      (λ t. ap (times_in t) now ∙ times_in_last t (waiters_of s id) last))
      (subst (All (HasItsPriority left)) (sym now)
      (All-push (HasItsPriority left) (waiters_of s id) last
      (queued_on kind s (h.objects kind) id left (λ t is. keep.each t)) (sym (keep.each thread))))

  -- some that wait for the object are woken, and the others wait on
  module _ {left : Table kind} (but : IsBut id s left) (ids : List ℕ) (word : ℕ)
      (split : (t : ℕ) → times_in t (waiters_of left id) + times t ids
      ≡ times_in t (waiters_of s id))
      (rest : All (HasItsPriority k.threads) (waiters_of s id)
      → All (HasItsPriority k.threads) (waiters_of left id)) where
    abbrev asks : ℕ → Bool
    asks t = is_for kind id (wait_of k.threads t)

    -- each was among those that waited for it, once
    once : (t : ℕ) → times_in t (waiters_of left id) + times t ids ≡ one_if (asks t)
    once t = split t ∙ (h.objects kind).waiters id t

    -- a thread that is woken is one that waited for it, and is not among the others
    woken_asks : (b : Bool) {rest often : ℕ} → rest + often ≡ one_if b → 0 < often
        → (b ≡ true) × (rest ≡ 0)
    woken_asks true is some = (refl, omega (arith, is, some))
    woken_asks false is some = absurd (omega (arith, is, some))

    -- so all is placed
    pub woken_placed : IsPlaced (with_table kind (record k {
      threads = wakes_all k.threads ids word;
    }) left)
    woken_placed =
        let all = all_woken k.threads h.threads ids word in
        object_turns k h {was = Some (Object kind id)} {now = None} kind id (record {
          placed = all.placed;
          room = same_live k h all.placed all.live;
          before = λ t it. for_object kind id _ (woken_asks (asks t) (once t) (ltb-true 0 _ it)).0;
          after = all.waits;
          alike = λ asks same. same;
          priorities = all_waiting all.priorities;
        }) left but
        (λ t. cond_both (nat_lt 0 (times t ids)) _ _ (λ n. times_in t (waiters_of left id) ≡ n)
        (λ it. (woken_asks (asks t) (once t) (ltb-true 0 _ it)).1)
        (λ none. omega (arith, split t, ltb-false 0 _ none)))
        (All-weaker (HasItsPriority k.threads) (HasItsPriority (wakes_all k.threads ids word))
        (λ x was. was ∙ sym (all.priorities.each x.item.thread)) (waiters_of left id)
        (rest ((h.objects kind).priorities id)))

  -- so where one is chosen
  pub chosen_placed : (x : State kind) → state_of s id ≡ Some x
      → (one : Choice (Waiter (Wants kind)))
      → chooses (waits_by_priority kind x) (waiters_of s id) ≡ Some one → (word : ℕ)
      → IsPlaced (with_table kind
      (record k { threads = threads.wakes k.threads one.one.item.thread word })
      (objects.with_waiters s id one.others))
  chosen_placed x known one chosen word =
      let ordered = waits_by_priority kind x in
      let now = waiters_of-with_waiters s id x known one.others in
      woken_placed (with_waiters_but s id one.others) (one.one.item.thread ∷ []) word
      (λ t. omega (
        arith,
        ap (times_in t) now,
        chosen_split t ordered (waiters_of s id) one chosen,
        times_first t one.one.item.thread [],
      ))
      (λ were. subst (All (HasItsPriority k.threads)) (sym now)
      (all_but_chosen (HasItsPriority k.threads) ordered (waiters_of s id) one chosen were))

-- so where one is met that waits for a variable pool, and its memory is taken
pub met_placed : (k : Kernel) → IsPlaced k → (id : ℕ) (met : Met) (left : VariablePools)
    → meets_next k.variable_pools id ≡ (Some met, left)
    → IsPlaced (record k {
      variable_pools = left;
      threads = threads.wakes k.threads met.thread met.block;
    })
met_placed k h id met left is =
    let s = k.variable_pools in
    let m = met_next s id met left is in
    let rest = objects.with_waiters s id m.one.others in
    let now = waiters_of-with_waiters s id m.x m.known m.one.others in
    let last = λ (y : Pool). waiters_of-with_state rest id y ∙ now in
    let placed = λ (y : Pool). woken_placed VariablePool k h id
    (but_twice id (with_waiters_but s id m.one.others) (with_state_but rest id y))
    (met.thread ∷ []) met.block
    (λ t. omega (
      arith,
      ap (times_in t) (last y),
      taken_split t (waiters_of s id) m.one m.taken,
      times_first t met.thread [],
      ap (λ thread. one_if (thread == t)) m.thread,
    ))
    (λ were. subst (All (HasItsPriority k.threads)) (sym (last y))
    (all_but_taken (HasItsPriority k.threads) m.taken were)) in
    subst (λ (l : VariablePools). IsPlaced (record k {
      variable_pools = l;
      threads = threads.wakes k.threads met.thread met.block;
    })) (sym m.leaves) (placed _)

-- all that wait for an object, in order of priority or of arrival
pub all_in_order : {A W : Type 0} (s : objects.Objects A W) (o : objects.Object A W)
    → object_of s.live o.id ≡ Some o → (ordered : Bool) (t : ℕ)
    → times t (threads_of (in_order ordered o.waiters)) ≡ times_in t (waiters_of s o.id)
all_in_order {A} {W} s o live ordered t =
    times_in_order t ordered o.waiters
    ∙ ap (λ (found : Option (objects.Object A W)). times_in t (waiters_in found)) (sym live)
