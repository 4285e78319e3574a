-- Threads and waiters are placed when the waits of threads change.
use Rattle.std.proofs.Common.{◌≡◌, ℕ, ◌≤◌, ◌==◌, nat_lt, Bool, true, false, if◌then◌else◌, Option, Some, None, List, [], ◌∷◌, length, All, not, refl, ap, sym, ◌∙◌, subst, arith}
use Rattle.std.specs.Prelude.{option_and_then, option_map, unwrap_or}
use Rattle.std.proofs.lemmas.Bool.{eq-eqb}
use Rattle.std.proofs.lemmas.Bool.Decides.{nat_tests}
use Rattle.std.proofs.lemmas.List.Elements.{All-filter}
use Rattle.iop_base.specs.Numbers.{one_if}
use Rattle.iop_objects.specs.Objects.{waiters_in, waiters_of}
use Rattle.iop_objects.specs.WaiterQueues.{is_thread, without}
use Rattle.iop_objects.proofs.Others.{IsBut, with_waiters_but, waiters_now}
use Rattle.iop_thread.specs.Operations as threads
use Rattle.iop_thread.specs.Placing as threads_placing
use Rattle.iop_thread.specs.Placing.{times}
use Rattle.iop_thread.specs.States.{is_running, wait_in}
use Rattle.iop_thread.specs.ThreadTable.{ThreadTable, thread_of, is_it}
use Rattle.iop_thread.specs.Waits.{wait_of, is_live}
use Rattle.iop_thread.specs.declared.kind.Kind.{Kind}
use Rattle.iop_thread.specs.declared.state.State.{State}
use Rattle.iop_thread.specs.declared.state.State.TheVariants.{Waiting, WaitingSuspended}
use Rattle.iop_thread.specs.declared.thread.Thread.{Thread}
use Rattle.iop_thread.specs.declared.wait.Wait.{Wait}
use Rattle.iop_thread.specs.declared.wait.Wait.TheVariants.{Sleep, Delay, Object}
use Rattle.iop_thread.proofs.Placed.{keeps_places}
use Rattle.iop_thread.proofs.ReadyIds.{times_first}
use Rattle.iop_thread.proofs.Waits.{moves_waits}
use Rattle.iop_time.specs.Timers.{Timers, AreTimers}
use Rattle.iop_time.specs.declared.clock.TheConstants.{MOST_DELAYS}
use Rattle.iop_time.proofs.Keeping.{without_delays-keeps}
use Rattle.iop_kernel.specs.Kinds.{is_kind, Live, Table, table, with_table, is_by_priority}
use Rattle.iop_kernel.specs.Placing.{IsPlaced, AreWaited, AreDelayed, HasItsPriority, is_for_delay, is_for}
use Rattle.iop_kernel.specs.System.{Kernel}
use Rattle.iop_kernel.specs.Waits.{leaves_object, requeues_at, wakes_all}
use Rattle.iop_kernel.proofs.Bodies.KindTables.{each_table, other_kind, own_object}
use Rattle.iop_kernel.proofs.Placing.Live.{live_room}
use Rattle.iop_kernel.proofs.Placing.Priorities.{KeepAll, KeepPriorities, IsChanged, keeps_priorities, other_wait}
use Rattle.iop_kernel.proofs.Placing.QueuedPriorities.{queued_on}
use Rattle.iop_kernel.proofs.Placing.Queues.{delayed, times_dropped, times_in, times_in_without}
use Rattle.iop_kernel.proofs.Placing.Turns.{Turns, asked_alike, counted, one_turns, waited_alike, waited_requeues, waited_turns}

-- other threads stand in the kernel, with other objects of a kind
placed_objects : (kind : Kind) (k : Kernel) (left : ThreadTable) (s : Table kind)
    → threads_placing.IsPlaced left → AreWaited kind s left
    → ((other : Kind) → is_kind other kind ≡ false
    → AreWaited other (table other k) left)
    → AreDelayed k.timers left → IsPlaced (with_table kind (record k { threads = left }) s)
placed_objects kind k left s placed own rest delays = record {
  threads = placed;
  objects = each_table (λ other t. AreWaited other t left) kind k s own rest;
  delays = delays;
}

-- or the same threads
pub placed_own : (k : Kernel) → IsPlaced k → (kind : Kind) (s : Table kind)
    → AreWaited kind s k.threads → IsPlaced (with_table kind k s)
placed_own k h kind s own =
    placed_objects kind k k.threads s h.threads own (λ other apart. h.objects other) h.delays

-- some threads wait for something else
module _ (k : Kernel) (h : IsPlaced k) {turns : ℕ → Bool} {was now : Option Wait}
    {left : ThreadTable} where
  -- the objects for which they did not, and do not, are waited for alike
  elsewhere : {wait : Wait} → Turns wait turns was now k.threads left → (kind : Kind)
      → ((id : ℕ) → is_for kind id None ≡ is_for kind id (Some wait))
      → AreWaited kind (table kind k) left
  elsewhere g kind same =
      waited_alike kind (table kind k) (h.objects kind) left
      (λ id. asked_alike g (is_for kind id) (same id)) (g.priorities.waiting kind)

  -- so are the delays
  delays_alike : {wait : Wait} → Turns wait turns was now k.threads left
      → is_for_delay None ≡ is_for_delay (Some wait) → AreDelayed k.timers left
  delays_alike g same = record {
    delays = λ t. h.delays.delays t ∙ ap one_if (sym (asked_alike g is_for_delay same t));
    kept = h.delays.kept;
    room = g.room;
  }

  -- they sleep, or sleep no more
  pub asleep_turns : Turns Sleep turns was now k.threads left
      → IsPlaced (record k { threads = left })
  asleep_turns g = record {
    threads = g.placed;
    objects = λ kind. elsewhere g kind (λ id. refl);
    delays = delays_alike g refl;
  }

  -- they wait for a time, or wait for it no more
  pub delay_turns : Turns Delay turns was now k.threads left → (timers : Timers) → AreTimers timers
      → ((t : ℕ) → times t (delayed timers.delays)
      ≡ (if turns t then one_if (is_for_delay now) else times t (delayed k.timers.delays)))
      → IsPlaced (record k { threads = left; timers = timers })
  delay_turns g timers kept changed = record {
    threads = g.placed;
    objects = λ kind. elsewhere g kind (λ id. refl);
    delays = record {
      delays = counted g is_for_delay h.delays.delays changed;
      kept = kept;
      room = g.room;
    };
  }

  -- they wait for an object, or wait for it no more
  pub object_turns : (kind : Kind) (id : ℕ) → Turns (Object kind id) turns was now k.threads left
      → (s : Table kind) → IsBut id (table kind k) s
      → ((t : ℕ) → times_in t (waiters_of s id)
      ≡ (if turns t then one_if (is_for kind id now)
      else times_in t (waiters_of (table kind k) id)))
      → All (HasItsPriority left) (waiters_of s id)
      → IsPlaced (with_table kind (record k { threads = left }) s)
  object_turns kind id g s but changed queued =
      placed_objects kind k left s g.placed
      (waited_turns kind (table kind k) (h.objects kind) id but g changed queued)
      (λ other apart. elsewhere g other (other_kind kind other apart id)) (delays_alike g refl)

-- no wait changes, and there is room for a delay of each thread
pub stand : (k : Kernel) → IsPlaced k → {left : ThreadTable} → threads_placing.IsPlaced left
    → length left.live ≤ MOST_DELAYS → ((t : ℕ) → wait_of left t ≡ wait_of k.threads t)
    → KeepPriorities k.threads left → IsPlaced (record k { threads = left })
stand k h placed room on keep =
    asleep_turns k h {turns = λ t. false} {was = None} {now = None} (record {
      placed = placed;
      room = room;
      before = λ t never. cc;
      after = on;
      alike = λ asks same. refl;
      priorities = keep;
    })

-- the priority of a thread changes, also among those that wait for the object for which it does
module _ (k : Kernel) (h : IsPlaced k) (left : ThreadTable) (placed : threads_placing.IsPlaced left)
    (room : length left.live ≤ MOST_DELAYS) (on : (t : ℕ) → wait_of left t ≡ wait_of k.threads t)
    (thread priority : ℕ) where
  -- where it waits for no object all stand
  changed_beside : (wait : Option Wait) → IsChanged k.threads left thread priority wait
      → ((kind : Kind) (id : ℕ) → Some (Object kind id) ≡ wait → ⊥)
      → IsPlaced (record k { threads = left })
  changed_beside wait changed none =
      stand k h placed room on (record {
        waiting = λ kind id t is.
            changed.others t (other_wait k.threads t thread _ wait is changed.waits (none kind id));
      })

  pub placed_changes : (wait : Option Wait) → IsChanged k.threads left thread priority wait
      → IsPlaced (requeues_at (record k { threads = left }) thread priority wait)
  placed_changes None changed = changed_beside None changed (λ kind id same. cc)
  placed_changes (Some Sleep) changed = changed_beside (Some Sleep) changed (λ kind id same. cc)
  placed_changes (Some Delay) changed = changed_beside (Some Delay) changed (λ kind id same. cc)
  placed_changes (Some (Object kind n)) changed =
      let s = table kind k in
      placed_objects kind k left _ placed
      (waited_requeues kind s (h.objects kind) left n (is_by_priority kind s n) thread priority
      changed on)
      (λ other apart. waited_alike other (table other k) (h.objects other) left
      (λ id t. ap (is_for other id) (on t))
      (λ id t is. changed.others t (other_wait k.threads t thread _ _ is changed.waits
      (of_another kind other apart n id))))
      (record {
        delays = λ t. h.delays.delays t ∙ ap (λ w. one_if (is_for_delay w)) (sym (on t));
        kept = h.delays.kept;
        room = room;
      })
    where
      -- a wait for an object of another kind is another wait
      of_another : (kind other : Kind) → is_kind other kind ≡ false → (n id : ℕ)
          → Some (Object other id) ≡ Some (Object kind n) → ⊥
      of_another kind other apart n id same =
          let its = own_object other id id ∙ eq-eqb id id refl in
          let none = other_kind kind other apart n id in
          let both = ap (is_for other id) same in
          cc (its, none, both)

-- the wait of a thread ends
module _ (k : Kernel) (left : ThreadTable) (h : IsPlaced k) (placed : threads_placing.IsPlaced left)
    (thread : ℕ)
    (now : (t : ℕ) → wait_of left t ≡ (if thread == t then None else wait_of k.threads t))
    (live : (id : ℕ) → is_live left id ≡ is_live k.threads id)
    (keep : KeepPriorities k.threads left) where
  turn : (wait : Wait) (was : Option Wait) → wait_of k.threads thread ≡ was
      → ((asks : Option Wait → Bool) → asks None ≡ asks (Some wait) → asks None ≡ asks was)
      → Turns wait (λ t. thread == t) was None k.threads left
  turn wait was is alike =
      one_turns thread placed (live_room k.threads left placed live h.delays.room) is now alike
      keep

  -- it is no longer among those that wait for the object of its wait, or for a time
  pub placed_leaves : (wait : Option Wait) → wait_of k.threads thread ≡ wait
      → IsPlaced (leaves_object (record k { threads = left }) thread wait)
  placed_leaves None was = asleep_turns k h (turn Sleep None was (λ asks same. refl))
  placed_leaves (Some Sleep) was = asleep_turns k h (turn Sleep _ was (λ asks same. same))
  placed_leaves (Some Delay) was =
      delay_turns k h (turn Delay _ was (λ asks same. same)) _
      (without_delays-keeps k.timers _ h.delays.kept) (times_dropped k.timers.delays thread)
  placed_leaves (Some (Object kind id)) was =
      let s = table kind k in
      let rest = without thread (waiters_of s id) in
      let now = waiters_now s id rest
      (ap (λ (o : Option (Live kind)). without thread (waiters_in o))) in
      object_turns k h kind id (turn (Object kind id) _ was (λ asks same. same)) _
      (with_waiters_but s id rest)
      (λ t. ap (times_in t) now ∙ times_in_without t thread (waiters_of s id))
      (subst (All (HasItsPriority left)) (sym now)
      (All-filter (λ x. not (is_thread thread x)) (HasItsPriority left) (waiters_of s id)
      (queued_on kind s (h.objects kind) id left (keep.waiting kind id))))

-- the thread that runs waits for nothing
pub running_waits_not : (s : ThreadTable) → threads_placing.IsPlaced s → (id : ℕ)
    → is_it s.running id ≡ true → wait_of s id ≡ None
running_waits_not s placed id runs = by (thread_of s.live id) (sym (placed.running id) ∙ runs)
  where
    idle : (state : State) → is_running state ≡ true → wait_in state ≡ None
    idle (Waiting wait own) is = cc
    idle (WaitingSuspended wait own) is = cc
    idle other is = refl

    by : (o : Option Thread) → unwrap_or (option_map (λ t. is_running t.state) o) false ≡ true
        → option_and_then (λ t. wait_in t.state) o ≡ None
    by None is = refl
    by (Some t) is = idle t.state is

-- several waits end, the same threads are live, and each has its priority
pub record AllWoken (s : ThreadTable) (ids : List ℕ) (left : ThreadTable) : Type 0 where
  pub placed : threads_placing.IsPlaced left
  pub live : (t : ℕ) → is_live left t ≡ is_live s t
  pub waits : (t : ℕ) → wait_of left t ≡ (if nat_lt 0 (times t ids) then None else wait_of s t)
  pub priorities : KeepAll s left

-- one after the other
pub all_woken : (s : ThreadTable) → threads_placing.IsPlaced s → (ids : List ℕ) (word : ℕ)
    → AllWoken s ids (wakes_all s ids word)
all_woken s placed [] word = record {
  placed = placed;
  live = λ t. refl;
  waits = λ t. refl;
  priorities = record { each = λ t. refl };
}
all_woken s placed (id ∷ ids) word =
    let next = threads.wakes s id word in
    let woken = (keeps_places s placed).wakes id word in
    let later = all_woken next woken ids word in
    let moved = (moves_waits s placed).wakes id word in
    record {
      placed = later.placed;
      live = λ t. later.live t ∙ moved.live t;
      waits = λ t. grind (arith, nat_tests, later.waits t, moved.waits t, times_first t id ids);
      priorities =
          let first = (keeps_priorities s placed).wakes id word in
          record { each = λ t. later.priorities.each t ∙ first.each t };
    }
