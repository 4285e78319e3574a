-- What single services leave placed: those on threads, on alarms and on the bits of an event flag.
use Rattle.std.proofs.Common.{◌≡◌, ℕ, ◌+◌, ◌≤◌, Bool, nat_lt, Option, Some, None, Result, Ok, List, [], ◌∷◌, length, All, refl, ap, sym, ◌∙◌, arith}
use Rattle.std.specs.List.{list_any}
use Rattle.std.specs.Prelude.{option_and_then}
use Rattle.std.proofs.lemmas.Bool.{and_parts, cond_both, ltb-true}
use Rattle.std.proofs.lemmas.Bool.Decides.{nat_tests}
use Rattle.std.proofs.lemmas.List.Elements.{All-cons, All-head, All-tail}
use Rattle.iop_base.specs.declared.code.Code.{Code}
use Rattle.iop_event.specs.EventFlags.{with_pattern}
use Rattle.iop_event.specs.WakeConditions.{Settled, settles, is_met, pattern_after, met_by, meets, stays}
use Rattle.iop_event.specs.declared.wanted.Wanted.{Wanted}
use Rattle.iop_queues.specs.declared.queued.Queued.{Queued}
use Rattle.iop_objects.specs.declared.waiter.Waiter.{Waiter}
use Rattle.iop_ready.specs.declared.slot.TheConstants.{MOST_THREADS}
use Rattle.iop_thread.specs.Operations as threads
use Rattle.iop_thread.specs.Placing.{times}
use Rattle.iop_thread.specs.States.{is_dormant, wait_in}
use Rattle.iop_thread.specs.ThreadTable.{ThreadTable, has_room, thread_of}
use Rattle.iop_thread.specs.Waits.{wait_of, after_wakeup}
use Rattle.iop_thread.specs.declared.param.Param.{Param}
use Rattle.iop_thread.specs.declared.thread.Thread.{Thread}
use Rattle.iop_thread.specs.declared.wait.Wait.{Wait}
use Rattle.iop_thread.specs.declared.wait.Wait.TheVariants.{Sleep}
use Rattle.iop_thread.proofs.LiveThreads.{length-added}
use Rattle.iop_time.specs.Timers.{Timers, is_alarm_of, with_alarm, without_alarm, sets_alarm, cancels}
use Rattle.iop_time.specs.declared.clock.TheConstants.{MOST_DELAYS, MOST_ALARMS}
use Rattle.iop_time.proofs.Keeping.{with_alarm-keeps, without_alarms-keeps}
use Rattle.iop_kernel.specs.EventFlags.{LiveFlag}
use Rattle.iop_kernel.specs.Placing.{IsPlaced}
use Rattle.iop_kernel.specs.System.{Kernel}
use Rattle.iop_kernel.specs.Waits.{leaves_object, requeues_at}
use Rattle.iop_kernel.proofs.Keeping.Meetings.{threads_met}
use Rattle.iop_kernel.proofs.Placing.Basics.{second, places, moves, keeps, same_live, timers_placed}
use Rattle.iop_kernel.proofs.Placing.Live.{no_more_live}
use Rattle.iop_kernel.proofs.Placing.Priorities.{changes_priority}
use Rattle.iop_kernel.proofs.Placing.Queues.{times_in}
use Rattle.iop_kernel.proofs.Placing.Threads.{stand, placed_changes, placed_leaves, asleep_turns}
use Rattle.iop_kernel.proofs.Placing.Turns.{one_turns}

-- a thread is deleted, if it is there and dormant
pub deleted_placed : (k : Kernel) → IsPlaced k → (id : ℕ)
    → IsPlaced (record k { threads = (threads.deletes k.threads id).1 })
deleted_placed k h id =
    let placed = (places k h).deletes id in
    let moved = (moves k h).deletes id in
    let fewer = no_more_live k.threads _ placed
    (λ other is. (and_parts _ _ (sym (moved.live other) ∙ is)).0) in
    stand k h placed (omega (arith, h.delays.room, fewer)) moved.waits ((keeps k h).deletes id)

-- one is made, if there is room
pub made_placed : (k : Kernel) → IsPlaced k → (param : Param) (stack gp : ℕ)
    → IsPlaced (record k { threads = (threads.creates k.threads param stack gp).1 })
made_placed k h param stack gp =
    stand k h ((places k h).creates param stack gp)
    (cond_both (has_room k.threads) _ _
    (λ (r : Result ℕ Code × ThreadTable). length r.1.live ≤ MOST_DELAYS)
    (λ room.
    let few = and_parts (nat_lt (length k.threads.live) MOST_THREADS) _ room in
    let below = ltb-true (length k.threads.live) MOST_THREADS few.0 in
    let made = threads.dormant_thread k.threads.next param stack gp in
    omega (arith, below, length-added k.threads.live made))
    (λ full. h.delays.room))
    ((moves k h).creates param stack gp).waits ((keeps k h).creates param stack gp)

-- what a thread waited for that was ended
told_by : (s : ThreadTable) (wait : Option Wait) (o : Option Thread)
    → (threads.terminates_it s o).0 ≡ Ok wait → option_and_then (λ t. wait_in t.state) o ≡ wait
told_by s wait None did = cc
told_by s wait (Some t) did =
    let told : (threads.terminates_it s (Some t)).0 ≡ Ok wait → wait_in t.state ≡ wait =
    cond_both (is_dormant t.state) _ _
    (λ (r : Result (Option Wait) Code × ThreadTable). r.0 ≡ Ok wait → wait_in t.state ≡ wait)
    (λ dormant did. cc) (λ other did. cc) in
    told did

-- a thread was ended, and leaves the object of its wait
pub terminated_placed : (k : Kernel) → IsPlaced k → (id : ℕ) (wait : Option Wait)
    (left : ThreadTable) → threads.terminates k.threads id ≡ (Ok wait, left)
    → IsPlaced (leaves_object (record k { threads = left }) id wait)
terminated_placed k h id wait left is =
    let moved = (moves k h).terminates id in
    second (λ left. IsPlaced (leaves_object (record k { threads = left }) id wait)) is
    (placed_leaves k _ h ((places k h).terminates id) id moved.waits moved.live
    ((keeps k h).terminates id) wait
    (told_by k.threads wait (thread_of k.threads.live id)
    (ap (λ (r : Result (Option Wait) Code × ThreadTable). r.0) is)))

-- the priority of a thread changed, and it is queued with the new one
pub changed_placed : (k : Kernel) → IsPlaced k → (id priority : ℕ) (wait : Option Wait)
    (left : ThreadTable) → threads.changes k.threads id priority ≡ (Ok wait, left)
    → IsPlaced (requeues_at (record k { threads = left }) id priority wait)
changed_placed k h id priority wait left is =
    let placed = (places k h).changes id priority in
    let moved = (moves k h).changes id priority in
    second (λ left. IsPlaced (requeues_at (record k { threads = left }) id priority wait)) is
    (placed_changes k h _ placed (same_live k h placed moved.live) moved.waits id priority wait
    (changes_priority k.threads h.threads id priority wait
    (ap (λ (r : Result (Option Wait) Code × ThreadTable). r.0) is)))

-- a wakeup ends sleep alone
woken_alike : (wait : Option Wait) (asks : Option Wait → Bool) → asks None ≡ asks (Some Sleep)
    → asks (after_wakeup wait) ≡ asks wait
woken_alike (Some Sleep) asks same = same
woken_alike other asks same = refl

pub woken_up_placed : (k : Kernel) → IsPlaced k → (id : ℕ)
    → IsPlaced (record k { threads = (threads.wakes_up k.threads id).1 })
woken_up_placed k h id =
    let placed = (places k h).wakes_up id in
    let moved = (moves k h).wakes_up id in
    asleep_turns k h (one_turns id placed (same_live k h placed moved.live) refl moved.waits
    (woken_alike (wait_of k.threads id)) ((keeps k h).wakes_up id))

-- an event flag whose waiters have settled
abbrev pub settled_flag : Settled → LiveFlag → LiveFlag
settled_flag s u =
    record u { state = with_pattern u.state s.pattern; waiters = s.waiters }

-- those that are met and those that wait on are all that waited, whatever the pattern
pub times_settled : (t pattern : ℕ) (waiters : List (Queued (Waiter Wanted)))
    → times_in t (settles pattern waiters).waiters
    + times t (threads_met (settles pattern waiters).met) ≡ times_in t waiters
times_settled t pattern [] = refl
times_settled t pattern (x ∷ xs) =
    let after = pattern_after x.item.wants.mode pattern in
    grind (arith, nat_tests, times_settled t after xs, times_settled t pattern xs)

-- what holds of each that waits holds of those that wait on
pub settled_rest : (Each : Queued (Waiter Wanted) → Type 0) (pattern : ℕ)
    (waiters : List (Queued (Waiter Wanted))) → All Each waiters
    → All Each (settles pattern waiters).waiters
settled_rest Each pattern [] all = all
settled_rest Each pattern (x ∷ xs) all =
    let after = settles (pattern_after x.item.wants.mode pattern) xs in
    let rest = settles pattern xs in
    cond_both (is_met pattern x.item) (meets (met_by pattern x.item) after) (stays x rest)
    (λ (s : Settled). All Each s.waiters)
    (λ met. settled_rest Each (pattern_after x.item.wants.mode pattern) xs (All-tail Each x xs all))
    (λ unmet. All-cons Each x rest.waiters (All-head Each x xs all)
    (settled_rest Each pattern xs (All-tail Each x xs all)))

module _ (k : Kernel) (h : IsPlaced k) where
  abbrev Left : Code × Timers → Type 0
  Left r = IsPlaced (record k { timers = r.1 })

  -- an alarm is set
  pub set_placed : (moment handler arg gp : ℕ) → Left (sets_alarm k.timers moment handler arg gp)
  set_placed moment handler arg gp =
      cond_both (list_any (is_alarm_of handler arg) k.timers.alarms) _ _ Left (λ there. h)
      (λ none. cond_both (nat_lt (length k.timers.alarms) MOST_ALARMS) _ _ Left
      (λ room. timers_placed (with_alarm k.timers moment handler arg gp)
      (with_alarm-keeps k.timers moment handler arg gp h.delays.kept none (ltb-true _ _ room))
      refl h)
      (λ full. h))

  -- one is cancelled
  pub cancelled_placed : (handler arg : ℕ) → Left (cancels k.timers handler arg)
  cancelled_placed handler arg =
      cond_both (list_any (is_alarm_of handler arg) k.timers.alarms) _ _ Left
      (λ there. timers_placed (without_alarm k.timers handler arg)
      (without_alarms-keeps k.timers _ h.delays.kept) refl h)
      (λ none. h)
