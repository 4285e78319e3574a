-- Each table comes back from what is saved of it, before what it gives out next.
use Rattle.std.proofs.Common.{◌≡◌, ◌<◌, ◌^◌, Bool, true, false, cond, Option, Some, None, List, refl, ap, ◌∙◌}
use Rattle.std.specs.Prelude.{option_and_then, nat_le}
use Rattle.std.proofs.lemmas.Option.{same_Some}
use Rattle.iop_objects.specs.Objects.{Objects, no_objects}
use Rattle.iop_objects.specs.Restoring as objects
use Rattle.iop_saved_objects.specs.Laws.{ComesBack}
use Rattle.iop_saved_tables.specs.Tables.{put_delay}
use Rattle.iop_snapshot.proofs.Putting.{puts_each}
use Rattle.iop_snapshot.specs.Putting.{put_all}
use Rattle.iop_thread.proofs.RestoringThreads.{restored_in_order}
use Rattle.iop_thread.specs.Ordering.{in_order}
use Rattle.iop_thread.specs.Placing.{IsPlaced}
use Rattle.iop_thread.specs.Restoring as threads
use Rattle.iop_thread.specs.ThreadTable.{ThreadTable}
use Rattle.iop_time.proofs.PuttingBack.{timers_come_back}
use Rattle.iop_time.specs.Restoring.{alarm_may_follow, delay_may_follow, with_last_alarm, with_last_delay, alarms_put_back, delays_put_back}
use Rattle.iop_time.specs.Timers.{Timers, AreTimers, no_timers}
use Rattle.iop_time.specs.declared.alarm.Alarm.{Alarm}
use Rattle.iop_time.specs.declared.delay.Delay.{Delay}
use Rattle.iop_saved_kernel.specs.ThreadLists.{thread_lists, threads_back, ready_back}
use Rattle.iop_saved_kernel.specs.TimerLists.{timer_lists, timers_back}

-- a table that was put back, behind which what is given out next is
pub record IsBefore {T : Type 0} (found : Option T) (may : T → Bool) (left : T → T) (last : T)
    : Type 0 where
  pub table : T
  pub is_found : found ≡ Some table
  pub may_be : may table ≡ true
  pub leaves : left table ≡ last

before : {T : Type 0} (found : Option T) (may : T → Bool) (left : T → T) (last : T)
    → option_and_then (λ t. cond (may t) (Some (left t)) None) found ≡ Some last
    → IsBefore found may left last
before {T} None may left last e = absurd cc
before {T} (Some t) may left last e = by (may t) refl e
  where
    by : (b : Bool) → may t ≡ b → cond b (Some (left t)) None ≡ Some last
        → IsBefore (Some t) may left last
    by true is e =
        record { table = t; is_found = refl; may_be = is; leaves = same_Some (left t) last e }
    by false is e = absurd cc

-- what goes on in two ways that are the same
same_then : {A B : Type 0} (o : Option A) (f g : A → Option B) → ((x : A) → f x ≡ g x)
    → option_and_then f o ≡ option_and_then g o
same_then None f g same = refl
same_then (Some x) f g same = same x

-- one after the other is both together
then_both : {A B C : Type 0} (o : Option A) (f : A → Option B) (g : B → Option C)
    → option_and_then (λ x. option_and_then g (f x)) o
    ≡ option_and_then g (option_and_then f o)
then_both None f g = refl
then_both (Some x) f g = refl

module _ (s : ThreadTable) where
  pub threads_same : threads_back s.running (thread_lists s)
      ≡ option_and_then (λ t. threads.with_running_back t s.running)
      (option_and_then (λ t. threads.with_ready_back t (in_order s).ready)
      (threads.with_threads_back threads.no_threads s.live))
  unfolding threads_back
  threads_same =
      ap (option_and_then (λ t. ready_back s.running t (in_order s).ready))
      (puts_each threads.may_follow threads.with_last threads.with_threads_back (λ t. refl)
      (λ t x xs. refl) threads.no_threads s.live)
      ∙ same_then (threads.with_threads_back threads.no_threads s.live)
      (λ t. ready_back s.running t (in_order s).ready)
      (λ t. option_and_then (λ u. threads.with_running_back u s.running)
      (threads.with_ready_back t (in_order s).ready))
      (λ t. ap (option_and_then (λ u. threads.with_running_back u s.running))
      (puts_each threads.may_be_listed threads.with_last_ready threads.with_ready_back
      (λ u. refl) (λ u x xs. refl) t (in_order s).ready))
      ∙ then_both (threads.with_threads_back threads.no_threads s.live)
      (λ t. threads.with_ready_back t (in_order s).ready)
      (λ u. threads.with_running_back u s.running)

  pub threads_before : IsPlaced s → IsBefore (threads_back s.running (thread_lists s))
      (λ t. threads.may_be_next t s.next) (λ t. threads.with_next t s.next) (in_order s)
  threads_before placed =
      before (threads_back s.running (thread_lists s)) (λ t. threads.may_be_next t s.next)
      (λ t. threads.with_next t s.next) (in_order s)
      (ap (option_and_then (λ t. threads.with_next_back t s.next)) threads_same
      ∙ restored_in_order s placed)

pub objects_before : {A W X : Type 0} (put : Objects A W → X → Option (Objects A W))
    (saved : Objects A W → List X) (s : Objects A W) → ComesBack put saved s
    → IsBefore (put_all put no_objects (saved s)) (λ t. objects.may_be_next t s.next)
    (λ t. objects.with_next t s.next) s
objects_before put saved s back =
    before (put_all put no_objects (saved s)) (λ t. objects.may_be_next t s.next)
    (λ t. objects.with_next t s.next) s back

module _ (s : Timers) where
  timers_same : timers_back (timer_lists s)
      ≡ option_and_then (λ t. delays_put_back t s.delays) (alarms_put_back no_timers s.alarms)
  unfolding timers_back
  timers_same =
      ap (option_and_then (λ t. put_all put_delay t s.delays))
      (puts_each (λ (t : Timers) (a : Alarm). alarm_may_follow t.alarms t.delays a)
      with_last_alarm alarms_put_back (λ t. refl) (λ t x xs. refl) no_timers s.alarms)
      ∙ same_then (alarms_put_back no_timers s.alarms) (λ t. put_all put_delay t s.delays)
      (λ t. delays_put_back t s.delays)
      (λ t. puts_each (λ (u : Timers) (d : Delay). delay_may_follow u.alarms u.delays d)
      with_last_delay delays_put_back (λ u. refl) (λ u x xs. refl) t s.delays)

  pub timers_before : AreTimers s → s.next < 2 ^ 64 → IsBefore (timers_back (timer_lists s))
      (λ t. nat_le t.next s.next) (λ t. record t { next = s.next }) s
  timers_before sound few =
      before (timers_back (timer_lists s)) (λ t. nat_le t.next s.next)
      (λ t. record t { next = s.next }) s
      (ap (option_and_then (λ (t : Timers).
      cond (nat_le t.next s.next) (Some (record t { next = s.next })) None)) timers_same
      ∙ timers_come_back s sound few)
