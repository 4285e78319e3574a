-- A kernel stays as it can be put back over all that a machine does beside its services.
use Rattle.std.proofs.Common.{◌≡◌, ℕ, ◌<◌, ◌==◌, ◌&&◌, ◌||◌, not, Bool, true, false, if◌then◌else◌, is_some, Option, Some, None, option_map, option_and_then, List, [], ◌∷◌, find, All, refl, ap, sym, subst, arith}
use Rattle.std.specs.Option.{option_or}
use Rattle.std.proofs.lemmas.Bool.Decides.{nat_tests}
use Rattle.std.proofs.lemmas.List.Elements.{All-head, All-tail}
use Rattle.std.proofs.lemmas.List.Quantifiers.{position-Some}
use Rattle.iop_base.specs.declared.code.TheConstants.Code.{OK}
use Rattle.iop_exec.specs.declared.cpu.Cpu.{Cpu}
use Rattle.iop_intr.specs.InterruptLines.{idle, is_deliverable}
use Rattle.iop_intr.specs.declared.handler.Handler.{Handler}
use Rattle.iop_thread.specs.Operations as threads
use Rattle.iop_thread.specs.ThreadTable.{ThreadTable}
use Rattle.iop_thread.proofs.KeptSteadily.{begun_steady}
use Rattle.iop_time.specs.Taking.{timer_of}
use Rattle.iop_time.specs.Timers.{Timers, AreTimers, IsTimer}
use Rattle.iop_time.specs.declared.alarm.Alarm.{Alarm as TimedAlarm}
use Rattle.iop_time.specs.declared.delay.Delay.{Delay as TimedDelay}
use Rattle.iop_time.specs.declared.due.Due.TheVariants as due
use Rattle.iop_kernel.specs.Deliveries.{may_deliver}
use Rattle.iop_kernel.specs.Handlers.{begins_handler}
use Rattle.iop_kernel.specs.System.{Core, code_word}
use Rattle.iop_kernel.specs.declared.active_handler.ActiveHandler.{ActiveHandler}
use Rattle.iop_kernel.specs.declared.active_handler.Cause.{Cause}
use Rattle.iop_kernel.specs.declared.active_handler.Cause.TheVariants.{Line, Alarm}
use Rattle.iop_kernel.proofs.Walk.Steps.{Deliveries, delivers_goes, dispatches_goes}
use Rattle.iop_saved_kernel.specs.Laws.{CanHaveBegun, IsReadableKept}
use Rattle.iop_resumable.specs.Laws.{HasDeliveries, StepsStayRegular}
use Rattle.iop_resumable.specs.Regular.{IsRegular, StandsStill}
use Rattle.iop_resumable.proofs.KeptRegisters.{AreKept, keeps_kept}
use Rattle.iop_resumable.proofs.LiveThreads.{HaveStill, still_have}
use Rattle.iop_resumable.proofs.SomePriorities.{HasPriorities, HavePriorities, stays}
use Rattle.iop_resumable.proofs.Regular.{readable, kept_of, priorities_of}

-- other threads stand there
with_others : (c : Core) (h : IsRegular c) (t : ThreadTable) → AreKept t → HavePriorities t.live
    → IsRegular (record c { kernel = record c.kernel { threads = t } })
with_others c h t kept have = record {
  objects = λ kind. h.objects kind;
  cause = h.cause;
  threads = readable t.live kept have;
  handler = h.handler;
}

-- what holds of all holds of what is found
found_holds : {A : Type 0} (P : A → Type 0) (p : A → Bool) (xs : List A) → All P xs → (x : A)
    → find p xs ≡ Some x → P x
found_holds P p [] all x found = absurd (cc found)
found_holds P p (y ∷ ys) all x found =
    by (p y) found (found_holds P p ys (All-tail P y ys all) x)
  where
    by : (b : Bool) → (if b then Some y else find p ys) ≡ Some x → (find p ys ≡ Some x → P x) → P x
    by true is rest = let same : y ≡ x = cc is in subst P same (All-head P y ys all)
    by false is rest = rest is

-- the number of an alarm that is taken was given
module _ (timers : Timers) (are : AreTimers timers) (alarm : TimedAlarm) where
  of_either : (a : Option TimedAlarm) (b : Option TimedDelay)
      → option_or (option_map due.Alarm a) (option_map due.Delay b) ≡ Some (due.Alarm alarm)
      → a ≡ Some alarm
  of_either (Some a) b is = cc
  of_either None (Some b) is = absurd (cc is)
  of_either None None is = absurd (cc is)

  taken_so : (number : Option ℕ)
      → option_and_then (timer_of timers) number ≡ Some (due.Alarm alarm)
      → CanHaveBegun timers.next (Alarm alarm.number)
  taken_so None is = absurd (cc is)
  taken_so (Some number) is =
      let timer = found_holds (λ (a : TimedAlarm). IsTimer timers.next a.number a.moment)
      (λ a. a.number == number) timers.alarms are.alarms alarm (of_either _ _ is) in
      (timer.0, timer.1)

module _ (c : Core) (h : HasDeliveries c) (may : may_deliver c ≡ true) where
  -- a processor stands in no delay slot where something may be delivered: that of a thread does
  -- not, and that of nobody is zero
  outside : c.cpu.in_slot ≡ false
  outside =
      by c.kernel.handler c.kernel.threads.running c.cpu.in_slot c.kernel.interrupts may
      (λ idle. ap (λ (cpu : Cpu). cpu.in_slot) (h.bare.processor idle))
    where
      by : (handler : Option ActiveHandler) (running : Option ℕ) (in_slot on : Bool)
          → (on && not (is_some handler) && not (is_some running && in_slot)) ≡ true
          → ((is_some handler || is_some running) ≡ false → in_slot ≡ false) → in_slot ≡ false
      by (Some handler) running in_slot on may bare = absurd (grind (arith, nat_tests, may))
      by None None in_slot on may bare = bare refl
      by None (Some id) in_slot on may bare = grind (arith, nat_tests, may)

  own : IsReadableKept c.cpu
  own = record { readable = h.cpu; outside = outside }

  -- a handler begins
  begins : (left : Core) (cause : Cause) (handler : Handler) → IsRegular left
      → left.cpu ≡ c.cpu → CanHaveBegun left.kernel.timers.next cause
      → StandsStill (begins_handler left cause handler)
  begins left cause handler regular same begun = record {
    regular = record {
      objects = λ kind. regular.objects kind;
      cause = begun;
      threads = regular.threads;
      handler = subst IsReadableKept (sym same) own;
    };
    cpu = record {
      readable = record { steady = begun_steady _ _ refl refl; register = tt };
      outside = refl;
    };
  }

  delivers_so : Deliveries (λ d line. StandsStill d) c
  delivers_so = record {
    begins_line = λ line handler found has.
        begins _ (Line line) handler (record {
          objects = λ kind. h.regular.objects kind;
          cause = h.regular.cause;
          threads = h.regular.threads;
          handler = h.regular.handler;
        }) refl (subst (λ n. line < n) h.lines
        (position-Some is_deliverable c.kernel.irqs line idle found).0);
    due = λ none. record {
      begins_alarm = λ alarm taken.
          begins c (Alarm alarm.number) _ h.regular refl
          (taken_so c.kernel.timers h.timers alarm _ taken);
      wakes = λ delay taken. record {
        regular = record {
          objects = λ kind. h.regular.objects kind;
          cause = h.regular.cause;
          threads = readable _
              ((keeps_kept c.kernel.threads
              (kept_of c.kernel.threads.live h.regular.threads)).wakes delay.thread (code_word OK))
              ((still_have HavePriorities HasPriorities stays c.kernel.threads
              (priorities_of c.kernel.threads.live h.regular.threads)).wakes delay.thread
              (code_word OK));
          handler = h.regular.handler;
        };
        cpu = own;
      };
    };
  }

module _ (c : Core) (h : IsRegular c) where
  kept : AreKept c.kernel.threads
  kept = kept_of c.kernel.threads.live h.threads

  still : HaveStill HavePriorities HasPriorities stays c.kernel.threads
  still =
      still_have HavePriorities HasPriorities stays c.kernel.threads
      (priorities_of c.kernel.threads.live h.threads)

  dispatched_so : IsReadableKept c.cpu → (d : threads.Dispatch)
      → threads.dispatches c.kernel.threads c.cpu ≡ Some d
      → StandsStill (record { kernel = record c.kernel { threads = d.threads }; cpu = d.registers })
  dispatched_so own d made =
      let left = (keeps_kept c.kernel.threads kept).dispatches c.cpu d own made in
      record {
        regular = record {
          objects = λ kind. h.objects kind;
          cause = h.cause;
          threads = readable d.threads.live left.0 (still.dispatches c.cpu d made);
          handler = h.handler;
        };
        cpu = left.1;
      }

pub steps_stay_regular : StepsStayRegular
steps_stay_regular = record {
  delivers = λ c d h made.
      delivers_goes (λ d line. StandsStill d) c (λ may. delivers_so c h may) d made;
  dispatches = λ c d h made.
      dispatches_goes (λ d line. StandsStill d) c
      (λ may did is. dispatched_so c h.regular h.cpu did is) d made;
  begins = λ c registers h given.
      with_others c h _ ((keeps_kept c.kernel.threads (kept c h)).begins registers given)
      ((still c h).begins registers);
  ends_running = λ c h.
      with_others c h _ (keeps_kept c.kernel.threads (kept c h)).ends_running
      (still c h).ends_running;
  moves_on = λ c moment cpu h. record {
    objects = λ kind. h.objects kind;
    cause = h.cause;
    threads = h.threads;
    handler = h.handler;
  };
  raises = λ c irqs h. record {
    objects = λ kind. h.objects kind;
    cause = h.cause;
    threads = h.threads;
    handler = h.handler;
  };
}
