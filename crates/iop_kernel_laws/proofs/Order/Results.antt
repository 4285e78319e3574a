-- What a handler's result does to the line or the alarm that it is for.
use Rattle.std.proofs.Common.{◌≡◌, ◌≢◌, ℕ, ◌==◌, true, false, Option, None, is_some, List, length, All, refl, sym, ap, subst, ◌∙◌, arith}
use Rattle.std.proofs.Math.ListN.{length-set, get_or-eq_default}
use Rattle.std.proofs.lemmas.Bool.{cases_lt, cond_both, ne_eqb}
use Rattle.std.proofs.lemmas.Bool.Decides.{nat_tests}
use Rattle.std.proofs.lemmas.List.{get_or-set_same, get_or-set_other}
use Rattle.std.proofs.lemmas.List.Elements.{All-weaker}
use mathlib.Core.Logic.{inl, inr}
use Rattle.iop_exec.specs.Row.{reg}
use Rattle.iop_intr.specs.InterruptLines.{idle, line_of, finished, finishing}
use Rattle.iop_intr.specs.declared.irq_line.IrqLine.{IrqLine}
use Rattle.iop_time.specs.Timers.{Timers, AreTimers, removes, sets_again}
use Rattle.iop_time.specs.declared.alarm.Alarm.{Alarm as TimerAlarm}
use Rattle.iop_time.proofs.Leaving.{each_call_leaves}
use Rattle.iop_time.proofs.Results.{NoneHas, again_stays, removes_stays}
use Rattle.iop_kernel_laws.specs.HandlerLaws.{LineIsGiven, AlarmIsGiven, ResultIsGiven, ResultsAreGiven}
use Rattle.iop_kernel.specs.Handlers.{alarm_gives, gives_result, returns_handler}
use Rattle.iop_kernel.specs.Placing.{IsPlaced}
use Rattle.iop_kernel.specs.System.{Kernel}
use Rattle.iop_kernel.specs.declared.active_handler.ActiveHandler.{ActiveHandler}
use Rattle.iop_kernel.specs.declared.active_handler.Cause.{Cause}
use Rattle.iop_kernel.specs.declared.active_handler.Cause.TheVariants.{Line, Alarm}

module _ (lines : List IrqLine) (n value : ℕ) where
  -- the line
  abbrev was : IrqLine
  was = line_of lines n

  -- whatever the result, it stays raised or not, and keeps its handler
  keeps : ((finished value was).raised ≡ was.raised) × ((finished value was).handler ≡ was.handler)
  keeps =
      cond_both (value == 0) _ _ Kept (λ zero. (refl, refl))
      (λ another. cond_both (is_some was.handler) _ _ Kept (λ some. (refl, refl))
      (λ none. (refl, refl)))
    where
      Kept : IrqLine → Type 0
      Kept l = (l.raised ≡ was.raised) × (l.handler ≡ was.handler)

  -- it is what the result makes of it; where there is no such line, it is idle before and after
  here : line_of (finishing lines n value) n ≡ finished value was
  here =
      elim (cases_lt n (length lines)) [
        | inl within ↦ get_or-set_same lines n (finished value was) idle within
        | inr past ↦
            get_or-eq_default (finishing lines n value) idle
            (omega (arith, length-set lines n (finished value was)))
            ∙ sym (ap (finished value) (get_or-eq_default lines idle past) ∙ idle_stays)
      ]
    where
      idle_stays : finished value idle ≡ idle
      idle_stays = cond_both (value == 0) _ _ (λ l. l ≡ idle) (λ zero. refl) (λ another. refl)

  -- a result is given to a line
  line_given : LineIsGiven n value lines (finishing lines n value)
  line_given = record {
    zero = λ none. ap (λ (l : IrqLine). l.enabled) here ∙ rw none refl;
    another = λ other some.
        ap (λ (l : IrqLine). l.enabled) here ∙ rw (ne_eqb value 0 other, some) refl;
    no_handler = λ other none.
        ap (λ (l : IrqLine). l.enabled) here ∙ rw (ne_eqb value 0 other, none) refl;
    raised = ap (λ (l : IrqLine). l.raised) here ∙ keeps.0;
    handler = ap (λ (l : IrqLine). l.handler) here ∙ keeps.1;
    others = λ k other. get_or-set_other lines n k (finished value was) idle other;
  }

-- an alarm that was cancelled is none of those that stand
none_has : (number : ℕ) (alarms : List TimerAlarm) → All (λ alarm. alarm.number ≢ number) alarms
    → NoneHas number alarms
none_has number =
    All-weaker (λ (alarm : TimerAlarm). alarm.number ≢ number)
    (λ (alarm : TimerAlarm). (alarm.number == number) ≡ false)
    (λ alarm other. ne_eqb alarm.number number other)

-- or to an alarm
alarm_given : (timers : Timers) → AreTimers timers → (number value : ℕ)
    → AlarmIsGiven number value timers (alarm_gives timers number value)
alarm_given timers sound number value =
    let leaves = each_call_leaves timers sound in
    cond_both (value == 0) (removes timers number) (sets_again timers number value)
    (AlarmIsGiven number value timers)
    (λ zero. record {
      zero = λ none. leaves.removes number;
      another = λ other. absurd (other (grind (arith, nat_tests, zero)));
      cancelled = λ none. removes_stays timers number (none_has number timers.alarms none);
    })
    (λ some. record {
      zero = λ none. absurd (grind (arith, nat_tests, some, none));
      another = λ other. leaves.sets_again number value;
      cancelled = λ none. again_stays timers number value (none_has number timers.alarms none);
    })

-- by what the handler was begun for
given_to : (k : Kernel) → IsPlaced k → (cause : Cause) (value : ℕ) → ResultIsGiven cause value k
    (record (gives_result k cause value) { interrupts = true; handler = None })
given_to k placed (Line line) value = (line_given k.irqs line value, refl)
given_to k placed (Alarm number) value =
    (alarm_given k.timers placed.delays.kept number value, refl)

-- each result is given so
pub results_are_given : ResultsAreGiven
results_are_given c handler placed is =
    subst (λ (o : Option ActiveHandler).
    ResultIsGiven handler.cause (reg c.cpu 2) c.kernel (returns_handler c o).state.kernel) (sym is)
    (given_to c.kernel placed handler.cause (reg c.cpu 2))
