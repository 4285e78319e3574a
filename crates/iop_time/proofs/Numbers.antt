-- Each call keeps what holds of a clock, and gives no number twice.
use Rattle.std.proofs.Common.{◌≡◌, ℕ, ◌<◌, ◌⊎◌, inl, inr, ◌==◌, nat_lt, Bool, true, false, cond, not, Option, Some, None, List, [], ◌∷◌, ◌++◌, map, filter, length, suc, zero, refl, ◌∙◌, sym, subst, arith}
use Rattle.std.specs.List.{list_any, Any}
use Rattle.std.proofs.lemmas.Bool.{ltb-true}
use Rattle.iop_time.specs.ClockTime.{moment_after}
use Rattle.iop_time.specs.Timers.{Timers, AreTimers, no_timers, is_alarm_of, is_delay_of, with_alarm, sets_alarm, cancels, delays, sets_again, later}
use Rattle.iop_time.specs.Taking.{without_due, takes_due}
use Rattle.iop_time.specs.Laws.{IsChange, AreChanges, NumbersRise}
use Rattle.iop_time.specs.declared.alarm.Alarm.{Alarm}
use Rattle.iop_time.specs.declared.delay.Delay.{Delay}
use Rattle.iop_time.specs.declared.due.Due.{Due}
use Rattle.iop_time.specs.declared.due.Due.TheVariants as due_variants
use Rattle.iop_time.specs.declared.clock.TheConstants.{MOST_ALARMS, MOST_DELAYS}
use Rattle.iop_time.proofs.Keeping.{with_alarm-keeps, with_delay-keeps, without_alarms-keeps, without_delays-keeps, sets_again-keeps}

module _ {X : Type 0} (P : X → Type 0) where
  one_of : (x : X) (xs : List X) → Any P (x ∷ xs) → P x ⊎ Any P xs
  one_of x xs (zero, y, below, at, h) = inl (subst P (sym at) h)
  one_of x xs (suc k, y, below, at, h) = inr (k, y, omega arith, at, h)

  at_first : (x : X) (xs : List X) → P x → Any P (x ∷ xs)
  at_first x xs h = (zero, x, omega arith, refl, h)

  behind : (x : X) (xs : List X) → Any P xs → Any P (x ∷ xs)
  behind x xs (k, y, below, at, h) = (suc k, y, omega arith, at, h)

  -- what stands in a part of a list stands in it
  Any-filter : (p : X → Bool) (xs : List X) → Any P (filter p xs) → Any P xs
  Any-filter p [] any = any
  Any-filter p (x ∷ xs) any = by (p x) (Any-filter p xs) any
    where
      by : (b : Bool) → (Any P (filter p xs) → Any P xs)
          → Any P (cond b (x ∷ filter p xs) (filter p xs)) → Any P (x ∷ xs)
      by true rest any =
          elim (one_of x (filter p xs) any) [
            | inl here ↦ at_first x xs here
            | inr there ↦ behind x xs (rest there)
          ]
      by false rest any = behind x xs (rest any)

  -- what stands in a list with one more stood in it, or is the one
  Any-push_cases : (xs : List X) (y : X) → Any P (xs ++ y ∷ []) → Any P xs ⊎ P y
  Any-push_cases [] y any =
      elim (one_of y [] any) [ inl here ↦ inr here | inr there ↦ inl there ]
  Any-push_cases (x ∷ xs) y any =
      elim (one_of x (xs ++ y ∷ []) any) [
        | inl here ↦ inl (at_first x xs here)
        | inr there ↦ elim (Any-push_cases xs y there) [
          | inl old ↦ inl (behind x xs old)
          | inr new ↦ inr new
        ]
      ]

  -- what stands in a list whose elements were changed stood in it before
  Any-map_back : (f : X → X) → ((x : X) → P (f x) → P x) → (xs : List X) → Any P (map f xs)
      → Any P xs
  Any-map_back f back [] any = any
  Any-map_back f back (x ∷ xs) any =
      elim (one_of (f x) (map f xs) any) [
        | inl here ↦ at_first x xs (back x here)
        | inr there ↦ behind x xs (Any-map_back f back xs there)
      ]

number_later : (number ticks : ℕ) (alarm : Alarm) → (later number ticks alarm).number ≡ alarm.number
number_later number ticks alarm = by (alarm.number == number)
  where
    by : (b : Bool)
        → (cond b (record alarm { moment = moment_after alarm.moment ticks }) alarm).number
        ≡ alarm.number
    by true = refl
    by false = refl

abbrev HasAlarm : ℕ → Alarm → Type 0
HasAlarm number alarm = alarm.number ≡ number

abbrev HasDelay : ℕ → Delay → Type 0
HasDelay number delay = delay.number ≡ number

module _ (timers : Timers) (h : AreTimers timers) where
  unchanged : IsChange timers timers
  unchanged = record { sound = h; rises = omega arith; given = λ n has. inl has }

  alarms_without : (p : Alarm → Bool)
      → IsChange timers (record timers { alarms = filter p timers.alarms })
  alarms_without p = record {
    sound = without_alarms-keeps timers p h;
    rises = omega arith;
    given = λ n has. elim has [
      | inl alarm ↦ inl (inl (Any-filter (HasAlarm n) p timers.alarms alarm))
      | inr delay ↦ inl (inr delay)
    ];
  }

  delays_without : (p : Delay → Bool)
      → IsChange timers (record timers { delays = filter p timers.delays })
  delays_without p = record {
    sound = without_delays-keeps timers p h;
    rises = omega arith;
    given = λ n has. elim has [
      | inl alarm ↦ inl (inl alarm)
      | inr delay ↦ inl (inr (Any-filter (HasDelay n) p timers.delays delay))
    ];
  }

  one_alarm : (moment handler arg gp : ℕ) → list_any (is_alarm_of handler arg) timers.alarms ≡ false
      → length timers.alarms < MOST_ALARMS
      → IsChange timers (with_alarm timers moment handler arg gp)
  one_alarm moment handler arg gp none room = record {
    sound = with_alarm-keeps timers moment handler arg gp h none room;
    rises = omega arith;
    given = λ n has. elim has [
      | inl alarm ↦ elim (Any-push_cases (HasAlarm n) timers.alarms _ alarm) [
        | inl old ↦ inl (inl old)
        | inr new ↦ inr (omega arith, omega arith)
      ]
      | inr delay ↦ inl (inr delay)
    ];
  }

  one_delay : (moment thread : ℕ) → list_any (is_delay_of thread) timers.delays ≡ false
      → length timers.delays < MOST_DELAYS → IsChange timers (delays timers moment thread)
  one_delay moment thread none room = record {
    sound = with_delay-keeps timers moment thread h none room;
    rises = omega arith;
    given = λ n has. elim has [
      | inl alarm ↦ inl (inl alarm)
      | inr delay ↦ elim (Any-push_cases (HasDelay n) timers.delays _ delay) [
        | inl old ↦ inl (inr old)
        | inr new ↦ inr (omega arith, omega arith)
      ]
    ];
  }

  again : (number ticks : ℕ) → IsChange timers (sets_again timers number ticks)
  again number ticks = record {
    sound = sets_again-keeps timers number ticks h;
    rises = omega arith;
    given = λ n has. elim has [
      | inl alarm ↦ inl (inl (Any-map_back (HasAlarm n) (later number ticks)
          (λ x e. sym (number_later number ticks x) ∙ e) timers.alarms alarm))
      | inr delay ↦ inl (inr delay)
    ];
  }

  setting : (moment handler arg gp : ℕ) (b c : Bool)
      → list_any (is_alarm_of handler arg) timers.alarms ≡ b
      → nat_lt (length timers.alarms) MOST_ALARMS ≡ c
      → IsChange timers (sets_alarm timers moment handler arg gp).1
  setting moment handler arg gp true c stands room = rw stands unchanged
  setting moment handler arg gp false true none room =
      rw (none, room) (one_alarm moment handler arg gp none (ltb-true _ _ room))
  setting moment handler arg gp false false none full = rw (none, full) unchanged

  cancelling : (handler arg : ℕ) (b : Bool) → list_any (is_alarm_of handler arg) timers.alarms ≡ b
      → IsChange timers (cancels timers handler arg).1
  cancelling handler arg true stands =
      rw stands (alarms_without (λ alarm. not (is_alarm_of handler arg alarm)))
  cancelling handler arg false none = rw none unchanged

  taking : (taken : Option Due) → IsChange timers (without_due timers taken)
  taking None = unchanged
  taking (Some (due_variants.Alarm alarm)) = unchanged
  taking (Some (due_variants.Delay delay)) =
      delays_without (λ other. not (is_delay_of delay.thread other))

  calls : AreChanges timers
  calls = record {
    sets_alarm = λ moment handler arg gp. setting moment handler arg gp _ _ refl refl;
    cancels = λ handler arg. cancelling handler arg _ refl;
    delays = one_delay;
    drops_delay = λ thread. delays_without (λ delay. not (is_delay_of thread delay));
    takes_due = λ t. taking (takes_due timers t).0;
    sets_again = again;
    removes = λ number. alarms_without (λ alarm. not (alarm.number == number));
  }

opening : AreTimers no_timers
opening = record {
  next = omega arith;
  few_alarms = omega arith;
  few_delays = omega arith;
  alarms = λ k d below. absurd (omega arith);
  delays = λ k d below. absurd (omega arith);
  alarms_differ = λ i j d before below. absurd (omega arith);
  delays_differ = λ i j d before below. absurd (omega arith);
  apart = λ k d below. absurd (omega arith);
}

one_after_other : (a b c : Timers) → IsChange a b → IsChange b c → IsChange a c
one_after_other a b c first second = record {
  sound = second.sound;
  rises = omega arith;
  given = λ n has. elim (second.given n has) [
    | inl had ↦ elim (first.given n had) [
      | inl old ↦ inl old
      | inr new ↦ inr (new.0, omega arith)
    ]
    | inr new ↦ inr (omega arith, new.1)
  ];
}

pub numbers_rise : NumbersRise
numbers_rise = record { opening = opening; calls = calls; compose = one_after_other }
