-- What the laws of the clock say.
use Rattle.std.specs.Prelude.{◌≡◌, ◌≢◌, ℕ, ◌+◌, ◌<◌, ◌≤◌, ◌⊎◌, ◌↔◌, min, false, List, length, All, Any, Contains, MatchOption}
use Rattle.std.specs.List.{list_any}
use Rattle.iop_base.specs.declared.code.TheConstants.Code.{OK}
use Rattle.iop_time.specs.ClockTime.{ticks_of, micros_of}
use Rattle.iop_time.specs.Timers.{Timers, AreTimers, no_timers, is_delay_of, sets_alarm, cancels, delays, drops_delay, sets_again, removes}
use Rattle.iop_time.specs.Turns.{due, next_moment}
use Rattle.iop_time.specs.Taking.{takes_due}
use Rattle.iop_time.specs.declared.alarm.Alarm.{Alarm}
use Rattle.iop_time.specs.declared.delay.Delay.{Delay}
use Rattle.iop_time.specs.declared.due.Due.{Due}
use Rattle.iop_time.specs.declared.due.Due.TheVariants as due_variants
use Rattle.iop_time.specs.declared.clock.TheConstants.{MOST_DELAYS}
use Rattle.iop_time.specs.declared.ticks.TheConstants.{NEVER}

-- there and back again, microseconds lose at most one of them, and ticks at most 37, of which a
-- microsecond has less
pub record TimesAgree : Type 0 where
  pub micros : (us : ℕ) → let back = micros_of (ticks_of us) in (back ≤ us) × (us ≤ back + 1)
  pub ticks : (ticks : ℕ)
      → let back = ticks_of (micros_of ticks) in (back ≤ ticks) × (ticks ≤ back + 37)

-- an alarm or a delay of this moment and this number stands
abbrev pub Stands : Timers → (moment number : ℕ) → Type 0
Stands timers moment number =
    Any (λ alarm. (alarm.moment ≡ moment) × (alarm.number ≡ number)) timers.alarms
    ⊎ Any (λ delay. (delay.moment ≡ moment) × (delay.number ≡ number)) timers.delays

-- one stands and comes by moment t
abbrev pub HasCome : Timers → (t moment number : ℕ) → Type 0
HasCome timers t moment number = Stands timers moment number × (moment ≤ t) × (moment < NEVER)

abbrev pub NoneHasCome : Timers → (t : ℕ) → Type 0
NoneHasCome timers t = (moment number : ℕ) → HasCome timers t moment number → ⊥

-- it has come by moment t, none that has come has an earlier moment, and none of the same moment a
-- smaller number
pub record IsNext (timers : Timers) (t moment number : ℕ) : Type 0 where
  pub come : HasCome timers t moment number
  pub first : (m n : ℕ) → HasCome timers t m n → (moment < m) ⊎ ((moment ≡ m) × (number ≤ n))

abbrev pub DueIsNext : Type 0
DueIsNext =
    (timers : Timers) (t : ℕ)
    → MatchOption (due timers t) (NoneHasCome timers t)
    (λ number. (moment : ℕ) × IsNext timers t moment number)

abbrev pub number_of : Due → ℕ
number_of (due_variants.Alarm alarm) = alarm.number
number_of (due_variants.Delay delay) = delay.number

abbrev pub moment_of : Due → ℕ
moment_of (due_variants.Alarm alarm) = alarm.moment
moment_of (due_variants.Delay delay) = delay.moment

-- what is taken is what comes next
abbrev pub TakenIsNext : Type 0
TakenIsNext =
    (timers : Timers) (t : ℕ) → AreTimers timers
    → MatchOption (takes_due timers t).0 (NoneHasCome timers t)
    (λ taken. IsNext timers t (moment_of taken) (number_of taken))

-- something comes at this moment, and nothing earlier
pub record IsNextMoment (timers : Timers) (moment : ℕ) : Type 0 where
  pub number : ℕ
  pub stands : Stands timers moment number
  pub comes : moment < NEVER
  pub least : (m n : ℕ) → Stands timers m n → moment ≤ m

abbrev pub NextMomentIsLeast : Type 0
NextMomentIsLeast =
    (timers : Timers)
    → MatchOption (next_moment timers) ((m n : ℕ) → Stands timers m n → NEVER ≤ m)
    (IsNextMoment timers)

-- where each delay is of one of some threads, and another of these has none, fewer delays stand than
-- there are threads
abbrev pub DelaysLeaveRoom : Type 0
DelaysLeaveRoom =
    (timers : Timers) (threads : List ℕ) (thread : ℕ) → AreTimers timers
    → All (λ delay. Contains threads delay.thread) timers.delays → Contains threads thread
    → list_any (is_delay_of thread) timers.delays ≡ false
    → length timers.delays < length threads

abbrev pub HasNumber : Timers → ℕ → Type 0
HasNumber timers number =
    Any (λ alarm. alarm.number ≡ number) timers.alarms
    ⊎ Any (λ delay. delay.number ≡ number) timers.delays

-- what holds of every clock holds after a change. Numbers rise: the next one does not fall, and
-- what has a number afterwards had it before, or was given it by the change
pub record IsChange (old new : Timers) : Type 0 where
  pub sound : AreTimers new
  pub rises : old.next ≤ new.next
  pub given : (number : ℕ) → HasNumber new number
      → HasNumber old number ⊎ ((old.next ≤ number) × (number < new.next))

-- each call is such a change
pub record AreChanges (timers : Timers) : Type 0 where
  pub sets_alarm : (moment handler arg gp : ℕ)
      → IsChange timers (sets_alarm timers moment handler arg gp).1
  pub cancels : (handler arg : ℕ) → IsChange timers (cancels timers handler arg).1
  pub delays : (moment thread : ℕ) → list_any (is_delay_of thread) timers.delays ≡ false
      → length timers.delays < MOST_DELAYS → IsChange timers (delays timers moment thread)
  pub drops_delay : (thread : ℕ) → IsChange timers (drops_delay timers thread)
  pub takes_due : (t : ℕ) → IsChange timers (takes_due timers t).1
  pub sets_again : (number ticks : ℕ) → IsChange timers (sets_again timers number ticks)
  pub removes : (number : ℕ) → IsChange timers (removes timers number)

-- the first clock is sound, each call is a change, and changes one after the other are one
pub record NumbersRise : Type 0 where
  pub opening : AreTimers no_timers
  pub calls : (timers : Timers) → AreTimers timers → AreChanges timers
  pub compose : (a b c : Timers) → IsChange a b → IsChange b c → IsChange a c

-- an alarm is cancelled, and then perhaps one of the same handler and argument is set: what the
-- handler of the first gave changes nothing
abbrev pub ResultsGoToTheirAlarm : Type 0
ResultsGoToTheirAlarm =
    (timers : Timers) (alarm : Alarm) (moment gp ticks : ℕ)
    → AreTimers timers → Contains timers.alarms alarm
    → let cancelled = (cancels timers alarm.handler alarm.arg).1 in
    let again = (sets_alarm cancelled moment alarm.handler alarm.arg gp).1 in
    (sets_again cancelled alarm.number ticks ≡ cancelled)
    × (sets_again again alarm.number ticks ≡ again)
    × (removes again alarm.number ≡ again)

-- a list has what another had, but what is so
abbrev pub IsWithout : {X : Type 0} → (old new : List X) → (X → Type 0) → Type 0
IsWithout {X} old new IsGone = (x : X) → Contains new x ↔ (Contains old x × (IsGone x → ⊥))

-- a list has what another had, and this
abbrev pub HasOneMore : {X : Type 0} → (old new : List X) → X → Type 0
HasOneMore {X} old new one = (x : X) → Contains new x ↔ (Contains old x ⊎ (x ≡ one))

-- nothing but the alarms changes, or nothing but the delays
abbrev pub AlarmsChange : (old new : Timers) → Type 0
AlarmsChange old new = (new.next ≡ old.next) × (new.delays ≡ old.delays)

abbrev pub DelaysChange : (old new : Timers) → Type 0
DelaysChange old new = (new.next ≡ old.next) × (new.alarms ≡ old.alarms)

-- what is taken stood. An alarm stands on, a delay is gone
abbrev pub IsTaken : (old new : Timers) → Due → Type 0
IsTaken old new (due_variants.Alarm alarm) = Contains old.alarms alarm × (new ≡ old)
IsTaken old new (due_variants.Delay delay) =
    Contains old.delays delay × DelaysChange old new
    × IsWithout old.delays new.delays (λ other. other ≡ delay)

abbrev pub alarm_with : (number moment handler arg gp : ℕ) → Alarm
alarm_with number moment handler arg gp = record {
  number = number;
  moment = min moment NEVER;
  handler = handler;
  arg = arg;
  gp = gp;
}

abbrev pub delay_with : (number moment thread : ℕ) → Delay
delay_with number moment thread =
    record { number = number; moment = min moment NEVER; thread = thread }

-- the next number is used up for one more alarm
pub record IsSet (old new : Timers) (alarm : Alarm) : Type 0 where
  pub next : new.next ≡ old.next + 1
  pub delays : new.delays ≡ old.delays
  pub alarms : HasOneMore old.alarms new.alarms alarm

-- the next number is used up for one more delay
pub record IsDelayed (old new : Timers) (delay : Delay) : Type 0 where
  pub next : new.next ≡ old.next + 1
  pub alarms : new.alarms ≡ old.alarms
  pub delays : HasOneMore old.delays new.delays delay

-- the alarm of a number comes so many ticks later, or never, and all others are as they were
pub record IsSetAgain (old new : Timers) (number ticks : ℕ) : Type 0 where
  pub alone : AlarmsChange old new
  pub again : (alarm : Alarm) → Contains old.alarms alarm → alarm.number ≡ number
      → Contains new.alarms
      (alarm_with number (alarm.moment + ticks) alarm.handler alarm.arg alarm.gp)
  pub others : (alarm : Alarm) → alarm.number ≢ number
      → Contains new.alarms alarm ↔ Contains old.alarms alarm

-- the alarms that are so are gone
pub record AlarmsAreGone (old new : Timers) (IsGone : Alarm → Type 0) : Type 0 where
  pub alone : AlarmsChange old new
  pub alarms : IsWithout old.alarms new.alarms IsGone

-- what each call leaves
pub record CallsLeave (timers : Timers) : Type 0 where
  pub takes_due : (t : ℕ)
      → MatchOption (takes_due timers t).0 ((takes_due timers t).1 ≡ timers)
      (IsTaken timers (takes_due timers t).1)
  pub sets_alarm : (moment handler arg gp : ℕ) → (sets_alarm timers moment handler arg gp).0 ≡ OK
      → IsSet timers (sets_alarm timers moment handler arg gp).1
      (alarm_with timers.next moment handler arg gp)
  pub cancels : (handler arg : ℕ) → (cancels timers handler arg).0 ≡ OK
      → AlarmsAreGone timers (cancels timers handler arg).1
      (λ alarm. (alarm.handler ≡ handler) × (alarm.arg ≡ arg))
  pub delays : (moment thread : ℕ)
      → IsDelayed timers (delays timers moment thread) (delay_with timers.next moment thread)
  pub drops_delay : (thread : ℕ)
      → DelaysChange timers (drops_delay timers thread)
      × IsWithout timers.delays (drops_delay timers thread).delays (λ delay. delay.thread ≡ thread)
  pub sets_again : (number ticks : ℕ)
      → IsSetAgain timers (sets_again timers number ticks) number ticks
  pub removes : (number : ℕ)
      → AlarmsAreGone timers (removes timers number) (λ alarm. alarm.number ≡ number)

abbrev pub EachCallLeaves : Type 0
EachCallLeaves = (timers : Timers) → AreTimers timers → CallsLeave timers
