-- The services of thbase that look at the clock: delays, alarms, and what the time is (ps2sdk:
-- thbase.h; the codes are those of its kerr.h). The conditions and the order of the refusals, and
-- that there is no least delay, are this project's own profile.
use Rattle.std.specs.Prelude.{ℕ, ◌+◌, ◌*◌, ◌/◌, ◌%◌, ◌^◌, if◌then◌else◌, Option, Some, None, List, [], ◌∷◌, ◌++◌, length}
use Rattle.iop_base.specs.Numbers.{wrapped}
use Rattle.iop_base.specs.declared.code.Code.{Code}
use Rattle.iop_base.specs.declared.code.TheConstants.Code.{CANNOT_WAIT}
use Rattle.iop_base.specs.declared.guest_fault.GuestFault.TheVariants.{Address, Service}
use Rattle.iop_exec.specs.Row.{reg}
use Rattle.iop_stubs.specs.Stubs.{Memory, after_store, store_lines}
use Rattle.iop_thread.specs.declared.wait.Wait.TheVariants.{Delay}
use Rattle.iop_time.specs.ClockTime.{ticks_of, micros_of, moment_after}
use Rattle.iop_time.specs.Timers.{Timers, sets_alarm, cancels, delays}
use Rattle.iop_kernel.specs.Boards.{Board, quiet, writes, word_in, bytes_of_words}
use Rattle.iop_kernel.specs.System.{Core, Left, Done, may_switch, caller, with_timers, answers, faults, words_place}
use Rattle.iop_kernel.specs.ThreadWaits.{waits}
use Rattle.iop_kernel.specs.declared.system_clock.TheConstants.{TIME_WORDS, MICROS_OF_SECOND}

-- a time in ticks is told in two words, the lower one first
abbrev pub time_words : (ticks : ℕ) → List ℕ
time_words ticks = (ticks % 2 ^ 32) ∷ (ticks / 2 ^ 32) ∷ []

abbrev pub ticks_in : Memory → (place : ℕ) → ℕ
ticks_in memory place = word_in memory place 0 + 2 ^ 32 * word_in memory place 1

module _ (c : Core) where
  -- an operation on alarms answers a code
  abbrev pub leaves_timers : Code × Timers → Left Core
  leaves_timers (code, left) = answers (with_timers c left) code

  -- the thread that calls waits until a moment
  abbrev pub waits_until : (moment : ℕ) → Option ℕ → Left Core
  waits_until moment None = faults c Service
  waits_until moment (Some thread) =
      waits (with_timers c (delays c.kernel.timers moment thread)) Delay

  -- DelayThread
  abbrev pub delay_thread : (us : ℕ) → Left Core
  delay_thread us =
      if may_switch c.kernel
      then waits_until (moment_after c.kernel.clock (ticks_of us)) (caller c)
      else answers c CANNOT_WAIT

  -- by the place of the ticks after which the alarm comes; its handler begins with the `$gp` of the
  -- caller
  abbrev pub sets_alarm_at : Memory → Option ℕ → (handler arg : ℕ) → Left Core
  sets_alarm_at memory None handler arg = faults c Address
  sets_alarm_at memory (Some place) handler arg =
      let moment = moment_after c.kernel.clock (ticks_in memory place) in
      leaves_timers (sets_alarm c.kernel.timers moment handler arg (reg c.cpu 28))

  -- SetAlarm
  abbrev pub set_alarm : Memory → (at handler arg : ℕ) → Left Core
  set_alarm memory at handler arg =
      sets_alarm_at memory (words_place memory at TIME_WORDS) handler arg

  -- CancelAlarm
  abbrev pub cancel_alarm : (handler arg : ℕ) → Left Core
  cancel_alarm handler arg = leaves_timers (cancels c.kernel.timers handler arg)

module _ (b : Board) where
  -- by the place for a time
  abbrev pub writes_time : (ticks : ℕ) → Option ℕ → Done Board
  writes_time ticks None = quiet b.memory (faults b.core Address)
  writes_time ticks (Some place) = writes b.memory (Some place) (time_words ticks) b.core

  -- GetSystemTime
  abbrev pub get_system_time : (at : ℕ) → Done Board
  get_system_time at = writes_time b.core.kernel.clock (words_place b.memory at TIME_WORDS)

  -- USec2SysClock
  abbrev pub usec_to_clock : (us at : ℕ) → Done Board
  usec_to_clock us at = writes_time (ticks_of us) (words_place b.memory at TIME_WORDS)

  -- the whole seconds of a time are written at one place, and then its other microseconds at
  -- another
  abbrev pub writes_seconds : (seconds rest micros : ℕ) → Done Board
  writes_seconds seconds rest micros =
      let first = bytes_of_words (wrapped (micros / MICROS_OF_SECOND) ∷ []) in
      let written = after_store b.memory (Some seconds) first in
      let last = writes written (Some rest) ((micros % MICROS_OF_SECOND) ∷ []) b.core in
      record last {
        pieces = store_lines b.core.kernel.clock b.memory (Some seconds) (length first)
            ++ last.pieces;
      }

  -- by the places of the time, of the seconds and of the other microseconds
  abbrev pub converts_at : (time seconds rest : Option ℕ) → Done Board
  converts_at (Some time) (Some seconds) (Some rest) =
      writes_seconds seconds rest (micros_of (ticks_in b.memory time))
  converts_at time seconds rest = quiet b.memory (faults b.core Address)

  -- SysClock2USec
  abbrev pub clock_to_usec : (time seconds rest : ℕ) → Done Board
  clock_to_usec time seconds rest =
      converts_at (words_place b.memory time TIME_WORDS) (words_place b.memory seconds 1)
      (words_place b.memory rest 1)
