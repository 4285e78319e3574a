-- What the laws of times say: the words of a time are read where a service wrote them.
use Rattle.std.specs.Prelude.{◌≡◌, ◌≢◌, ℕ, ◌+◌, ◌*◌, ◌/◌, ◌%◌, ◌^◌, ◌<◌, Some, List}
use Rattle.iop_base.specs.Numbers.{number_at, wrapped}
use Rattle.iop_services.specs.declared.thbase_service.ThbaseService.TheVariants.{GetSystemTime, USec2SysClock, SysClock2USec}
use Rattle.iop_stubs.specs.Stubs.{Memory}
use Rattle.iop_time.specs.ClockTime.{ticks_of, micros_of}
use Rattle.iop_kernel.specs.System.{System, argument, words_place}
use Rattle.iop_kernel.specs.SystemClock.{ticks_in}
use Rattle.iop_kernel.specs.Thbase.{serves_thbase}
use Rattle.iop_kernel.specs.declared.system_clock.TheConstants.{TIME_WORDS, MICROS_OF_SECOND}

-- the words of a time stand at a place, the lower one first, as in the iop_sys_clock_t of ps2sdk's
-- thbase.h: each is the word that is left, whatever the ticks are
pub record HasTimeWords (memory : Memory) (place ticks : ℕ) : Type 0 where
  pub low : number_at memory.ram place 4 ≡ wrapped ticks
  pub high : number_at memory.ram (place + 4) 4 ≡ wrapped (ticks / 2 ^ 32)
  -- a service that reads a time there reads these ticks, as two words have them
  pub both : ticks_in memory place ≡ ticks % 2 ^ 64

-- the moment is read at the first argument
abbrev pub SystemTimeIsRead : Type 0
SystemTimeIsRead =
    (s : System) (place : ℕ)
    → words_place s.memory (argument s.core 0) TIME_WORDS ≡ Some place
    → HasTimeWords (serves_thbase s GetSystemTime).left.state.memory place s.core.kernel.clock

-- the ticks of so many microseconds, the first argument, are read at the second
abbrev pub TicksAreRead : Type 0
TicksAreRead =
    (s : System) (place : ℕ)
    → words_place s.memory (argument s.core 1) TIME_WORDS ≡ Some place
    → HasTimeWords (serves_thbase s USec2SysClock).left.state.memory place
    (ticks_of (argument s.core 0))

-- so many microseconds stand at two places: the whole seconds at the first, unless it is the second
-- too, and at the second, which is written last, those that are left
pub record HasSeconds (ram : List ℕ) (first second micros : ℕ) : Type 0 where
  pub seconds : first ≢ second → number_at ram first 4 ≡ wrapped (micros / MICROS_OF_SECOND)
  pub rest : number_at ram second 4 ≡ micros % MICROS_OF_SECOND
  -- a second has 1,000,000 of them, and both together are all, where the seconds are one word
  pub below : number_at ram second 4 < 1000000
  pub both : first ≢ second → micros < 1000000 * 2 ^ 32
      → number_at ram first 4 * 1000000 + number_at ram second 4 ≡ micros

-- the microseconds of the time at the first argument are read at the other two
abbrev pub SecondsAreRead : Type 0
SecondsAreRead =
    (s : System) (time seconds rest : ℕ)
    → words_place s.memory (argument s.core 0) TIME_WORDS ≡ Some time
    → words_place s.memory (argument s.core 1) 1 ≡ Some seconds
    → words_place s.memory (argument s.core 2) 1 ≡ Some rest
    → HasSeconds (serves_thbase s SysClock2USec).left.state.memory.ram seconds rest
    (micros_of (ticks_in s.memory time))
