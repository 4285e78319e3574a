-- The clock's time, in ticks. It runs at 36.864 MHz, the frequency of the machine's I/O processor,
-- so 125 microseconds are 4608 ticks (ps2sdk: thbase.h, USec2SysClock and SysClock2USec). That both
-- counts are rounded down, and that a moment of 2^63 never comes, is this project's own profile.
use Rattle.std.specs.Prelude.{ℕ, ◌+◌, ◌*◌, ◌/◌, min}
use Rattle.iop_time.specs.declared.ticks.TheConstants.{PERIOD_TICKS, PERIOD_MICROS, NEVER}

-- the whole ticks in so many microseconds
abbrev pub ticks_of : ℕ → ℕ
ticks_of us = us * PERIOD_TICKS / PERIOD_MICROS

-- the whole microseconds in so many ticks
abbrev pub micros_of : ℕ → ℕ
micros_of ticks = ticks * PERIOD_MICROS / PERIOD_TICKS

-- the moment so many ticks after another
abbrev pub moment_after : (t ticks : ℕ) → ℕ
moment_after t ticks = min (t + ticks) NEVER
