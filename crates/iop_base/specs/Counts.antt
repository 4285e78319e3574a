-- Counts that rise: of calls, of faults, of strays. Each is held in 64 bits and stands still at its
-- last value, so that a further rise cannot be seen there.
use Rattle.std.specs.Prelude.{ℕ, ◌+◌, ◌-◌, ◌^◌, ◌≤◌, min}

abbrev pub last_count : ℕ
last_count = 2 ^ 64 - 1

-- one more
abbrev pub risen : ℕ → ℕ
risen count = min (count + 1) last_count

-- the count shows a fault: it rose, or stands at its last value
abbrev pub HasCause : ℕ → ℕ → Type 0
HasCause old new = risen old ≤ new
