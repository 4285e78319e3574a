-- The priorities of threads (ps2sdk: thread.h).
use Rattle.std.specs.Prelude.{◌≡◌, ℕ, ◌≤◌, nat_le, true, ◌&&◌, if◌then◌else◌, Option, Some, None}
use Rattle.iop_base.specs.Bits.{has}
use Rattle.iop_ready.specs.declared.priority.TheConstants.{LOWEST_PRIORITY}

-- 1 is the best
abbrev pub IsPriority : ℕ → Type 0
IsPriority n = (1 ≤ n) × (n ≤ LOWEST_PRIORITY)

-- nothing but priorities is in the set
abbrev pub ArePriorities : ℕ → Type 0
ArePriorities bits = (n : ℕ) → has bits n ≡ true → IsPriority n

-- the priority that a word stands for
abbrev pub priority_of : ℕ → Option ℕ
priority_of word = if nat_le 1 word && nat_le word LOWEST_PRIORITY then Some word else None
