-- The choice that the ready list, waiters by priority and messages by priority share.
use Rattle.std.specs.Prelude.{ℕ, nat_lt, if◌then◌else◌, Option, Some, None, List, [], ◌∷◌}

-- one that comes first, unless one that comes later has a smaller number
abbrev pub better : {A : Type 0} → (A → ℕ) → A → Option A → A
better number x None = x
better number x (Some y) = if nat_lt (number y) (number x) then y else x

-- the first in the list among those of the least number
abbrev pub best : {A : Type 0} → (A → ℕ) → List A → Option A
best number [] = None
best number (x ∷ xs) = Some (better number x (best number xs))
