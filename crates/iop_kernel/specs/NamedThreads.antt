-- The thread that calls, and the thread that an id names (ps2sdk: thbase.h). What 0 names is this
-- project's own profile.
use Rattle.std.specs.Prelude.{ℕ, ◌==◌, Bool, ◌||◌, if◌then◌else◌, Option, Some, unwrap_or}
use Rattle.iop_thread.specs.ThreadTable.{is_it}
use Rattle.iop_kernel.specs.System.{Core, Left, caller, resumes}

-- the thread that an id names where 0 names the thread that calls
abbrev pub named : Option ℕ → ℕ → Option ℕ
named caller id = if id == 0 then caller else Some id

-- whether the id is 0, or that of the thread that calls
abbrev pub is_nobody_else : Core → (id : ℕ) → Bool
is_nobody_else c id = id == 0 || is_it (caller c) id

-- GetThreadId
abbrev pub get_thread_id : Core → Left Core
get_thread_id c = resumes c (unwrap_or (caller c) 0)
