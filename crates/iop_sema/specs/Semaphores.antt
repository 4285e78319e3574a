-- Semaphores (ps2sdk: thsemap.h; the codes are those of its kerr.h). Which attributes are accepted, and
-- that a first count over the most is refused, is this project's own profile.
use Rattle.std.specs.Prelude.{ℕ, ◌+◌, ◌-◌, ◌==◌, nat_le, nat_lt, Bool, false, not, ⊤, if◌then◌else◌, Option, Some, None, Result, Ok, Err, option_map, unwrap_or}
use Rattle.iop_base.specs.declared.code.Code.{Code}
use Rattle.iop_base.specs.declared.code.TheConstants.Code.{OK, ILLEGAL_ATTRIBUTE, UNKNOWN_SEMAPHORE, SEMAPHORE_ZERO, SEMAPHORE_OVERFLOW}
use Rattle.iop_objects.specs.Objects as objects
use Rattle.iop_objects.specs.Objects.{Objects, state_of, with_state, takes_next}
use Rattle.iop_objects.specs.declared.waiter.Waiter.{Waiter}
use Rattle.iop_sema.specs.declared.semaphore.Semaphore.{Semaphore}
use Rattle.iop_sema.specs.declared.semaphore.TheConstants.{BY_PRIORITY}

-- the semaphores that are live; their waiters ask for nothing more
abbrev pub Semaphores : Type 0
Semaphores = Objects Semaphore ⊤

abbrev pub is_attribute : ℕ → Bool
is_attribute attr = nat_le attr BY_PRIORITY

-- whether the threads that wait for it are chosen by their priority
abbrev pub by_priority : Semaphore → Bool
by_priority x = x.attr == BY_PRIORITY

abbrev pub with_count : Semaphore → ℕ → Semaphore
with_count x count = record x { count = count }

module _ (s : Semaphores) where
  abbrev pub is_by_priority : ℕ → Bool
  is_by_priority id = unwrap_or (option_map by_priority (state_of s id)) false

  -- a semaphore is made
  abbrev pub creates : (attr option initial max : ℕ) → Result ℕ Code × Semaphores
  creates attr option initial max =
      if not (is_attribute attr) then (Err ILLEGAL_ATTRIBUTE, s)
      else if nat_lt max initial then (Err SEMAPHORE_OVERFLOW, s)
      else objects.creates s (record {
        attr = attr;
        option = option;
        initial = initial;
        max = max;
        count = initial;
      })

  -- a semaphore is deleted
  abbrev pub deletes_it : ℕ → Option Semaphore → Code × Semaphores
  deletes_it id None = (UNKNOWN_SEMAPHORE, s)
  deletes_it id (Some x) = (OK, objects.deletes s id)

  abbrev pub deletes : ℕ → Code × Semaphores
  deletes id = deletes_it id (state_of s id)

  -- a semaphore is signalled: the next thread that waits is answered, or the count grows by one
  abbrev pub signals_by : ℕ → Semaphore → Option (Waiter ⊤) × Semaphores
      → Result (Option ℕ) Code × Semaphores
  signals_by id x (Some waiter, left) = (Ok (Some waiter.thread), left)
  signals_by id x (None, left) =
      if nat_le x.max x.count then (Err SEMAPHORE_OVERFLOW, s)
      else (Ok None, with_state s id (with_count x (x.count + 1)))

  abbrev pub signals_it : ℕ → Option Semaphore → Result (Option ℕ) Code × Semaphores
  signals_it id None = (Err UNKNOWN_SEMAPHORE, s)
  signals_it id (Some x) = signals_by id x (takes_next s id (by_priority x))

  abbrev pub signals : ℕ → Result (Option ℕ) Code × Semaphores
  signals id = signals_it id (state_of s id)

  -- one of the count is taken
  abbrev pub takes_it : ℕ → Option Semaphore → Code × Semaphores
  takes_it id None = (UNKNOWN_SEMAPHORE, s)
  takes_it id (Some x) =
      if x.count == 0 then (SEMAPHORE_ZERO, s)
      else (OK, with_state s id (with_count x (x.count - 1)))

  abbrev pub takes : ℕ → Code × Semaphores
  takes id = takes_it id (state_of s id)

  -- a thread waits
  abbrev pub waits : (id thread priority : ℕ) → Semaphores
  waits id thread priority =
      objects.waits s id
      (record { priority = priority; item = record { thread = thread; wants = tt } })
