-- Event flags (ps2sdk: thevent.h; the codes are those of its kerr.h). Which attributes are accepted, and the
-- order of refusals, is this project's own profile.
use Rattle.std.specs.Prelude.{ℕ, ◌==◌, Bool, not, ◌&&◌, ◌||◌, if◌then◌else◌, Option, Some, None, Result, Ok, Err, length, bit_and, bit_or}
use Rattle.iop_base.specs.declared.code.Code.{Code}
use Rattle.iop_base.specs.declared.code.TheConstants.Code.{OK, ILLEGAL_ATTRIBUTE, UNKNOWN_EVENT_FLAG, FLAG_CONDITION, SECOND_WAITER, EMPTY_PATTERN}
use Rattle.iop_event.specs.WakeConditions.{holds, is_met, pattern_after, met_by}
use Rattle.iop_event.specs.declared.event_flag.EventFlag.{EventFlag}
use Rattle.iop_event.specs.declared.event_flag.TheConstants.{MANY_WAITERS}
use Rattle.iop_event.specs.declared.met.Met.{Met}
use Rattle.iop_event.specs.declared.wanted.Wanted.{Wanted}
use Rattle.iop_objects.specs.Objects as objects
use Rattle.iop_objects.specs.Objects.{Objects, Object, state_of, waiters_of, with_state, takes_where}
use Rattle.iop_objects.specs.declared.waiter.Waiter.{Waiter}

-- the event flags that are live
abbrev pub EventFlags : Type 0
EventFlags = Objects EventFlag Wanted

abbrev pub is_attribute : ℕ → Bool
is_attribute attr = attr == 0 || attr == MANY_WAITERS

abbrev pub with_pattern : EventFlag → ℕ → EventFlag
with_pattern x pattern = record x { pattern = pattern }

module _ (s : EventFlags) where
  -- an event flag is made
  abbrev pub creates : (attr option bits : ℕ) → Result ℕ Code × EventFlags
  creates attr option bits =
      if not (is_attribute attr) then (Err ILLEGAL_ATTRIBUTE, s)
      else objects.creates s
      (record { attr = attr; option = option; first = bits; pattern = bits })

  -- an event flag is deleted
  abbrev pub deletes_it : ℕ → Option EventFlag → Code × EventFlags
  deletes_it id None = (UNKNOWN_EVENT_FLAG, s)
  deletes_it id (Some x) = (OK, objects.deletes s id)

  abbrev pub deletes : ℕ → Code × EventFlags
  deletes id = deletes_it id (state_of s id)

  -- bits are set
  abbrev pub sets_it : (id bits : ℕ) → Option EventFlag → Code × EventFlags
  sets_it id bits None = (UNKNOWN_EVENT_FLAG, s)
  sets_it id bits (Some x) = (OK, with_state s id (with_pattern x (bit_or x.pattern bits)))

  abbrev pub sets : (id bits : ℕ) → Code × EventFlags
  sets id bits = sets_it id bits (state_of s id)

  -- the first thread that waits and whose condition holds waits no more
  abbrev pub meets_by : ℕ → EventFlag → Option (Waiter Wanted) × EventFlags
      → Option Met × EventFlags
  meets_by id x (None, left) = (None, s)
  meets_by id x (Some waiter, left) = (
    Some (met_by x.pattern waiter),
    with_state left id (with_pattern x (pattern_after waiter.wants.mode x.pattern)),
  )

  abbrev pub meets_it : ℕ → Option EventFlag → Option Met × EventFlags
  meets_it id None = (None, s)
  meets_it id (Some x) = meets_by id x (takes_where s id (is_met x.pattern))

  abbrev pub meets_next : ℕ → Option Met × EventFlags
  meets_next id = meets_it id (state_of s id)

  -- the bits that are not in a mask are cleared
  abbrev pub clears_it : (id mask : ℕ) → Option EventFlag → Code × EventFlags
  clears_it id mask None = (UNKNOWN_EVENT_FLAG, s)
  clears_it id mask (Some x) = (OK, with_state s id (with_pattern x (bit_and x.pattern mask)))

  abbrev pub clears : (id mask : ℕ) → Code × EventFlags
  clears id mask = clears_it id mask (state_of s id)

  -- a condition is tested: where it holds the pattern is answered, and cleared if the mode says so
  abbrev pub tests_on : (id bits mode : ℕ) → EventFlag → Result ℕ Code × EventFlags
  tests_on id bits mode x =
      if holds bits mode x.pattern
      then (Ok x.pattern, with_state s id (with_pattern x (pattern_after mode x.pattern)))
      else (Err FLAG_CONDITION, s)

  -- whether no other thread may wait
  abbrev pub is_taken : ℕ → EventFlag → Bool
  is_taken id x = not (x.attr == MANY_WAITERS) && not (length (waiters_of s id) == 0)

  abbrev pub tests_it : (id bits mode : ℕ) → Option EventFlag → Result ℕ Code × EventFlags
  tests_it id bits mode None = (Err UNKNOWN_EVENT_FLAG, s)
  tests_it id bits mode (Some x) =
      if bits == 0 then (Err EMPTY_PATTERN, s)
      else if is_taken id x then (Err SECOND_WAITER, s)
      else tests_on id bits mode x

  abbrev pub tests : (id bits mode : ℕ) → Result ℕ Code × EventFlags
  tests id bits mode = tests_it id bits mode (state_of s id)

  -- a thread waits
  abbrev pub waits : (id thread priority : ℕ) → Wanted → EventFlags
  waits id thread priority wanted =
      objects.waits s id
      (record { priority = priority; item = record { thread = thread; wants = wanted } })
