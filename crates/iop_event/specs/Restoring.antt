-- How event flags are put back, one behind the other, into a table of none: those that were live,
-- in the order of their ids, each with its pattern and with the threads that waited for it, in the
-- order of their arrival. It is this project's own profile.
use Rattle.std.specs.Prelude.{◌≡◌, ◌≢◌, ℕ, ◌<◌, ◌≤◌, ◌==◌, Bool, true, false, ◌&&◌, not, if◌then◌else◌, Option, Some, None, option_map, option_and_then, unwrap_or, List, [], ◌∷◌, length, All}
use Rattle.iop_event.specs.EventFlags.{EventFlags, is_attribute, is_taken, creates, deletes, sets, clears, tests, meets_next}
use Rattle.iop_event.specs.EventFlags as flags
use Rattle.iop_event.specs.declared.event_flag.EventFlag.{EventFlag}
use Rattle.iop_event.specs.declared.event_flag.TheConstants.{MANY_WAITERS}
use Rattle.iop_event.specs.declared.wanted.Wanted.{Wanted}
use Rattle.iop_objects.specs.Objects.{Object, no_objects, state_of, waiting, waits, takes_next, drops, requeues}
use Rattle.iop_objects.specs.Restoring as objects
use Rattle.iop_objects.specs.Restoring.{IsRestorable, with_last, may_be_next, with_next, with_next_back}
use Rattle.iop_objects.specs.declared.objects.TheConstants.{MOST_WAITERS}
use Rattle.iop_objects.specs.declared.waiter.Waiter.{Waiter}
use Rattle.iop_queues.specs.declared.queued.Queued.{Queued}

-- whether a condition asks for a bit
abbrev pub asks_for_bits : Wanted → Bool
asks_for_bits wanted = not (wanted.bits == 0)

module _ (s : EventFlags) where
  -- whether an event flag may stand behind all others, with this id
  abbrev pub may_follow : ℕ → EventFlag → Bool
  may_follow id x = is_attribute x.attr && objects.may_follow s id

  -- whether the event flag of this id is live, and none waits for it where one alone may
  abbrev pub is_open : ℕ → Bool
  is_open id = unwrap_or (option_map (λ x. not (is_taken s id x)) (state_of s id)) false

  -- whether a thread may wait for the event flag of this id, on this condition
  abbrev pub may_wait : ℕ → Wanted → Bool
  may_wait id wanted = asks_for_bits wanted && is_open id && objects.may_wait s id

-- threads wait for an event flag again, in this order
abbrev pub with_waiters_back : EventFlags → ℕ → List (Queued (Waiter Wanted)) → Option EventFlags
with_waiters_back s id [] = Some s
with_waiters_back s id (x ∷ xs) =
    if may_wait s id x.item.wants then with_waiters_back (waits s id x) id xs else None

-- an event flag is live again, with those that waited for it
abbrev pub with_flag_back : EventFlags → Object EventFlag Wanted → Option EventFlags
with_flag_back s o =
    if may_follow s o.id o.state
    then with_waiters_back (with_last s o.id o.state) o.id o.waiters
    else None

-- event flags are live again, in this order
abbrev pub with_flags_back : EventFlags → List (Object EventFlag Wanted) → Option EventFlags
with_flags_back s [] = Some s
with_flags_back s (o ∷ os) = option_and_then (λ t. with_flags_back t os) (with_flag_back s o)

-- all that stands in a table is put back into one of no event flag
abbrev pub restored : EventFlags → Option EventFlags
restored s = option_and_then (λ t. with_next_back t s.next) (with_flags_back no_objects s.live)

-- a sound event flag, with those that wait for it
pub record IsSoundFlag (o : Object EventFlag Wanted) : Type 0 where
  pub attribute : is_attribute o.state.attr ≡ true
  pub asked : All (λ x. asks_for_bits x.item.wants ≡ true) o.waiters
  -- no two wait where one alone may
  pub alone : o.state.attr ≢ MANY_WAITERS → length o.waiters ≤ 1

-- a table of sound event flags, in which ids rise
pub record CanBeRestored (s : EventFlags) : Type 0 where
  pub objects : IsRestorable s
  pub flags : All IsSoundFlag s.live

-- all that stands in such a table can be put back, and gives the table again
abbrev pub EventFlagsAreRestored : Type 0
EventFlagsAreRestored = (s : EventFlags) → CanBeRestored s → restored s ≡ Some s

-- each call keeps a table so, where it lets no more threads wait than can
pub record StayRestorable (s : EventFlags) : Type 0 where
  pub creates : (attr option bits : ℕ) → CanBeRestored (creates s attr option bits).1
  pub deletes : (id : ℕ) → CanBeRestored (deletes s id).1
  pub sets : (id bits : ℕ) → CanBeRestored (sets s id bits).1
  pub clears : (id mask : ℕ) → CanBeRestored (clears s id mask).1
  pub tests : (id bits mode : ℕ) → CanBeRestored (tests s id bits mode).1
  pub meets_next : (id : ℕ) → CanBeRestored (meets_next s id).1
  -- a thread waits that asks for a bit, where no other waits that may not
  pub waits : (id thread priority : ℕ) (wanted : Wanted) → waiting s < MOST_WAITERS
      → asks_for_bits wanted ≡ true
      → ((x : EventFlag) → state_of s id ≡ Some x → is_taken s id x ≡ false)
      → CanBeRestored (flags.waits s id thread priority wanted)
  pub takes_next : (id : ℕ) → CanBeRestored (takes_next s id false).1
  pub drops : (id thread : ℕ) → CanBeRestored (drops s id thread)
  pub requeues : (id thread priority : ℕ) → CanBeRestored (requeues s id false thread priority)
  -- and so does what is put back
  pub puts : (id : ℕ) (x : EventFlag) → may_follow s id x ≡ true
      → CanBeRestored (with_last s id x)
  pub with_next : (id : ℕ) → may_be_next s id ≡ true → CanBeRestored (with_next s id)

-- the first table is so
pub record EventFlagsStayRestorable : Type 0 where
  pub opening : CanBeRestored no_objects
  pub calls : (s : EventFlags) → CanBeRestored s → StayRestorable s
