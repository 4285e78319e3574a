-- How semaphores are put back, one behind the other, into a table of none: those that were live, in
-- the order of their ids, each with its count and with the threads that waited for it, in the order
-- of their arrival. It is this project's own profile.
use Rattle.std.specs.Prelude.{◌≡◌, ℕ, ◌<◌, nat_le, Bool, true, ◌&&◌, ⊤, if◌then◌else◌, Option, Some, None, option_and_then, List, [], ◌∷◌, All}
use Rattle.iop_objects.specs.Objects.{Object, no_objects, waiting, takes_next, drops, requeues}
use Rattle.iop_objects.specs.Restoring as objects
use Rattle.iop_objects.specs.Restoring.{IsRestorable, with_last, may_be_next, with_next, with_waiters_back, with_next_back}
use Rattle.iop_objects.specs.declared.objects.TheConstants.{MOST_WAITERS}
use Rattle.iop_sema.specs.Semaphores.{Semaphores, is_attribute, is_by_priority, creates, deletes, signals, takes, waits}
use Rattle.iop_sema.specs.declared.semaphore.Semaphore.{Semaphore}

-- whether a semaphore can have this attribute and these counts
abbrev pub is_sound : Semaphore → Bool
is_sound x = is_attribute x.attr && nat_le x.initial x.max && nat_le x.count x.max

module _ (s : Semaphores) where
  -- whether a semaphore may stand behind all others, with this id
  abbrev pub may_follow : ℕ → Semaphore → Bool
  may_follow id x = is_sound x && objects.may_follow s id

  -- a semaphore is live again, with those that waited for it
  abbrev pub with_semaphore_back : Object Semaphore ⊤ → Option Semaphores
  with_semaphore_back o =
      if may_follow o.id o.state
      then with_waiters_back (with_last s o.id o.state) o.id o.waiters
      else None

-- semaphores are live again, in this order
abbrev pub with_semaphores_back : Semaphores → List (Object Semaphore ⊤) → Option Semaphores
with_semaphores_back s [] = Some s
with_semaphores_back s (o ∷ os) =
    option_and_then (λ t. with_semaphores_back t os) (with_semaphore_back s o)

-- all that stands in a table is put back into one of no semaphore
abbrev pub restored : Semaphores → Option Semaphores
restored s = option_and_then (λ t. with_next_back t s.next) (with_semaphores_back no_objects s.live)

-- a table of sound semaphores, in which ids rise
pub record CanBeRestored (s : Semaphores) : Type 0 where
  pub objects : IsRestorable s
  pub semaphores : All (λ o. is_sound o.state ≡ true) s.live

-- all that stands in such a table can be put back, and gives the table again
abbrev pub SemaphoresAreRestored : Type 0
SemaphoresAreRestored = (s : Semaphores) → CanBeRestored s → restored s ≡ Some s

-- each call keeps a table so, where it lets no more threads wait than can
pub record StayRestorable (s : Semaphores) : Type 0 where
  pub creates : (attr option initial max : ℕ)
      → CanBeRestored (creates s attr option initial max).1
  pub deletes : (id : ℕ) → CanBeRestored (deletes s id).1
  pub signals : (id : ℕ) → CanBeRestored (signals s id).1
  pub takes : (id : ℕ) → CanBeRestored (takes s id).1
  pub waits : (id thread priority : ℕ) → waiting s < MOST_WAITERS
      → CanBeRestored (waits s id thread priority)
  pub takes_next : (id : ℕ) → CanBeRestored (takes_next s id (is_by_priority s id)).1
  pub drops : (id thread : ℕ) → CanBeRestored (drops s id thread)
  pub requeues : (id thread priority : ℕ)
      → CanBeRestored (requeues s id (is_by_priority s id) thread priority)
  -- and so does what is put back
  pub puts : (id : ℕ) (x : Semaphore) → may_follow s id x ≡ true
      → CanBeRestored (with_last s id x)
  pub with_next : (id : ℕ) → may_be_next s id ≡ true → CanBeRestored (with_next s id)

-- the first table is so
pub record SemaphoresStayRestorable : Type 0 where
  pub opening : CanBeRestored no_objects
  pub calls : (s : Semaphores) → CanBeRestored s → StayRestorable s
