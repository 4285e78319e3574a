-- How objects are put back, one behind the other, into a table of none: those that were live, in
-- the order of their ids, and the threads that waited for each, in the order of their arrival. It
-- is this project's own profile.
use Rattle.std.specs.Prelude.{◌≡◌, ℕ, ◌+◌, ◌<◌, ◌≤◌, nat_lt, nat_le, Bool, true, ◌&&◌, is_some, if◌then◌else◌, Option, Some, None, option_and_then, List, [], ◌∷◌, ◌++◌, length}
use Rattle.iop_base.specs.declared.limits.TheConstants.{LAST_ID}
use Rattle.iop_queues.specs.declared.queued.Queued.{Queued}
use Rattle.iop_objects.specs.Objects.{Object, Objects, AreObjects, no_objects, object_of, waiting, creates, deletes, with_state, waits, takes_next, takes_where, takes_next_where, drops, requeues}
use Rattle.iop_objects.specs.declared.objects.TheConstants.{MOST_OBJECTS, MOST_WAITERS}
use Rattle.iop_objects.specs.declared.waiter.Waiter.{Waiter}

module _ {A W : Type 0} where
  -- whether one more object can be live
  abbrev pub has_place : Objects A W → Bool
  has_place s = nat_lt (length s.live) MOST_OBJECTS

  -- whether an id is still to be given, and at most a last one
  abbrev pub is_ahead : Objects A W → (id last : ℕ) → Bool
  is_ahead s id last = nat_le s.next id && nat_le id last

  -- whether an object of this id may stand behind all others
  abbrev pub may_follow : Objects A W → ℕ → Bool
  may_follow s id = is_ahead s id LAST_ID && has_place s

  -- an object for which no thread waits stands behind all others
  abbrev pub with_last : Objects A W → ℕ → A → Objects A W
  with_last s id state =
      let last : Object A W = record { id = id; state = state; waiters = [] } in
      record { live = s.live ++ last ∷ []; next = id + 1 }

  -- whether one more thread may wait for the object of this id
  abbrev pub may_wait : Objects A W → ℕ → Bool
  may_wait s id = is_some (object_of s.live id) && nat_lt (waiting s) MOST_WAITERS

  -- whether this may be the id of the next object
  abbrev pub may_be_next : Objects A W → ℕ → Bool
  may_be_next s id = is_ahead s id (LAST_ID + 1)

  abbrev pub with_next : Objects A W → ℕ → Objects A W
  with_next s id = record s { next = id }

  -- threads wait for an object again, in this order
  abbrev pub with_waiters_back : Objects A W → ℕ → List (Queued (Waiter W)) → Option (Objects A W)
  with_waiters_back s id [] = Some s
  with_waiters_back s id (x ∷ xs) =
      if may_wait s id then with_waiters_back (waits s id x) id xs else None

  -- an object is live again, with those that waited for it
  abbrev pub with_object_back : Objects A W → Object A W → Option (Objects A W)
  with_object_back s o =
      if may_follow s o.id then with_waiters_back (with_last s o.id o.state) o.id o.waiters
      else None

  -- objects are live again, in this order
  abbrev pub with_objects_back : Objects A W → List (Object A W) → Option (Objects A W)
  with_objects_back s [] = Some s
  with_objects_back s (o ∷ os) =
      option_and_then (λ t. with_objects_back t os) (with_object_back s o)

  abbrev pub with_next_back : Objects A W → ℕ → Option (Objects A W)
  with_next_back s id = if may_be_next s id then Some (with_next s id) else None

  -- all that stands in a table is put back into one of no object
  abbrev pub restored : Objects A W → Option (Objects A W)
  restored s =
      option_and_then (λ t. with_next_back t s.next) (with_objects_back no_objects s.live)

  -- a sound table in which no more threads wait than can
  pub record IsRestorable (s : Objects A W) : Type 0 where
    pub sound : AreObjects s
    pub few : waiting s ≤ MOST_WAITERS

-- all that stands in such a table can be put back, and gives the table again
abbrev pub ObjectsAreRestored : (A W : Type 0) → Type 0
ObjectsAreRestored A W = (s : Objects A W) → IsRestorable s → restored s ≡ Some s

module _ {A W : Type 0} where
  -- each call keeps a table so, where it lets no more threads wait than can
  pub record StayRestorable (s : Objects A W) : Type 0 where
    pub creates : (state : A) → IsRestorable (creates s state).1
    pub deletes : (id : ℕ) → IsRestorable (deletes s id)
    pub with_state : (id : ℕ) (state : A) → IsRestorable (with_state s id state)
    pub waits : waiting s < MOST_WAITERS → (id : ℕ) (waiter : Queued (Waiter W))
        → IsRestorable (waits s id waiter)
    pub takes_next : (id : ℕ) (by_priority : Bool)
        → IsRestorable (takes_next s id by_priority).1
    pub takes_where : (id : ℕ) (p : Waiter W → Bool) → IsRestorable (takes_where s id p).1
    pub takes_next_where : (id : ℕ) (by_priority : Bool) (p : Waiter W → Bool)
        → IsRestorable (takes_next_where s id by_priority p).1
    pub drops : (id thread : ℕ) → IsRestorable (drops s id thread)
    pub requeues : (id : ℕ) (by_priority : Bool) (thread priority : ℕ)
        → IsRestorable (requeues s id by_priority thread priority)
    -- and so does what is put back
    pub with_last : (id : ℕ) (state : A) → may_follow s id ≡ true
        → IsRestorable (with_last s id state)
    pub with_next : (id : ℕ) → may_be_next s id ≡ true → IsRestorable (with_next s id)

-- the first table is so
pub record ObjectsStayRestorable (A W : Type 0) : Type 0 where
  pub opening : IsRestorable (no_objects {A = A} {W = W})
  pub calls : (s : Objects A W) → IsRestorable s → StayRestorable s
