-- The objects of one kind that are live, and the threads that wait for them (ps2sdk: thsemap,
-- thevent, thmsgbx; the codes are those of its kerr.h). That ids are never used again, and how many
-- objects can stand, is this project's own profile.
use Rattle.std.specs.Prelude.{ℕ, ◌+◌, ◌<◌, ◌≤◌, ◌==◌, nat_lt, nat_le, Bool, ◌&&◌, not, if◌then◌else◌, Option, Some, None, option_map, Result, Ok, Err, List, [], ◌∷◌, ◌++◌, length, find, filter, map, sum, All, AllPairs}
use Rattle.iop_base.specs.declared.code.Code.{Code}
use Rattle.iop_base.specs.declared.code.TheConstants.Code.{NO_MEMORY}
use Rattle.iop_base.specs.declared.limits.TheConstants.{LAST_ID}
use Rattle.iop_queues.specs.Queue.{Choice, chooses, chooses_next_where, chooses_where}
use Rattle.iop_objects.specs.WaiterQueues.{without, requeued}
use Rattle.iop_objects.specs.declared.objects.TheConstants.{FIRST_ID, MOST_OBJECTS}
use Rattle.iop_queues.specs.declared.queued.Queued.{Queued}
use Rattle.iop_objects.specs.declared.waiter.Waiter.{Waiter}

-- a live object
pub record Object (A W : Type 0) : Type 0 where
  pub id : ℕ
  -- what is known of it
  pub state : A
  -- the threads that wait for it, in order of their arrival
  pub waiters : List (Queued (Waiter W))

-- the objects of one kind
pub record Objects (A W : Type 0) : Type 0 where
  pub live : List (Object A W)
  -- the id of the next one that is made
  pub next : ℕ

module _ {A W : Type 0} where
  -- at first there is none
  abbrev pub no_objects : Objects A W
  no_objects = record { live = []; next = FIRST_ID }

  -- what holds of all objects of a kind
  pub record AreObjects (s : Objects A W) : Type 0 where
    -- ids rise, from the first one on, and none is one that is still to be given
    pub ids : AllPairs (λ a b. a.id < b.id) s.live
    pub first : All (λ o. FIRST_ID ≤ o.id) s.live
    pub given : All (λ o. o.id < s.next) s.live
    pub few : length s.live ≤ MOST_OBJECTS
    pub next_first : FIRST_ID ≤ s.next
    pub next_last : s.next ≤ LAST_ID + 1

  -- the live object of an id
  abbrev pub object_of : List (Object A W) → ℕ → Option (Object A W)
  object_of live id = find (λ o. o.id == id) live

  -- what is known of it
  abbrev pub state_of : Objects A W → ℕ → Option A
  state_of s id = option_map (λ o. o.state) (object_of s.live id)

  abbrev pub waiters_in : Option (Object A W) → List (Queued (Waiter W))
  waiters_in None = []
  waiters_in (Some o) = o.waiters

  -- the threads that wait for it
  abbrev pub waiters_of : Objects A W → ℕ → List (Queued (Waiter W))
  waiters_of s id = waiters_in (object_of s.live id)

  -- how many threads wait, for all objects together
  abbrev pub waiting : Objects A W → ℕ
  waiting s = sum (map (λ o. length o.waiters) s.live)

  -- whether one more object can be made
  abbrev pub has_room : Objects A W → Bool
  has_room s = nat_lt (length s.live) MOST_OBJECTS && nat_le s.next LAST_ID

  -- an object is made, for which no thread waits
  abbrev pub creates : Objects A W → A → Result ℕ Code × Objects A W
  creates s state =
      let made : Object A W = record { id = s.next; state = state; waiters = [] } in
      if has_room s then (Ok s.next, record { live = s.live ++ made ∷ []; next = s.next + 1 })
      else (Err NO_MEMORY, s)

  -- an object is deleted
  abbrev pub deletes : Objects A W → ℕ → Objects A W
  deletes s id = record s { live = filter (λ o. not (o.id == id)) s.live }

  -- the object of an id changes, if there is one
  abbrev pub changes : Objects A W → ℕ → (Object A W → Object A W) → Objects A W
  changes s id change = record s { live = map (λ o. if o.id == id then change o else o) s.live }

  abbrev pub with_state : Objects A W → ℕ → A → Objects A W
  with_state s id state = changes s id (λ o. record o { state = state })

  abbrev pub with_waiters : Objects A W → ℕ → List (Queued (Waiter W)) → Objects A W
  with_waiters s id waiters = changes s id (λ o. record o { waiters = waiters })

  -- a thread waits, behind all others
  abbrev pub waits : Objects A W → ℕ → Queued (Waiter W) → Objects A W
  waits s id waiter = with_waiters s id (waiters_of s id ++ waiter ∷ [])

  -- a waiter that is chosen waits no more, and is answered
  abbrev pub takes : Objects A W → ℕ → Option (Choice (Waiter W))
      → Option (Waiter W) × Objects A W
  takes s id None = (None, s)
  takes s id (Some c) = (Some c.one.item, with_waiters s id c.others)

  -- by priority or by arrival
  abbrev pub takes_next : Objects A W → ℕ → (by_priority : Bool)
      → Option (Waiter W) × Objects A W
  takes_next s id by_priority = takes s id (chooses by_priority (waiters_of s id))

  -- the first one of which a condition holds
  abbrev pub takes_where : Objects A W → ℕ → (Waiter W → Bool) → Option (Waiter W) × Objects A W
  takes_where s id p = takes s id (chooses_where p (waiters_of s id))

  -- the next one, by priority or by arrival, of those of which a condition holds
  abbrev pub takes_next_where : Objects A W → ℕ → (by_priority : Bool) → (Waiter W → Bool)
      → Option (Waiter W) × Objects A W
  takes_next_where s id by_priority p =
      takes s id (chooses_next_where by_priority p (waiters_of s id))

  -- a thread waits no more, if it does
  abbrev pub drops : Objects A W → (id thread : ℕ) → Objects A W
  drops s id thread = with_waiters s id (without thread (waiters_of s id))

  -- the priority of a thread changes, if it waits
  abbrev pub requeues : Objects A W → ℕ → (by_priority : Bool) → (thread priority : ℕ)
      → Objects A W
  requeues s id by_priority thread priority =
      with_waiters s id (requeued by_priority thread priority (waiters_of s id))
