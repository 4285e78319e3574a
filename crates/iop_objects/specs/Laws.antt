-- What the laws of objects say.
use Rattle.std.specs.Prelude.{◌≡◌, ◌≢◌, ℕ, ◌+◌, ◌<◌, ◌≤◌, ◌⊎◌, Bool, true, false, None, Some, is_some, option_map, List, [], ◌∷◌, ◌++◌, length, map, flat_map, All, AllPairs, Contains}
use Rattle.iop_objects.specs.Objects.{Object, Objects, AreObjects, no_objects, object_of, state_of, waiters_of, waiting, has_room, creates, deletes, with_state, waits, takes_next, takes_where, takes_next_where, drops, requeues}
use Rattle.iop_queues.specs.declared.queued.Queued.{Queued}
use Rattle.iop_objects.specs.declared.waiter.Waiter.{Waiter}

module _ {A W : Type 0} where
  -- an object of this id is live
  abbrev pub IsLive : Objects A W → ℕ → Type 0
  IsLive s id = is_some (object_of s.live id) ≡ true

  -- what holds of all objects holds after a change. Ids rise: the next one does not fall, and what
  -- is live afterwards was live before, or was given its id by the change
  pub record IsChange (old new : Objects A W) : Type 0 where
    pub sound : AreObjects new
    pub rises : old.next ≤ new.next
    pub given : (id : ℕ) → IsLive new id → IsLive old id ⊎ ((old.next ≤ id) × (id < new.next))

  -- the objects of all other ids are as they were
  pub record IsChangeOf (id : ℕ) (old new : Objects A W) : Type 0 where
    pub change : IsChange old new
    pub others : (other : ℕ) → other ≢ id → object_of new.live other ≡ object_of old.live other

  -- nor is an id given
  pub record GivesNoId (id : ℕ) (old new : Objects A W) : Type 0 where
    pub change : IsChangeOf id old new
    pub next : new.next ≡ old.next

  -- nor does what is known of the object change
  pub record KeepsState (id : ℕ) (old new : Objects A W) : Type 0 where
    pub change : GivesNoId id old new
    pub state : state_of new id ≡ state_of old id

  -- what is made has the id that was next, and that one alone is given
  pub record IsMade (s : Objects A W) (state : A) : Type 0 where
    pub change : IsChangeOf s.next s (creates s state).1
    pub one : (creates s state).1.next ≤ s.next + 1
    pub made : has_room s ≡ true → object_of (creates s state).1.live s.next
        ≡ Some (record { id = s.next; state = state; waiters = [] })

  pub record IsDeleted (s : Objects A W) (id : ℕ) : Type 0 where
    pub change : GivesNoId id s (deletes s id)
    pub gone : object_of (deletes s id).live id ≡ None

  pub record IsSet (s : Objects A W) (id : ℕ) (state : A) : Type 0 where
    pub change : GivesNoId id s (with_state s id state)
    pub known : state_of (with_state s id state) id ≡ option_map (λ was. state) (state_of s id)
    pub waiters : waiters_of (with_state s id state) id ≡ waiters_of s id

  -- each call changes the object of one id alone, and one on its waiters nothing else of it
  pub record ChangeOne (s : Objects A W) : Type 0 where
    pub creates : (state : A) → IsMade s state
    pub deletes : (id : ℕ) → IsDeleted s id
    pub with_state : (id : ℕ) (state : A) → IsSet s id state
    pub waits : (id : ℕ) (waiter : Queued (Waiter W)) → KeepsState id s (waits s id waiter)
    pub takes_next : (id : ℕ) (by_priority : Bool)
        → KeepsState id s (takes_next s id by_priority).1
    pub takes_where : (id : ℕ) (p : Waiter W → Bool) → KeepsState id s (takes_where s id p).1
    pub takes_next_where : (id : ℕ) (by_priority : Bool) (p : Waiter W → Bool)
        → KeepsState id s (takes_next_where s id by_priority p).1
    pub drops : (id thread : ℕ) → KeepsState id s (drops s id thread)
    pub requeues : (id : ℕ) (by_priority : Bool) (thread priority : ℕ)
        → KeepsState id s (requeues s id by_priority thread priority)

-- the first table is sound, each call is a change of one object, and changes one after the other
-- are one
pub record ObjectsKeepApart (A W : Type 0) : Type 0 where
  pub opening : AreObjects (no_objects {A = A} {W = W})
  pub calls : (s : Objects A W) → AreObjects s → ChangeOne s
  pub compose : (a b c : Objects A W) → IsChange a b → IsChange b c → IsChange a c

module _ {A W : Type 0} where
  -- the threads that wait for an object
  abbrev pub threads_of : Object A W → List ℕ
  threads_of o = map (λ x. x.item.thread) o.waiters

  -- those that wait for all objects together
  abbrev pub threads_waiting : Objects A W → List ℕ
  threads_waiting s = flat_map threads_of s.live

-- where each thread that waits is one of some, none waits twice, and another of these does not
-- wait, fewer wait than there are threads
abbrev pub WaitersLeaveRoom : (A W : Type 0) → Type 0
WaitersLeaveRoom A W =
    (s : Objects A W) (threads : List ℕ) (thread : ℕ)
    → AllPairs (λ a b. a ≢ b) (threads_waiting s) → All (Contains threads) (threads_waiting s)
    → Contains threads thread → (Contains (threads_waiting s) thread → ⊥)
    → waiting s < length threads

-- one of those that wait is this thread, and no other one is
pub record IsAmong {W : Type 0} (thread : ℕ) (waiters : List (Queued (Waiter W))) : Type 0 where
  pub before : List (Queued (Waiter W))
  pub one : Queued (Waiter W)
  pub behind : List (Queued (Waiter W))
  pub waiters_are : waiters ≡ before ++ one ∷ behind
  pub is_thread : one.item.thread ≡ thread
  pub others_before : All (λ y. y.item.thread ≢ thread) before
  pub others_behind : All (λ y. y.item.thread ≢ thread) behind

-- where one waits no more the others keep their order. With another priority it stands behind all
-- others where they are chosen by priority, and else where it stood
pub record KeepsOrder {A W : Type 0} (s : Objects A W) (id thread priority : ℕ)
    (h : IsAmong thread (waiters_of s id)) : Type 0 where
  pub dropped : waiters_of (drops s id thread) id ≡ h.before ++ h.behind
  pub last : waiters_of (requeues s id true thread priority) id
      ≡ h.before ++ h.behind ++ record h.one { priority = priority } ∷ []
  pub placed : waiters_of (requeues s id false thread priority) id
      ≡ h.before ++ record h.one { priority = priority } ∷ h.behind

abbrev pub WaitersKeepOrder : (A W : Type 0) → Type 0
WaitersKeepOrder A W =
    (s : Objects A W) (id thread priority : ℕ) (h : IsAmong thread (waiters_of s id))
    → KeepsOrder s id thread priority h
