-- How the program's table stands for the objects: each has a queue of its own, in which those stand
-- that wait for it, and all other queues are free.
use Rattle.std.specs.Prelude.{ℕ, ◌+◌, ◌<◌, ◌≤◌, List, map, All, AllPairs}
use Rattle.iop_base.specs.declared.limits.TheConstants.{LAST_ID}
use Rattle.iop_queues.specs.Numbers.{AreAssigned}
use Rattle.iop_queues.specs.Queues.{queue_at}
use Rattle.iop_queues.specs.declared.queued.Queued.{Queued}
use Rattle.iop_objects.specs.Objects.{Object, Objects}
use Rattle.iop_objects.specs.declared.objects.Live.{Live}
use Rattle.iop_objects.specs.declared.objects.TheConstants.{FIRST_ID, MOST_OBJECTS}
use Rattle.iop_objects.specs.declared.waiter.Waiter.{Waiter}

-- their ids rise
abbrev pub IsInOrder : {A : Type 0} → List (Live A) → Type 0
IsInOrder live = AllPairs (λ a b. a.id < b.id) live

module _ {A W : Type 0} where
  -- a live object, with those that wait for it
  abbrev pub object_in : List (List (Queued (Waiter W))) → Live A → Object A W
  object_in waiters o =
      record { id = o.id; state = o.state; waiters = queue_at o.queue waiters }

  abbrev pub objects_in : List (Live A) → List (List (Queued (Waiter W))) → (next : ℕ)
      → Objects A W
  objects_in live waiters next =
      record { live = map (object_in waiters) live; next = next }

  -- what holds of every table
  pub record IsTable (live : List (Live A)) (free : List ℕ)
      (waiters : List (List (Queued (Waiter W)))) (next : ℕ) : Type 0 where
    -- ids rise, from the first one on, and none is one that is still to be given
    pub ids : IsInOrder live
    pub first : All (λ o. FIRST_ID ≤ o.id) live
    pub given : All (λ o. o.id < next) live
    pub next_first : FIRST_ID ≤ next
    pub next_last : next ≤ LAST_ID + 1
    -- each queue is that of one live object, or free
    pub queues : AreAssigned MOST_OBJECTS (map (λ o. o.queue) live) free waiters
