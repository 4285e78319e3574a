-- The threads that wait for an object (ps2sdk: thsemap, thevent, thmsgbx). What a change of
-- priority does to them is this project's own profile.
use Rattle.std.specs.Prelude.{ℕ, ◌==◌, Bool, true, false, List}
use Rattle.iop_queues.specs.Queues as queues
use Rattle.iop_queues.specs.declared.queued.Queued.{Queued}
use Rattle.iop_objects.specs.declared.waiter.Waiter.{Waiter}

module _ {W : Type 0} where
  -- whether it is the thread of an id
  abbrev pub is_waiter : ℕ → Waiter W → Bool
  is_waiter thread waiter = waiter.thread == thread

  abbrev pub is_thread : ℕ → Queued (Waiter W) → Bool
  is_thread thread x = is_waiter thread x.item

  -- those that wait without a thread
  abbrev pub without : ℕ → List (Queued (Waiter W)) → List (Queued (Waiter W))
  without thread waiters = queues.others_where (is_waiter thread) waiters

  abbrev pub with_priority : ℕ → Queued (Waiter W) → Queued (Waiter W)
  with_priority priority x = queues.with_priority priority x

  -- a thread waits behind all others then, with another priority
  abbrev pub moved_last : (thread priority : ℕ) → List (Queued (Waiter W))
      → List (Queued (Waiter W))
  moved_last thread priority waiters = queues.moved_last (is_waiter thread) priority waiters

  -- a thread keeps its place, with another priority
  abbrev pub in_place : (thread priority : ℕ) → List (Queued (Waiter W))
      → List (Queued (Waiter W))
  in_place thread priority waiters = queues.in_place (is_waiter thread) priority waiters

  -- the priority of a thread changes: where waiters are chosen by priority it waits behind all
  -- others then
  abbrev pub requeued : (by_priority : Bool) → (thread priority : ℕ) → List (Queued (Waiter W))
      → List (Queued (Waiter W))
  requeued true thread priority waiters = moved_last thread priority waiters
  requeued false thread priority waiters = in_place thread priority waiters
