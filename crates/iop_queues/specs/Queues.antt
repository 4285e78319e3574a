-- Queues that stand beside one another, each the list of its items in order of their arrival. They
-- are this project's own design.
use Rattle.std.specs.Prelude.{ℕ, Bool, not, if◌then◌else◌, List, []}
use Rattle.std.specs.Prelude.{◌++◌, slice_index_or, slice_set, length, filter, map, sum_by}
use Rattle.iop_queues.specs.declared.queued.Queued.{Queued}

module _ {T : Type 0} where
  -- the items of a queue
  abbrev pub queue_at : ℕ → List (List (Queued T)) → List (Queued T)
  queue_at queue queues = slice_index_or queues queue []

  -- the queues with other items in one of them
  abbrev pub with_queue : ℕ → List (Queued T) → List (List (Queued T))
      → List (List (Queued T))
  with_queue queue items queues = slice_set queues queue items

  -- how many items stand in all queues together
  abbrev pub total : List (List (Queued T)) → ℕ
  total queues = sum_by length queues

  -- the items of which a condition holds, and all others
  abbrev pub those_where : (T → Bool) → List (Queued T) → List (Queued T)
  those_where p queue = filter (λ x. p x.item) queue

  abbrev pub others_where : (T → Bool) → List (Queued T) → List (Queued T)
  others_where p queue = filter (λ x. not (p x.item)) queue

  abbrev pub with_priority : ℕ → Queued T → Queued T
  with_priority priority x = record x { priority = priority }

  abbrev pub prioritized : (T → Bool) → ℕ → Queued T → Queued T
  prioritized p priority x = if p x.item then with_priority priority x else x

  -- those of which a condition holds stand behind all others then, with another priority
  abbrev pub moved_last : (T → Bool) → ℕ → List (Queued T) → List (Queued T)
  moved_last p priority queue =
      others_where p queue ++ map (with_priority priority) (those_where p queue)

  -- those of which a condition holds keep their places, with another priority
  abbrev pub in_place : (T → Bool) → ℕ → List (Queued T) → List (Queued T)
  in_place p priority queue = map (prioritized p priority) queue
