-- Queues of which one changes.
use Rattle.std.proofs.Common.{◌≡◌, ℕ, ◌+◌, ◌<◌, ◌≤◌, Option, List, [], ◌∷◌, ◌++◌, length, ap, sym, ◌∙◌, arith}
use Rattle.std.proofs.lemmas.List.{length-set, get_or-set_same, set-set, set-get_or}
use Rattle.std.proofs.lemmas.List.Sums.{sum_by-set}
use Rattle.iop_queues.specs.Queue.{Choice, left_by}
use Rattle.iop_queues.specs.Queues.{queue_at, with_queue, total}
use Rattle.iop_queues.specs.declared.queued.Queued.{Queued}

module _ {T : Type 0} where
  -- all queues but one are the same
  abbrev pub StayBeside : ℕ → List (List (Queued T)) → List (List (Queued T)) → Type 0
  StayBeside queue a b = with_queue queue [] a ≡ with_queue queue [] b

  module _ (queue : ℕ) (a b : List (List (Queued T))) (beside : StayBeside queue a b) where
    pub length-beside : length a ≡ length b
    length-beside =
        omega (arith, length-set a queue [], length-set b queue [], ap length beside)

    pub with_queue-beside : (items : List (Queued T))
        → with_queue queue items a ≡ with_queue queue items b
    with_queue-beside items =
        sym (set-set a queue [] items) ∙ ap (with_queue queue items) beside
        ∙ set-set b queue [] items

    -- what has these items in the one queue
    pub is_with : (items : List (Queued T)) → queue_at queue a ≡ items
        → a ≡ with_queue queue items b
    is_with items own =
        sym (set-get_or a queue []) ∙ with_queue-beside (queue_at queue a)
        ∙ ap (λ q. with_queue queue q b) own

  module _ (queue : ℕ) (items : List (Queued T)) (queues : List (List (Queued T))) where
    pub stay-with : StayBeside queue (with_queue queue items queues) queues
    stay-with = set-set queues queue items []

    pub queue_at-with : queue < length queues
        → queue_at queue (with_queue queue items queues) ≡ items
    queue_at-with below = get_or-set_same queues queue items [] below

    pub total-with : queue < length queues
        → total (with_queue queue items queues) + length (queue_at queue queues)
        ≡ total queues + length items
    total-with below = sum_by-set length queues queue items [] below

  -- one queue has no more items than all have together
  pub total-own : (queue : ℕ) (queues : List (List (Queued T))) → queue < length queues
      → length (queue_at queue queues) ≤ total queues
  total-own queue queues below = omega (arith, total-with queue [] queues below)

  -- the queue once one of it was taken
  pub left_own : (queue : ℕ) (first now : List (List (Queued T))) → queue < length first
      → StayBeside queue now first → (choose : List (Queued T) → Option (Choice T))
      → (left : List (List (Queued T)))
      → left ≡ with_queue queue (left_by (queue_at queue now) (choose (queue_at queue now))) now
      → queue_at queue left ≡ left_by (queue_at queue now) (choose (queue_at queue now))
  left_own queue first now below beside choose left left_is =
      let own = queue_at queue now in
      let same = length-beside queue now first beside in
      ap (queue_at queue) left_is
      ∙ queue_at-with queue (left_by own (choose own)) now (omega (arith, below, same))

  -- an item is put behind what is left of a queue
  pub put_back : (queue : ℕ) (first now left new : List (List (Queued T)))
      (others : List (Queued T)) (x : Queued T)
      → queue < length first → StayBeside queue now first → left ≡ with_queue queue others now
      → new ≡ with_queue queue (queue_at queue left ++ x ∷ []) left
      → StayBeside queue new first × (queue_at queue new ≡ others ++ x ∷ [])
  put_back queue first now left new others x below beside left_is new_is =
      let same = length-beside queue now first beside in
      let in_now : queue < length now = omega (arith, below, same) in
      let in_left : queue < length left =
      omega (arith, in_now, ap length left_is, length-set now queue others) in
      let items = queue_at queue left ++ x ∷ [] in (
        ap (with_queue queue []) new_is ∙ stay-with queue items left
            ∙ ap (with_queue queue []) left_is ∙ stay-with queue others now ∙ beside,
        ap (queue_at queue) new_is ∙ queue_at-with queue items left in_left
            ∙ ap (λ q. q ++ x ∷ [])
            (ap (queue_at queue) left_is ∙ queue_at-with queue others now in_now),
      )
