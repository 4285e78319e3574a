-- What the law of queues says.
use Rattle.std.specs.Prelude.{◌≡◌, ℕ, ◌<◌, ◌≤◌, ◌==◌, Bool, true, None, Some, option_map, List, [], ◌∷◌, ◌++◌, length, filter, All}
use Rattle.iop_base.specs.Choosing.{best}
use Rattle.iop_queues.specs.Queue.{Choice, chooses, chooses_best, chooses_where, in_order, sorted}
use Rattle.iop_queues.specs.declared.queued.Queued.{Queued}

-- an item stands in a queue before others and behind others
pub record IsTaken {T : Type 0} (queue : List (Queued T)) (c : Choice T) : Type 0 where
  pub before : List (Queued T)
  pub behind : List (Queued T)
  pub queue_is : queue ≡ before ++ c.one ∷ behind
  pub others_are : c.others ≡ before ++ behind

-- the choice by priority: those before it have a greater number, those behind it none that is
-- smaller
pub record IsBest {T : Type 0} (queue : List (Queued T)) (c : Choice T) : Type 0 where
  pub taken : IsTaken queue c
  pub first : All (λ x. c.one.priority < x.priority) taken.before
  pub least : All (λ x. c.one.priority ≤ x.priority) taken.behind

-- the choice by a condition: it does not hold of those before it
pub record IsFirstWhere {T : Type 0} (p : T → Bool) (queue : List (Queued T)) (c : Choice T)
    : Type 0 where
  pub taken : IsTaken queue c
  pub holds : p c.one.item ≡ true
  pub first : All (λ x. p x.item ≡ true → ⊥) taken.before

-- the items of a priority
abbrev pub of_priority : {T : Type 0} → ℕ → List (Queued T) → List (Queued T)
of_priority priority queue = filter (λ x. x.priority == priority) queue

pub record QueuesAreChosen (T : Type 0) : Type 0 where
  -- nothing is chosen from an empty queue alone
  pub empty : (by_priority : Bool) (queue : List (Queued T))
      → chooses by_priority queue ≡ None → queue ≡ []
  pub by_priority : (queue : List (Queued T)) (c : Choice T)
      → chooses_best queue ≡ Some c → IsBest queue c
  -- it is the choice that the ready list makes
  pub as_ready : (queue : List (Queued T))
      → option_map (λ c. c.one) (chooses_best queue) ≡ best (λ x. x.priority) queue
  pub first_where : (p : T → Bool) (queue : List (Queued T)) (c : Choice T)
      → chooses_where p queue ≡ Some c → IsFirstWhere p queue c
  pub none_where : (p : T → Bool) (queue : List (Queued T))
      → chooses_where p queue ≡ None → All (λ x. p x.item ≡ true → ⊥) queue
  -- the order is that of the choices, one after the other
  pub order : (by_priority : Bool) (queue : List (Queued T)) (c : Choice T)
      → chooses by_priority queue ≡ Some c
      → in_order by_priority queue ≡ c.one ∷ in_order by_priority c.others
  -- it has the items of each priority in order of their arrival
  pub stable : (queue : List (Queued T)) (priority : ℕ)
      → of_priority priority (sorted queue) ≡ of_priority priority queue
  pub size : (by_priority : Bool) (queue : List (Queued T))
      → length (in_order by_priority queue) ≡ length queue
