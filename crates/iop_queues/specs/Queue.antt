-- Queues whose items have priorities: the threads that wait for an object, and the messages of a
-- mailbox (ps2sdk: thsemap.h, thmsgbx.h). A queue is the list of its items in order of their
-- arrival. That the first among those of the least number is the one that is chosen by priority is
-- this project's own profile.
use Rattle.std.specs.Prelude.{nat_lt, Bool, true, false, if◌then◌else◌, Option, Some, None, List, [], ◌∷◌}
use Rattle.iop_queues.specs.declared.queued.Queued.{Queued}

-- the item that is chosen, and the queue without it
pub record Choice (T : Type 0) : Type 0 where
  pub one : Queued T
  pub others : List (Queued T)

-- the first one
abbrev pub chooses_first : {T : Type 0} → List (Queued T) → Option (Choice T)
chooses_first [] = None
chooses_first (x ∷ xs) = Some (record { one = x; others = xs })

-- the first one, unless the choice among the later ones has a smaller number
abbrev pub chooses_between : {T : Type 0} → Queued T → List (Queued T) → Option (Choice T)
    → Choice T
chooses_between x xs None = record { one = x; others = xs }
chooses_between x xs (Some later) =
    if nat_lt later.one.priority x.priority
    then record { one = later.one; others = x ∷ later.others }
    else record { one = x; others = xs }

-- the first one among those of the least number
abbrev pub chooses_best : {T : Type 0} → List (Queued T) → Option (Choice T)
chooses_best [] = None
chooses_best (x ∷ xs) = Some (chooses_between x xs (chooses_best xs))

-- by priority, or by arrival
abbrev pub chooses : {T : Type 0} → (by_priority : Bool) → List (Queued T) → Option (Choice T)
chooses true queue = chooses_best queue
chooses false queue = chooses_first queue

-- the first one that meets a condition
abbrev pub chooses_behind : {T : Type 0} → Queued T → Option (Choice T) → Option (Choice T)
chooses_behind x None = None
chooses_behind x (Some later) = Some (record { one = later.one; others = x ∷ later.others })

abbrev pub chooses_where : {T : Type 0} → (T → Bool) → List (Queued T) → Option (Choice T)
chooses_where p [] = None
chooses_where p (x ∷ xs) =
    if p x.item then Some (record { one = x; others = xs })
    else chooses_behind x (chooses_where p xs)

-- the first one among those of the least number that meet a condition
abbrev pub chooses_best_where : {T : Type 0} → (T → Bool) → List (Queued T) → Option (Choice T)
chooses_best_where p [] = None
chooses_best_where p (x ∷ xs) =
    if p x.item then Some (chooses_between x xs (chooses_best_where p xs))
    else chooses_behind x (chooses_best_where p xs)

-- by priority, or by arrival
abbrev pub chooses_next_where : {T : Type 0} → (by_priority : Bool) → (T → Bool) → List (Queued T)
    → Option (Choice T)
chooses_next_where true p queue = chooses_best_where p queue
chooses_next_where false p queue = chooses_where p queue

-- the queue that a choice leaves
abbrev pub left_by : {T : Type 0} → List (Queued T) → Option (Choice T) → List (Queued T)
left_by queue None = queue
left_by queue (Some c) = c.others

-- the order in which the items are chosen, by priority or by arrival
abbrev pub put_by_priority : {T : Type 0} → Queued T → List (Queued T) → List (Queued T)
put_by_priority x [] = x ∷ []
put_by_priority x (y ∷ ys) =
    if nat_lt y.priority x.priority then y ∷ put_by_priority x ys else x ∷ y ∷ ys

abbrev pub sorted : {T : Type 0} → List (Queued T) → List (Queued T)
sorted [] = []
sorted (x ∷ xs) = put_by_priority x (sorted xs)

abbrev pub in_order : {T : Type 0} → (by_priority : Bool) → List (Queued T) → List (Queued T)
in_order true queue = sorted queue
in_order false queue = queue
