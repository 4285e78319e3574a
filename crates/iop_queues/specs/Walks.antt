-- The items of nodes, and which of the nodes in a list is chosen. No contract of a public call
-- cites this.
use Rattle.std.specs.Prelude.{◌≡◌, ℕ, ◌<◌, ◌≤◌, ◌==◌, Bool, true, false, if◌then◌else◌, is_some, Option, Some, None, IfSome, option_map, unwrap_or}
use Rattle.std.specs.Prelude.{List, [], ◌∷◌, ◌++◌, slice_index_or, length, filter_map, All}
use Rattle.iop_base.specs.Choosing.{better}
use Rattle.iop_cblock.specs.Lists.{Lists, AreDisjoint, holds, list_at}
use Rattle.iop_queues.specs.Queue.{Choice}
use Rattle.iop_queues.specs.declared.queued.Queued.{Queued}
use Rattle.iop_queues.specs.declared.walks.Ranked.{Ranked}

-- the better of the best node so far, if there is one, and one that comes later
abbrev pub with_later : Option Ranked → Ranked → Ranked
with_later None later = later
with_later (Some first) later = better (λ r. r.priority) first (Some later)

-- the nodes of a list from one of them on
abbrev pub from : ℕ → List ℕ → List ℕ
from node [] = []
from node (x ∷ xs) = if node == x then x ∷ xs else from node xs

-- the nodes of a list that are ahead of a cursor
abbrev pub ahead : Option ℕ → List ℕ → List ℕ
ahead None xs = []
ahead (Some node) xs = from node xs

-- a cursor stands at a node of the list, or at its end
abbrev pub IsInside : Option ℕ → List ℕ → Type 0
IsInside cursor xs = IfSome cursor (λ node. holds node xs ≡ true)

module _ {T : Type 0} where
  -- the item of a node
  abbrev pub item_at : List (Option (Queued T)) → ℕ → Option (Queued T)
  item_at items node = slice_index_or items node None

  -- the items of nodes, in order
  abbrev pub items_of : List (Option (Queued T)) → List ℕ → List (Queued T)
  items_of items nodes = filter_map (item_at items) nodes

  -- each of the nodes has an item
  abbrev pub AreFilled : List (Option (Queued T)) → List ℕ → Type 0
  AreFilled items nodes = All (λ node. is_some (item_at items node) ≡ true) nodes

  -- a list whose items can be read one after the other: each of its nodes has one
  pub record CanBeWalked (items : List (Option (Queued T))) (s : Lists) (list : ℕ) : Type 0 where
    pub list_below : list < length s.lists
    pub nodes_below : s.nodes ≤ length items
    pub disjoint : AreDisjoint s
    pub filled : AreFilled items (list_at list s)

  -- the items of a list that are ahead of a cursor
  abbrev pub items_ahead : List (Option (Queued T)) → Lists → (list : ℕ) → Option ℕ
      → List (Queued T)
  items_ahead items s list cursor = items_of items (ahead cursor (list_at list s))

  -- a walk over the items of a list, which has come to a cursor
  pub record IsWalk (items : List (Option (Queued T))) (s : Lists) (list : ℕ)
      (cursor : Option ℕ) : Type 0 where
    pub list_can : CanBeWalked items s list
    pub inside : IsInside cursor (list_at list s)

  -- the number of a node's priority
  abbrev pub priority_at : List (Option (Queued T)) → ℕ → ℕ
  priority_at items node = unwrap_or (option_map (λ x. x.priority) (item_at items node)) 255

  -- the number that stands beside a node is that of its priority
  abbrev pub IsRanked : List (Option (Queued T)) → Ranked → Type 0
  IsRanked items r = r.priority ≡ priority_at items r.node

  -- whether a condition holds of a node's item
  abbrev pub holds_at : (T → Bool) → List (Option (Queued T)) → ℕ → Bool
  holds_at p items node = unwrap_or (option_map (λ x. p x.item) (item_at items node)) false

  -- the item that is chosen is that of this node
  pub record IsNode (items : List (Option (Queued T))) (nodes : List ℕ) (c : Choice T) (node : ℕ)
      : Type 0 where
    pub before : List ℕ
    pub behind : List ℕ
    pub nodes_are : nodes ≡ before ++ node ∷ behind
    pub item_is : item_at items node ≡ Some c.one
    pub others_are : items_of items (before ++ behind) ≡ c.others

  -- a node is found exactly where an item is chosen, and it has that item
  abbrev pub Finds : List (Option (Queued T)) → List ℕ → Option ℕ → Option (Choice T) → Type 0
  Finds items nodes None chosen = chosen ≡ None
  Finds items nodes (Some node) chosen =
      (c : Choice T) × (chosen ≡ Some c) × IsNode items nodes c node
