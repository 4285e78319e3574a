-- What the laws of the lists say.
use Rattle.std.specs.Prelude.{◌≡◌, ℕ, ◌<◌, length, Some, None, IsSome}
use Rattle.iop_cblock.specs.Lists.{Lists, first_node, next_of, list_at, list_of, pushed_back, pushed_front, inserted_before, unlinked, without}

-- a node that is put in and taken out leaves the lists as they were
pub record IsUndone (node : ℕ) (s : Lists) : Type 0 where
  pub back : (list : ℕ) → unlinked node (pushed_back list node s) ≡ s
  pub front : (list : ℕ) → unlinked node (pushed_front list node s) ≡ s
  pub before : (other : ℕ) → unlinked node (inserted_before node other s) ≡ s

abbrev pub UnlinkUndoes : Type 0
UnlinkUndoes = (node : ℕ) (s : Lists) → list_of node s ≡ None → IsUndone node s

-- a node stands where it was put: the last of its list, the first of it, or in front of another
pub record IsPlaced (node : ℕ) (s : Lists) : Type 0 where
  pub list : (list : ℕ) → list < length s.lists → list_of node (pushed_back list node s) ≡ Some list
  pub last : (list : ℕ) → list < length s.lists → next_of node (pushed_back list node s) ≡ None
  pub front_list : (list : ℕ) → list < length s.lists
      → list_of node (pushed_front list node s) ≡ Some list
  pub first : (list : ℕ) → list < length s.lists
      → first_node list (pushed_front list node s) ≡ Some node
  pub before : (other : ℕ) → IsSome (list_of other s)
      → next_of node (inserted_before node other s) ≡ Some other

abbrev pub PushesPlace : Type 0
PushesPlace = (node : ℕ) (s : Lists) → list_of node s ≡ None → IsPlaced node s

-- of each list the nodes but this one are those that they were, in the same order
pub record KeepsOthers (node : ℕ) (s : Lists) : Type 0 where
  pub back : (list k : ℕ) → without node (list_at k (pushed_back list node s)) ≡ list_at k s
  pub front : (list k : ℕ) → without node (list_at k (pushed_front list node s)) ≡ list_at k s
  pub before : (other k : ℕ)
      → without node (list_at k (inserted_before node other s)) ≡ list_at k s

pub record ChangesKeepOthers : Type 0 where
  pub put : (node : ℕ) (s : Lists) → list_of node s ≡ None → KeepsOthers node s
  pub taken : (node : ℕ) (s : Lists) (k : ℕ)
      → list_at k (unlinked node s) ≡ without node (list_at k s)
