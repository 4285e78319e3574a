-- Nodes that stand in lists, each in at most one: what is in each list, in order. It is this
-- project's own design.
use Rattle.std.specs.Prelude.{ℕ, ◌==◌, nat_eq, not, Bool, if◌then◌else◌, Option, Some, None, option_and_then, List, [], ◌∷◌, ◌++◌, slice_index_or, slice_set, replicate, map, filter, position, All, AllPairs, ◌≡◌, ◌≢◌, ◌<◌, true}
use Rattle.std.specs.List.{list_any}

-- how many nodes there are, and the nodes of each list in order
pub record Lists : Type 0 where
  pub nodes : ℕ
  pub lists : List (List ℕ)

-- so many nodes, and so many lists that are all empty
abbrev pub no_lists : ℕ → ℕ → Lists
no_lists nodes lists = record { nodes = nodes; lists = replicate lists [] }

-- whether a node is in a list
abbrev pub holds : ℕ → List ℕ → Bool
holds node xs = list_any (nat_eq node) xs

-- the nodes of a list
abbrev pub list_at : ℕ → Lists → List ℕ
list_at list s = slice_index_or s.lists list []

-- no node stands twice, neither in one list nor in two
pub record AreDisjoint (s : Lists) : Type 0 where
  pub below : (list : ℕ) → All (λ node. node < s.nodes) (list_at list s)
  pub once : (list : ℕ) → AllPairs (λ x y. x ≢ y) (list_at list s)
  pub in_one : (node j k : ℕ) → holds node (list_at j s) ≡ true → holds node (list_at k s) ≡ true
      → j ≡ k

-- the first node, if there is one
abbrev pub head : List ℕ → Option ℕ
head [] = None
head (x ∷ xs) = Some x

-- the node behind this one
abbrev pub behind : ℕ → List ℕ → Option ℕ
behind node [] = None
behind node (x ∷ xs) = if node == x then head xs else behind node xs

-- the first node of a list
abbrev pub first_node : ℕ → Lists → Option ℕ
first_node list s = head (list_at list s)

-- the list in which a node stands
abbrev pub list_of : ℕ → Lists → Option ℕ
list_of node s = position (holds node) s.lists

-- the node behind this one in its list
abbrev pub next_of : ℕ → Lists → Option ℕ
next_of node s = option_and_then (λ list. behind node (list_at list s)) (list_of node s)

-- the lists with these nodes in one of them
abbrev pub with_list : ℕ → List ℕ → Lists → Lists
with_list list xs s = record { nodes = s.nodes; lists = slice_set s.lists list xs }

-- the lists with a node behind all others of a list
abbrev pub pushed_back : ℕ → ℕ → Lists → Lists
pushed_back list node s = with_list list (list_at list s ++ node ∷ []) s

-- the lists with a node in front of all others of a list
abbrev pub pushed_front : ℕ → ℕ → Lists → Lists
pushed_front list node s = with_list list (node ∷ list_at list s) s

-- a list with a node in front of another, where that one stands in it
abbrev pub in_front : ℕ → ℕ → List ℕ → List ℕ
in_front node before [] = []
in_front node before (x ∷ xs) =
    if before == x then node ∷ x ∷ xs else x ∷ in_front node before xs

-- the lists with a node in front of another
abbrev pub inserted_before : ℕ → ℕ → Lists → Lists
inserted_before node before s =
    record { nodes = s.nodes; lists = map (in_front node before) s.lists }

-- a list without a node
abbrev pub without : ℕ → List ℕ → List ℕ
without node xs = filter (λ x. not (node == x)) xs

-- the lists without a node
abbrev pub unlinked : ℕ → Lists → Lists
unlinked node s = record { nodes = s.nodes; lists = map (without node) s.lists }
