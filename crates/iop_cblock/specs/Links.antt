-- The links between nodes, which no contract of a public call cites. Each node is a place. Each
-- list has a place of its own behind those of the nodes, which closes the list to a ring: behind
-- the list's last node and in front of its first.
use Rattle.std.specs.Prelude.{◌≡◌, ℕ, zero, suc, ◌+◌, ◌-◌, ◌<◌, nat_lt, ◌==◌, true, false, ◌⊎◌, if◌then◌else◌, Option, Some, None, List, [], ◌∷◌, ◌++◌, slice_index_or, length, map, replicate}
use Rattle.std.specs.List.{range_with_len}
use Rattle.iop_cblock.specs.Lists.{Lists, holds, list_at, list_of, with_list}

-- for each place the one behind it, the one in front of it, and the list in which it stands
pub record Links : Type 0 where
  pub nodes : ℕ
  pub next : List ℕ
  pub previous : List ℕ
  pub owner : List (Option ℕ)

abbrev pub links_of : ℕ → List ℕ → List ℕ → List (Option ℕ) → Links
links_of nodes next previous owner =
    record { nodes = nodes; next = next; previous = previous; owner = owner }

abbrev pub next_at : Links → ℕ → ℕ
next_at t place = slice_index_or t.next place 0

abbrev pub previous_at : Links → ℕ → ℕ
previous_at t place = slice_index_or t.previous place 0

abbrev pub owner_at : Links → ℕ → Option ℕ
owner_at t place = slice_index_or t.owner place None

-- from one place over these to another each is linked to the one behind it and back
abbrev pub Chain : (ℕ → ℕ) → (ℕ → ℕ) → ℕ → List ℕ → ℕ → Type 0
Chain next previous a [] b = (next a ≡ b) × (previous b ≡ a)
Chain next previous a (x ∷ xs) b =
    (next a ≡ x) × (previous x ≡ a) × Chain next previous x xs b

-- each is a node that stands in this list
abbrev pub AreOwned : Links → ℕ → List ℕ → Type 0
AreOwned t list [] = Unit {0}
AreOwned t list (x ∷ xs) = (x < t.nodes) × (owner_at t x ≡ Some list) × AreOwned t list xs

-- none stands twice
abbrev pub AreApart : List ℕ → Type 0
AreApart [] = Unit {0}
AreApart (x ∷ xs) = (holds x xs ≡ false) × AreApart xs

-- what holds of the nodes of one list
pub record IsRing (t : Links) (list : ℕ) (xs : List ℕ) : Type 0 where
  pub end : owner_at t (t.nodes + list) ≡ Some list
  pub linked : Chain (next_at t) (previous_at t) (t.nodes + list) xs (t.nodes + list)
  pub owned : AreOwned t list xs
  pub apart : AreApart xs

-- the links are those of these lists, and no node stands twice in them
pub record AreLinked (t : Links) (lists : List (List ℕ)) : Type 0 where
  pub next_length : length t.next ≡ t.nodes + length lists
  pub previous_length : length t.previous ≡ t.nodes + length lists
  pub owner_length : length t.owner ≡ t.nodes + length lists
  pub rings : (list : ℕ) → list < length lists → IsRing t list (slice_index_or lists list [])
  pub held : (node list : ℕ) → node < t.nodes → owner_at t node ≡ Some list
      → (list < length lists) × (holds node (slice_index_or lists list []) ≡ true)

-- the nodes from a place on, at most so many
abbrev pub nodes_from : ℕ → Links → ℕ → List ℕ
nodes_from zero t place = []
nodes_from (suc most) t place =
    if nat_lt place t.nodes then place ∷ nodes_from most t (next_at t place) else []

-- the nodes of a list
abbrev pub ring_nodes : Links → ℕ → List ℕ
ring_nodes t list = nodes_from t.nodes t (next_at t (t.nodes + list))

-- the lists that are linked so
abbrev pub linked_lists : Links → Lists
linked_lists t =
    record {
      nodes = t.nodes;
      lists = map (ring_nodes t) (range_with_len 0 (length t.next - t.nodes));
    }

-- the links are those of the lists that they make
abbrev pub AreSound : Links → Type 0
AreSound t = AreLinked t (linked_lists t).lists

-- the node of a place, where it is not the end of a list
abbrev pub node_at : ℕ → ℕ → Option ℕ
node_at nodes place = if nat_lt place nodes then Some place else None

-- a place in the ring of a list
abbrev pub IsInRing : ℕ → ℕ → Lists → Type 0
IsInRing place list s = (holds place (list_at list s) ≡ true) ⊎ (place ≡ s.nodes + list)

-- a node in no list can be put in front of a place
pub record CanPut (s : Lists) (list node place : ℕ) : Type 0 where
  pub list_below : list < length s.lists
  pub node_below : node < s.nodes
  pub free : list_of node s ≡ None
  pub in_ring : IsInRing place list s

-- the nodes with one put in front of a place of their ring: at the end, where none of them is there
abbrev pub put_at : ℕ → ℕ → List ℕ → List ℕ
put_at node place [] = node ∷ []
put_at node place (x ∷ xs) =
    if place == x then node ∷ x ∷ xs else x ∷ put_at node place xs

-- the lists with a node put in front of a place of one of them
abbrev pub put_in : ℕ → ℕ → ℕ → Lists → Lists
put_in list node place s = with_list list (put_at node place (list_at list s)) s

-- the list of each place where no node is in one
abbrev pub first_owners : ℕ → ℕ → List (Option ℕ)
first_owners nodes lists = replicate nodes None ++ map (λ k. Some k) (range_with_len 0 lists)
