-- The lists that the links make are those to which they belong.
use Rattle.std.proofs.Common.{◌≡◌, ◌∙◌, ℕ, zero, suc, ◌+◌, ◌-◌, ◌<◌, ◌≤◌, false, eqb, List, [], ◌∷◌, length, map, get_or, refl, ap, arith}
use Rattle.std.specs.List.{IsDistinct, AllByRecursion, range_with_len}
use Rattle.std.proofs.lemmas.Bool.{lt-ltb, le-ltb, ne_eqb}
use Rattle.std.proofs.lemmas.List.{same_lists, get_or_default}
use Rattle.std.proofs.lemmas.List.FromFn.{get_or-map-range_with_len, length-map-range_with_len}
use Rattle.std.proofs.lemmas.Map.Steps.{length-le_from_distinct_below}
use Rattle.iop_cblock.specs.Lists.{holds}
use Rattle.iop_cblock.specs.Links.{Links, next_at, previous_at, Chain, AreOwned, AreApart, IsRing, AreLinked, AreSound, nodes_from, ring_nodes, linked_lists}
use Rattle.iop_cblock.proofs.Rings.{lacks-head, lacks-tail}
use Rattle.iop_cblock.proofs.Owners.{stands}

nodes_from-chain : (t : Links) (list most a : ℕ) (xs : List ℕ) (b : ℕ)
    → Chain (next_at t) (previous_at t) a xs b → AreOwned t list xs → t.nodes ≤ b
    → length xs ≤ most → nodes_from most t (next_at t a) ≡ xs
nodes_from-chain t list zero a [] b c o n h = refl
nodes_from-chain t list (suc most) a [] b c o n h =
    rw (c.0, le-ltb b t.nodes n) refl
nodes_from-chain t list zero a (y ∷ ys) b c o n h = absurd (omega arith)
nodes_from-chain t list (suc most) a (y ∷ ys) b c o n h =
    rw (c.0, lt-ltb y t.nodes o.0)
    (ap (λ zs. y ∷ zs) (nodes_from-chain t list most y ys b c.2 o.2 n (omega arith)))

each_differs : (x : ℕ) (ys : List ℕ) → holds x ys ≡ false
    → AllByRecursion (λ y. eqb x y ≡ false) ys
each_differs x [] h = tt
each_differs x (y ∷ ys) h =
    (ne_eqb x y (lacks-head x y ys h), each_differs x ys (lacks-tail x y ys h))

distinct : (xs : List ℕ) → AreApart xs → IsDistinct eqb xs
unfolding IsDistinct
distinct [] a = tt
distinct (x ∷ xs) a = (each_differs x xs a.0, distinct xs a.1)

length-ring : (t : Links) (list : ℕ) (xs : List ℕ) → IsRing t list xs → length xs ≤ t.nodes
length-ring t list xs r =
    length-le_from_distinct_below xs t.nodes (distinct xs r.apart)
    (λ q h. (stands t list q xs r.owned h).below)

ring_nodes-is : (t : Links) (list : ℕ) (xs : List ℕ) → IsRing t list xs
    → ring_nodes t list ≡ xs
ring_nodes-is t list xs r =
    nodes_from-chain t list t.nodes (t.nodes + list) xs (t.nodes + list) r.linked r.owned
    (omega arith) (length-ring t list xs r)

made : (t : Links) → List (List ℕ)
made t = map (ring_nodes t) (range_with_len 0 (length t.next - t.nodes))

lists-are : (t : Links) (lists : List (List ℕ)) → AreLinked t lists
    → (linked_lists t).lists ≡ lists
lists-are t lists l =
    let count : length t.next - t.nodes ≡ length lists = omega (arith, l.next_length) in
    rw count (same_lists _ lists (length-map-range_with_len (ring_nodes t) 0 (length lists))
    (λ k d h.
    let inside : k < length lists =
    omega (arith, h, length-map-range_with_len (ring_nodes t) 0 (length lists)) in
    get_or-map-range_with_len (ring_nodes t) 0 (length lists) k k d inside (omega arith)
    ∙ ring_nodes-is t k (get_or lists k []) (l.rings k inside)
    ∙ get_or_default lists k [] d inside))

-- the links of lists make these
pub linked_lists-are : (t : Links) (lists : List (List ℕ)) → AreLinked t lists
    → linked_lists t ≡ record { nodes = t.nodes; lists = lists }
linked_lists-are t lists l = rw (lists-are t lists l) refl

-- and nothing else has to be shown of them
pub are_sound : (t : Links) (lists : List (List ℕ)) → AreLinked t lists → AreSound t
are_sound t lists l = rw (lists-are t lists l) l
