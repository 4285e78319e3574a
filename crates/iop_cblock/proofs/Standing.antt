-- The links that stand for lists, and what they say of the places of one list.
use Rattle.std.proofs.Common.{◌≡◌, ◌∙◌, ℕ, ◌+◌, ◌<◌, true, inl, inr, ⊎_elim, Some, None, List, [], ◌∷◌, length, refl, ap, arith}
use Rattle.std.proofs.lemmas.Bool.{cases_lt}
use Rattle.std.proofs.lemmas.List.{get_or_past}
use Rattle.iop_cblock.specs.Lists.{Lists, holds, list_of}
use Rattle.iop_cblock.specs.Links.{Links, next_at, previous_at, owner_at, Chain, IsRing, AreLinked, AreSound, linked_lists}
use Rattle.iop_cblock.proofs.Rings.{IsIn, previous-in, next-in, in-behind}
use Rattle.iop_cblock.proofs.Changes.{IsOpen}
use Rattle.iop_cblock.proofs.Owners.{stands, lacks_end, owner-position}
use Rattle.iop_cblock.proofs.Walks.{linked_lists-are, are_sound}

pub record StandFor (t : Links) (s : Lists) : Type 0 where
  pub nodes : t.nodes ≡ s.nodes
  pub linked : AreLinked t s.lists

pub stand_for : (t : Links) (s : Lists) → AreSound t → linked_lists t ≡ s → StandFor t s
stand_for t s sound e = rw (← e) (record { nodes = refl; linked = sound })

pub sound_from : (t : Links) (s : Lists) → StandFor t s → AreSound t
sound_from t s f = are_sound t s.lists f.linked

pub view_from : (t : Links) (s : Lists) → StandFor t s → linked_lists t ≡ s
view_from t s f = rw (linked_lists-are t s.lists f.linked, f.nodes) refl

-- a place that is in a list is one of the table
pub owner-below : (t : Links) (place list : ℕ) → owner_at t place ≡ Some list
    → place < length t.owner
owner-below t place list e =
    ⊎_elim (λ h. h)
    (λ h. let none : owner_at t place ≡ None = get_or_past t.owner place None h in cc)
    (cases_lt place (length t.owner))

module _ (t : Links) (s : Lists) (f : StandFor t s) (place list : ℕ)
    (is : owner_at t place ≡ Some list) where
  pub in_next : place < length t.next
  in_next =
      let inside = owner-below t place list is in
      omega (arith, inside, f.linked.next_length, f.linked.owner_length)

  pub in_previous : place < length t.previous
  in_previous =
      let inside = owner-below t place list is in
      omega (arith, inside, f.linked.previous_length, f.linked.owner_length)

module _ (t : Links) (list : ℕ) (xs : List ℕ) (r : IsRing t list xs) where
  pub ring-owner : (p : ℕ) → IsIn p xs (t.nodes + list) → owner_at t p ≡ Some list
  ring-owner p (inl h) = (stands t list p xs r.owned h).owner
  ring-owner p (inr e) = ap (owner_at t) e ∙ r.end

  pub previous-owner : (p : ℕ) → IsIn p xs (t.nodes + list)
      → owner_at t (previous_at t p) ≡ Some list
  previous-owner p i =
      ring-owner (previous_at t p)
      (previous-in (next_at t) (previous_at t) (t.nodes + list) xs (t.nodes + list) p i r.linked)

  pub ring-open : IsOpen (next_at t) (previous_at t) (t.nodes + list) xs (t.nodes + list)
  ring-open =
      let lacks = lacks_end t list (t.nodes + list) xs r.owned (omega arith) in
      record { chain = r.linked; start = lacks; end = lacks; apart = r.apart }

next-in-chain : (nx pv : ℕ → ℕ) (a : ℕ) (xs : List ℕ) (b p : ℕ) → holds p xs ≡ true
    → Chain nx pv a xs b → IsIn (nx p) xs b
next-in-chain nx pv a [] b p h c = cc
next-in-chain nx pv a (y ∷ ys) b p h c =
    in-behind nx pv (nx p) y ys b (next-in nx pv y ys b p h c.2)

pub next-owner : (t : Links) (list : ℕ) (xs : List ℕ) → IsRing t list xs → (p : ℕ)
    → holds p xs ≡ true → owner_at t (next_at t p) ≡ Some list
next-owner t list xs r p h =
    ring-owner t list xs r (next_at t p)
    (next-in-chain (next_at t) (previous_at t) (t.nodes + list) xs (t.nodes + list) p h r.linked)

-- the table of lists answers in which list a node stands
pub owner-list_of : (t : Links) (s : Lists) → StandFor t s → (node : ℕ) → node < s.nodes
    → owner_at t node ≡ list_of node s
owner-list_of t s f node b = owner-position t s.lists f.linked node (omega (arith, b, f.nodes))
