-- The list that each node of a ring names as its own.
use Rattle.std.proofs.Common.{◌≡◌, ◌≢◌, ◌∙◌, ℕ, ◌+◌, ◌<◌, ◌≤◌, Bool, true, false, eqb, Option, Some, None, List, [], ◌∷◌, get_or, refl, sym, ap, arith}
use Rattle.std.proofs.lemmas.Bool.{eqb-true, false_from_ne_true}
use Rattle.std.specs.List.{position}
use Rattle.iop_base.proofs.Searching.{position-at, position-none}
use Rattle.iop_cblock.specs.Lists.{holds}
use Rattle.iop_cblock.specs.Links.{Links, owner_at, AreOwned, IsRing, AreLinked}
use Rattle.iop_cblock.proofs.Rings.{holds-tail, Misses}

-- a node that stands in a list
pub record Stands (t : Links) (list node : ℕ) : Type 0 where
  pub below : node < t.nodes
  pub owner : owner_at t node ≡ Some list

stands_by : (t : Links) (list x y : ℕ) (ys : List ℕ) (b : Bool) → eqb x y ≡ b
    → (holds x ys ≡ true → Stands t list x) → AreOwned t list (y ∷ ys)
    → holds x (y ∷ ys) ≡ true → Stands t list x
stands_by t list x y ys true e ih o h =
    let same = eqb-true x y e in
    rw same (record { below = o.0; owner = o.1 })
stands_by t list x y ys false e ih o h = ih (holds-tail x y ys e h)

pub stands : (t : Links) (list x : ℕ) (xs : List ℕ) → AreOwned t list xs → holds x xs ≡ true
    → Stands t list x
stands t list x [] o h = cc
stands t list x (y ∷ ys) o h =
    stands_by t list x y ys (eqb x y) refl (stands t list x ys o.2) o h

-- what is in another list is not in this one
pub lacks_other : (t : Links) (list x : ℕ) (xs : List ℕ) → AreOwned t list xs
    → owner_at t x ≢ Some list → holds x xs ≡ false
lacks_other t list x xs o ne =
    false_from_ne_true (holds x xs) (λ h. ne (stands t list x xs o h).owner)

-- what is no node is in no list
pub lacks_end : (t : Links) (list x : ℕ) (xs : List ℕ) → AreOwned t list xs → t.nodes ≤ x
    → holds x xs ≡ false
lacks_end t list x xs o h =
    false_from_ne_true (holds x xs)
    (λ e. let s = (stands t list x xs o e).below in absurd (omega arith))

pub misses_other : (t : Links) (list p : ℕ) (xs : List ℕ) → IsRing t list xs
    → owner_at t p ≢ Some list → Misses p (t.nodes + list) xs
misses_other t list p xs r ne =
    record {
      first = λ e. ne (ap (owner_at t) e ∙ r.end);
      others = lacks_other t list p xs r.owned ne;
    }

owner_by : (t : Links) (lists : List (List ℕ)) → AreLinked t lists → (node : ℕ) → node < t.nodes
    → (o : Option ℕ) → owner_at t node ≡ o → o ≡ position (holds node) lists
owner_by t lists l node b None e =
    sym (position-none (holds node) lists [] (λ j h.
    lacks_other t j node (get_or lists j []) (l.rings j h).owned (λ q. cc)))
owner_by t lists l node b (Some k) e =
    let held = l.held node k b e in
    sym (position-at (holds node) lists [] k held.0 held.1 (λ j h.
    lacks_other t j node (get_or lists j []) (l.rings j (omega (arith, h, held.0))).owned
    (λ q. let same : j ≡ k = cc in absurd (omega arith))))

-- the list of a node is the one in which it stands
pub owner-position : (t : Links) (lists : List (List ℕ)) → AreLinked t lists → (node : ℕ)
    → node < t.nodes → owner_at t node ≡ position (holds node) lists
owner-position t lists l node b = owner_by t lists l node b (owner_at t node) refl
