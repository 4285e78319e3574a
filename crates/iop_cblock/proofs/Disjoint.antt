-- Lists that are linked have no node twice.
use Rattle.std.proofs.Common.{◌≡◌, ◌≢◌, ℕ, ◌<◌, true, false, ⊎_elim, Some, List, [], ◌∷◌, length, arith}
use Rattle.std.specs.List.{All, AllPairs}
use Rattle.std.proofs.lemmas.Bool.{cases_lt}
use Rattle.std.proofs.lemmas.List.{get_or_past}
use Rattle.std.proofs.lemmas.List.Elements.{All-nil, All-cons}
use Rattle.std.proofs.lemmas.List.Kept.{AllPairs-cons}
use Rattle.iop_cblock.specs.Lists.{Lists, AreDisjoint, holds, list_at}
use Rattle.iop_cblock.specs.Links.{Links, owner_at, AreOwned, AreApart, linked_lists}
use Rattle.iop_cblock.proofs.Rings.{lacks-head, lacks-tail}
use Rattle.iop_cblock.proofs.Owners.{stands}
use Rattle.iop_cblock.proofs.Standing.{StandFor, view_from}

all_below : (t : Links) (list : ℕ) (xs : List ℕ) → AreOwned t list xs
    → All (λ node. node < t.nodes) xs
all_below t list [] o = All-nil (λ node. node < t.nodes)
all_below t list (x ∷ xs) o =
    All-cons (λ node. node < t.nodes) x xs o.0 (all_below t list xs o.2)

all_others : (x : ℕ) (xs : List ℕ) → holds x xs ≡ false → All (λ y. x ≢ y) xs
all_others x [] h = All-nil (λ y. x ≢ y)
all_others x (y ∷ ys) h =
    All-cons (λ z. x ≢ z) y ys (lacks-head x y ys h) (all_others x ys (lacks-tail x y ys h))

all_pairs : (xs : List ℕ) → AreApart xs → AllPairs (λ x y. x ≢ y) xs
all_pairs [] a = λ i j d before below. absurd (omega arith)
all_pairs (x ∷ xs) a =
    AllPairs-cons (λ x y. x ≢ y) x xs (all_others x xs a.0) (all_pairs xs a.1)

module _ (t : Links) (s : Lists) (f : StandFor t s) where
  below : (list : ℕ) → All (λ node. node < s.nodes) (list_at list s)
  below list =
      ⊎_elim
      (λ h. rw (← f.nodes) (all_below t list (list_at list s) (f.linked.rings list h).owned))
      (λ h. rw (get_or_past s.lists list [] h) (All-nil (λ node. node < s.nodes)))
      (cases_lt list (length s.lists))

  once : (list : ℕ) → AllPairs (λ x y. x ≢ y) (list_at list s)
  once list =
      ⊎_elim
      (λ h. all_pairs (list_at list s) (f.linked.rings list h).apart)
      (λ h. rw (get_or_past s.lists list [] h) (all_pairs [] tt))
      (cases_lt list (length s.lists))

  owner-in : (node list : ℕ) → holds node (list_at list s) ≡ true
      → owner_at t node ≡ Some list
  owner-in node list h =
      ⊎_elim
      (λ b. (stands t list node (list_at list s) (f.linked.rings list b).owned h).owner)
      (λ b. let none : list_at list s ≡ [] = get_or_past s.lists list [] b in
      let absent : holds node [] ≡ true = rw none at h in cc)
      (cases_lt list (length s.lists))

  pub disjoint-from : AreDisjoint s
  disjoint-from =
      record {
        below = below;
        once = once;
        in_one = λ node j k hj hk.
            let ej = owner-in node j hj in
            let ek = owner-in node k hk in
            let same : j ≡ k = cc in
            same;
      }

-- the same of the lists that the links make
pub view_disjoint : (t : Links) (s : Lists) → StandFor t s → AreDisjoint (linked_lists t)
view_disjoint t s f = rw (view_from t s f) (disjoint-from t s f)
