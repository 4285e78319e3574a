-- How a cursor walks the nodes of a list, from the first one on to the one behind each.
use Rattle.std.proofs.Common.{◌≡◌, ◌≢◌, ◌∙◌, ℕ, zero, suc, ◌<◌, ◌≤◌, Bool, true, false, cond, eqb, nat_eq, Option, Some, None, List, [], ◌∷◌, ◌++◌, append-nil, length, get_or, refl, sym, ap, subst, arith}
use Rattle.std.specs.List.{All, AllPairs}
use Rattle.std.proofs.lemmas.Bool.{eq-eqb, ne_eqb, eqb-true, or_right, false_from_ne_true}
use Rattle.std.proofs.lemmas.Bool.Decides.{Decides-eqb, nat_tests}
use Rattle.std.proofs.lemmas.List.Folds.{Any-from_list_any, list_any_none}
use Rattle.std.proofs.lemmas.Map.Made.{IsDistinct-from_AllPairs}
use Rattle.std.proofs.lemmas.Map.Steps.{length-le_from_distinct_below}
use Rattle.iop_base.proofs.Searching.{position-at}
use Rattle.iop_cblock.specs.Lists.{Lists, AreDisjoint, holds, head, behind, list_at, list_of, next_of}
use Rattle.iop_cblock.specs.Links.{AreApart}
use Rattle.iop_cblock.proofs.Rings.{holds-tail}
use Rattle.iop_cblock.proofs.Changes.{not_lacked}
use Rattle.iop_queues.specs.Walks.{from, ahead, IsInside}

-- the nodes in front of one
abbrev pub before : ℕ → List ℕ → List ℕ
before node [] = []
before node (x ∷ xs) = cond (eqb node x) [] (x ∷ before node xs)

-- the nodes that a cursor has passed
abbrev pub passed : Option ℕ → List ℕ → List ℕ
passed None xs = xs
passed (Some node) xs = before node xs

before-from : (node : ℕ) (xs : List ℕ) → before node xs ++ from node xs ≡ xs
before-from node [] = refl
before-from node (x ∷ xs) = grind (arith, nat_tests, before-from node xs)

pub passed-ahead : (cursor : Option ℕ) (xs : List ℕ) → passed cursor xs ++ ahead cursor xs ≡ xs
passed-ahead None xs = append-nil xs
passed-ahead (Some node) xs = before-from node xs

-- at first it stands at the first node
pub inside-head : (xs : List ℕ) → IsInside (head xs) xs
inside-head [] = tt
inside-head (x ∷ xs) = rw (eq-eqb x x refl) refl

pub passed-head : (xs : List ℕ) → passed (head xs) xs ≡ []
passed-head [] = refl
passed-head (x ∷ xs) = rw (eq-eqb x x refl) refl

pub ahead-head : (xs : List ℕ) → ahead (head xs) xs ≡ xs
ahead-head [] = refl
ahead-head (x ∷ xs) = rw (eq-eqb x x refl) refl

-- the same cursor where one more node stands in front
module _ (x : ℕ) (xs : List ℕ) where
  inside-cons : (cursor : Option ℕ) → IsInside cursor xs → IsInside cursor (x ∷ xs)
  inside-cons None inside = tt
  inside-cons (Some node) inside = or_right (eqb node x) (holds node xs) inside

  module _ (lacks : holds x xs ≡ false) where
    passed-cons : (cursor : Option ℕ) → IsInside cursor xs
        → passed cursor (x ∷ xs) ≡ x ∷ passed cursor xs
    passed-cons None inside = refl
    passed-cons (Some node) inside = rw (ne_eqb node x (not_lacked node x xs inside lacks)) refl

    ahead-cons : (cursor : Option ℕ) → IsInside cursor xs → ahead cursor (x ∷ xs) ≡ ahead cursor xs
    ahead-cons None inside = refl
    ahead-cons (Some node) inside = rw (ne_eqb node x (not_lacked node x xs inside lacks)) refl

-- a cursor goes on from a node
pub record IsStep (cursor next : Option ℕ) (node : ℕ) (xs : List ℕ) : Type 0 where
  pub inside : IsInside next xs
  pub passed_is : passed next xs ≡ passed cursor xs ++ node ∷ []
  pub ahead_is : ahead cursor xs ≡ node ∷ ahead next xs

step_here : (x : ℕ) (xs : List ℕ) → holds x xs ≡ false
    → IsStep (Some x) (behind x (x ∷ xs)) x (x ∷ xs)
step_here x xs lacks =
    let here = eq-eqb x x refl in
    let inside = inside-head xs in
    rw here (record {
      inside = inside-cons x xs (head xs) inside;
      passed_is = rw here
          (passed-cons x xs lacks (head xs) inside ∙ ap (λ ys. x ∷ ys) (passed-head xs));
      ahead_is = rw here
          (ap (λ ys. x ∷ ys) (sym (ahead-cons x xs lacks (head xs) inside ∙ ahead-head xs)));
    })

step_later : (node x : ℕ) (xs : List ℕ) → eqb node x ≡ false → holds x xs ≡ false
    → IsStep (Some node) (behind node xs) node xs
    → IsStep (Some node) (behind node (x ∷ xs)) node (x ∷ xs)
step_later node x xs other lacks h =
    let next = behind node xs in
    rw other (record {
      inside = inside-cons x xs next h.inside;
      passed_is = rw other
          (passed-cons x xs lacks next h.inside ∙ ap (λ ys. x ∷ ys) h.passed_is);
      ahead_is = rw other
          (h.ahead_is ∙ ap (λ ys. node ∷ ys) (sym (ahead-cons x xs lacks next h.inside)));
    })

step_by : (b : Bool) (node x : ℕ) (xs : List ℕ) → eqb node x ≡ b → holds x xs ≡ false
    → (holds node xs ≡ true → IsStep (Some node) (behind node xs) node xs)
    → holds node (x ∷ xs) ≡ true → IsStep (Some node) (behind node (x ∷ xs)) node (x ∷ xs)
step_by true node x xs e lacks later held =
    subst (λ n. IsStep (Some n) (behind n (x ∷ xs)) n (x ∷ xs)) (sym (eqb-true node x e))
    (step_here x xs lacks)
step_by false node x xs e lacks later held =
    step_later node x xs e lacks (later (holds-tail node x xs e held))

step_behind : (node : ℕ) (xs : List ℕ) → AreApart xs → holds node xs ≡ true
    → IsStep (Some node) (behind node xs) node xs
step_behind node [] apart held = cc
step_behind node (x ∷ xs) apart held =
    step_by (eqb node x) node x xs refl apart.0 (step_behind node xs apart.1) held

apart_from : (xs : List ℕ) → AllPairs (λ x y. x ≢ y) xs → AreApart xs
apart_from [] once = tt
apart_from (x ∷ xs) once = (
  list_any_none (nat_eq x) xs
      (λ k d below. ne_eqb x (get_or xs k d) (once zero (suc k) d (omega arith) (omega arith))),
  apart_from xs (λ i j d less below. once (suc i) (suc j) d (omega arith) (omega arith)),
)

pub holds-between : (node : ℕ) (front back : List ℕ) → holds node (front ++ node ∷ back) ≡ true
holds-between node [] back = rw (eq-eqb node node refl) refl
holds-between node (x ∷ xs) back =
    or_right (eqb node x) (holds node (xs ++ node ∷ back)) (holds-between node xs back)

-- what holds of all nodes holds of one that stands among them
pub All-held : (P : ℕ → Type 0) (node : ℕ) (xs : List ℕ) → All P xs → holds node xs ≡ true
    → P node
All-held P node xs all held =
    let any = Any-from_list_any (nat_eq node) xs held in
    subst P (any.3 ∙ sym (eqb-true node any.1 any.4)) (all any.0 any.1 any.2)

module _ (list : ℕ) (s : Lists) (apart : AreDisjoint s) where
  pub below-held : (node : ℕ) → holds node (list_at list s) ≡ true → node < s.nodes
  below-held node held = All-held (λ n. n < s.nodes) node (list_at list s) (apart.below list) held

  -- a list has no more nodes than there are
  pub length-list : length (list_at list s) ≤ s.nodes
  length-list =
      length-le_from_distinct_below (list_at list s) s.nodes
      (IsDistinct-from_AllPairs Decides-eqb (list_at list s) (apart.once list)) below-held

  module _ (list_below : list < length s.lists) where
    list_of-held : (node : ℕ) → holds node (list_at list s) ≡ true → list_of node s ≡ Some list
    list_of-held node held =
        position-at (holds node) s.lists [] list list_below held
        (λ j less. false_from_ne_true (holds node (list_at j s))
        (λ other. let same : j ≡ list = apart.in_one node j list other held in
        absurd (omega arith)))

    next_of-held : (node : ℕ) → holds node (list_at list s) ≡ true
        → next_of node s ≡ behind node (list_at list s)
    next_of-held node held = rw (list_of-held node held) refl

    pub steps : (cursor next : Option ℕ) (node : ℕ) → cursor ≡ Some node
        → holds node (list_at list s) ≡ true → next ≡ next_of node s
        → IsStep cursor next node (list_at list s)
    steps cursor next node is held next_is =
        rw (is, next_is ∙ next_of-held node held)
        (step_behind node (list_at list s) (apart_from (list_at list s) (apart.once list)) held)
