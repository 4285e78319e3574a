-- Where a node stands that was put into a list.
use Rattle.std.proofs.Common.{◌≡◌, ◌∙◌, ℕ, ◌<◌, Bool, true, false, cond, eqb, Option, Some, None, List, [], ◌∷◌, ◌++◌, length, map, refl, sym, ap, arith, IsSome}
use Rattle.std.proofs.lemmas.Bool.{ne_eqb, eq-eqb, eqb-true, or_right}
use Rattle.std.proofs.lemmas.List.{length-map, get_or-map}
use Rattle.std.proofs.lemmas.List.Quantifiers.{position-Some}
use Rattle.iop_base.proofs.Searching.{position-at}
use Rattle.iop_cblock.specs.Lists.{Lists, holds, head, behind, list_at, list_of, next_of, in_front, pushed_back, pushed_front, inserted_before}
use Rattle.iop_cblock.specs.Laws.{IsPlaced}
use Rattle.iop_cblock.proofs.Rings.{lacks-head, lacks-tail, holds-tail}
use Rattle.iop_cblock.proofs.Mapping.{in_front-lacks}
use Rattle.iop_cblock.proofs.Reading.{lacks-free, list_at-same, list_of-with_list, next_of-at}

holds-itself : (node : ℕ) (xs : List ℕ) → holds node (node ∷ xs) ≡ true
holds-itself node xs = rw (eq-eqb node node refl) refl

holds-last : (node : ℕ) (xs : List ℕ) → holds node (xs ++ node ∷ []) ≡ true
holds-last node [] = holds-itself node []
holds-last node (y ∷ ys) = or_right (eqb node y) (holds node (ys ++ node ∷ [])) (holds-last node ys)

behind-last : (node : ℕ) (xs : List ℕ) → holds node xs ≡ false
    → behind node (xs ++ node ∷ []) ≡ None
behind-last node [] h = rw (eq-eqb node node refl) refl
behind-last node (y ∷ ys) h =
    rw (ne_eqb node y (lacks-head node y ys h)) (behind-last node ys (lacks-tail node y ys h))

-- a node in front of another: that it is there, and what is behind it
record IsInFront (node other : ℕ) (xs : List ℕ) : Type 0 where
  here : holds node xs ≡ true
  next : behind node xs ≡ Some other

in_front_by : (b : Bool) (node other y : ℕ) (ys : List ℕ) → eqb other y ≡ b
    → holds node (y ∷ ys) ≡ false
    → (holds other ys ≡ true → IsInFront node other (in_front node other ys))
    → holds other (y ∷ ys) ≡ true
    → IsInFront node other (cond b (node ∷ y ∷ ys) (y ∷ in_front node other ys))
in_front_by true node other y ys e l ih h =
    record {
      here = holds-itself node (y ∷ ys);
      next = rw (eq-eqb node node refl) (ap (λ z. Some z) (sym (eqb-true other y e)));
    }
in_front_by false node other y ys e l ih h =
    let later = ih (holds-tail other y ys e h) in
    record {
      here = or_right (eqb node y) (holds node (in_front node other ys)) later.here;
      next = rw (ne_eqb node y (lacks-head node y ys l)) later.next;
    }

is_in_front : (node other : ℕ) (xs : List ℕ) → holds node xs ≡ false → holds other xs ≡ true
    → IsInFront node other (in_front node other xs)
is_in_front node other [] l h = cc
is_in_front node other (y ∷ ys) l h =
    in_front_by (eqb other y) node other y ys refl l
    (is_in_front node other ys (lacks-tail node y ys l)) h

module _ (node : ℕ) (s : Lists) (free : list_of node s ≡ None) where
  back-list : (list : ℕ) → list < length s.lists
      → list_of node (pushed_back list node s) ≡ Some list
  back-list list h =
      let xs = list_at list s in
      list_of-with_list node s free list h (xs ++ node ∷ []) (holds-last node xs)

  back-next : (list : ℕ) → list < length s.lists
      → next_of node (pushed_back list node s) ≡ None
  back-next list h =
      let ys = list_at list s ++ node ∷ [] in
      next_of-at node list (pushed_back list node s) (back-list list h)
      ∙ ap (behind node) (list_at-same list ys s h)
      ∙ behind-last node (list_at list s) (lacks-free node s free list)

  front-list : (list : ℕ) → list < length s.lists
      → list_of node (pushed_front list node s) ≡ Some list
  front-list list h =
      let xs = list_at list s in
      list_of-with_list node s free list h (node ∷ xs) (holds-itself node xs)

  front-first : (list : ℕ) → list < length s.lists
      → head (list_at list (pushed_front list node s)) ≡ Some node
  front-first list h = ap head (list_at-same list (node ∷ list_at list s) s h)

  module _ (other k : ℕ) (stands : list_of other s ≡ Some k) where
    found : (k < length s.lists) × (holds other (list_at k s) ≡ true)
        × ((j : ℕ) → j < k → holds other (list_at j s) ≡ false)
    found = position-Some (holds other) s.lists k [] stands

    front : IsInFront node other (in_front node other (list_at k s))
    front = is_in_front node other (list_at k s) (lacks-free node s free k) found.1

    at : (j : ℕ) → j < length s.lists
        → list_at j (inserted_before node other s) ≡ in_front node other (list_at j s)
    at j h = get_or-map (in_front node other) s.lists j [] [] h

    before-list : list_of node (inserted_before node other s) ≡ Some k
    before-list =
        position-at (holds node) (map (in_front node other) s.lists) [] k
        (omega (arith, found.0, length-map s.lists (in_front node other)))
        (ap (holds node) (at k found.0) ∙ front.here)
        (λ j b.
        let inside : j < length s.lists = omega (arith, b, found.0) in
        ap (holds node) (at j inside ∙ in_front-lacks node other (list_at j s) (found.2 j b))
        ∙ lacks-free node s free j)

    before-next : next_of node (inserted_before node other s) ≡ Some other
    before-next =
        next_of-at node k (inserted_before node other s) before-list
        ∙ ap (behind node) (at k found.0) ∙ front.next

  before-by : (other : ℕ) (o : Option ℕ) → list_of other s ≡ o → IsSome o
      → next_of node (inserted_before node other s) ≡ Some other
  before-by other None e some = cc
  before-by other (Some k) e some = before-next other k e

  pub is_placed : IsPlaced node s
  is_placed =
      record {
        list = back-list;
        last = back-next;
        front_list = front-list;
        first = front-first;
        before = λ other some. before-by other (list_of other s) refl some;
      }
