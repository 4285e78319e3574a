-- A node that is put into a list and taken out again.
use Rattle.std.proofs.Common.{◌≡◌, ◌∙◌, ℕ, Bool, true, false, cond, not, eqb, None, List, [], ◌∷◌, ◌++◌, map, get_or, refl, ap}
use Rattle.std.proofs.lemmas.Bool.{ne_eqb, eq-eqb}
use Rattle.std.proofs.lemmas.List.{append-nil, map-set, set-get_or}
use Rattle.std.proofs.lemmas.List.Elements.{filter-append}
use Rattle.std.proofs.lemmas.Simd.{map-map}
use Rattle.iop_cblock.specs.Lists.{Lists, holds, list_at, list_of, without, in_front, inserted_before, unlinked, with_list}
use Rattle.iop_cblock.specs.Laws.{IsUndone}
use Rattle.iop_cblock.proofs.Rings.{lacks-head, lacks-tail}
use Rattle.iop_cblock.proofs.Changes.{without-lacks}
use Rattle.iop_cblock.proofs.Mapping.{map-none, in_front-lacks}
use Rattle.iop_cblock.proofs.Reading.{lacks-free}

without-itself : (node : ℕ) (xs : List ℕ) → without node (node ∷ xs) ≡ without node xs
without-itself node xs = rw (eq-eqb node node refl) refl

without_in_front_by : (b : Bool) (node other y : ℕ) (ys : List ℕ) → holds node (y ∷ ys) ≡ false
    → without node (in_front node other ys) ≡ ys
    → without node (cond b (node ∷ y ∷ ys) (y ∷ in_front node other ys)) ≡ y ∷ ys
without_in_front_by true node other y ys h ih =
    without-itself node (y ∷ ys) ∙ without-lacks node (y ∷ ys) h
without_in_front_by false node other y ys h ih =
    rw (ne_eqb node y (lacks-head node y ys h)) (ap (λ zs. y ∷ zs) ih)

without-in_front : (node other : ℕ) (xs : List ℕ) → holds node xs ≡ false
    → without node (in_front node other xs) ≡ xs
without-in_front node other [] h = refl
without-in_front node other (y ∷ ys) h =
    without_in_front_by (eqb other y) node other y ys h
    (without-in_front node other ys (lacks-tail node y ys h))

module _ (node : ℕ) (s : Lists) (free : list_of node s ≡ None) where
  stays : map (without node) s.lists ≡ s.lists
  stays =
      map-none (without node) s.lists []
      (λ j h. without-lacks node (get_or s.lists j []) (lacks-free node s free j))

  -- a list that is as before once the node is taken out
  undone : (list : ℕ) (ys : List ℕ) → without node ys ≡ list_at list s
      → unlinked node (with_list list ys s) ≡ s
  undone list ys e =
      rw (map-set (without node) s.lists list ys, stays, e, set-get_or s.lists list []) refl

  pub is_undone : IsUndone node s
  is_undone =
      record {
        back = λ list.
            let xs = list_at list s in
            undone list (xs ++ node ∷ [])
            (filter-append (λ x. not (eqb node x)) xs (node ∷ [])
            ∙ ap (λ ys. without node xs ++ ys) (without-itself node [])
            ∙ append-nil (without node xs) ∙ without-lacks node xs (lacks-free node s free list));
        front = λ list.
            let xs = list_at list s in
            undone list (node ∷ xs)
            (without-itself node xs ∙ without-lacks node xs (lacks-free node s free list));
        before = λ other.
            let same =
            map-map (without node) (in_front node other) s.lists
            ∙ map-none (λ xs. without node (in_front node other xs)) s.lists []
            (λ j h. without-in_front node other (get_or s.lists j []) (lacks-free node s free j)) in
            rw same refl;
      }

-- where the other node is in no list nothing is put in
pub inserted_before-free : (node other : ℕ) (s : Lists) → list_of other s ≡ None
    → s ≡ inserted_before node other s
inserted_before-free node other s free =
    let same =
    map-none (in_front node other) s.lists []
    (λ j h. in_front-lacks node other (get_or s.lists j []) (lacks-free other s free j)) in
    rw same refl
