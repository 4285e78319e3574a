-- Lists of which one alone changes, and what a node put in front of a place of one leaves.
use Rattle.std.proofs.Common.{◌≡◌, ◌≢◌, ◌∙◌, ℕ, ◌<◌, Bool, true, false, cond, eqb, ⊎_elim, List, [], ◌∷◌, ◌++◌, length, map, get_or, set, refl, sym, ap, arith}
use Rattle.std.proofs.lemmas.Bool.{cases_eq, ne_eqb, eq-eqb}
use Rattle.std.proofs.lemmas.List.{same_lists, length-map, length-set, get_or-map, get_or-set_same, get_or-set_other, get_or_default}
use Rattle.iop_cblock.specs.Lists.{holds, in_front}
use Rattle.iop_cblock.specs.Links.{Chain, put_at}
use Rattle.iop_cblock.proofs.Rings.{lacks-head, lacks-tail, holds-tail}

module _ {X : Type 0} (f : X → X) (xs : List X) (e : X) where
  -- a function that changes none
  pub map-none : ((j : ℕ) → j < length xs → f (get_or xs j e) ≡ get_or xs j e) → map f xs ≡ xs
  map-none same =
      same_lists (map f xs) xs (length-map xs f) (λ k d h.
      let inside : k < length xs = omega (arith, h, length-map xs f) in
      get_or-map f xs k e d inside ∙ same k inside ∙ get_or_default xs k e d inside)

  map_one_at : (i k : ℕ) (d : X) → i < length xs → k < length xs
      → ((j : ℕ) → j < length xs → j ≢ i → f (get_or xs j e) ≡ get_or xs j e)
      → get_or (map f xs) k d ≡ get_or (set xs i (f (get_or xs i e))) k d
  map_one_at i k d hi hk same =
      ⊎_elim
      (λ q. rw q (get_or-map f xs i e d hi ∙ sym (get_or-set_same xs i (f (get_or xs i e)) d hi)))
      (λ ne. get_or-map f xs k e d hk ∙ same k hk ne ∙ get_or_default xs k e d hk
      ∙ sym (get_or-set_other xs i k (f (get_or xs i e)) d ne))
      (cases_eq k i)

  -- a function that changes one
  pub map-one : (i : ℕ) → i < length xs
      → ((j : ℕ) → j < length xs → j ≢ i → f (get_or xs j e) ≡ get_or xs j e)
      → map f xs ≡ set xs i (f (get_or xs i e))
  map-one i hi same =
      same_lists (map f xs) (set xs i (f (get_or xs i e)))
      (length-map xs f ∙ sym (length-set xs i (f (get_or xs i e)))) (λ k d h.
      map_one_at i k d hi (omega (arith, h, length-map xs f)) same)

pub in_front-lacks : (node place : ℕ) (xs : List ℕ) → holds place xs ≡ false
    → in_front node place xs ≡ xs
in_front-lacks node place [] h = refl
in_front-lacks node place (y ∷ ys) h =
    rw (ne_eqb place y (lacks-head place y ys h))
    (ap (λ zs. y ∷ zs) (in_front-lacks node place ys (lacks-tail place y ys h)))

in_front_by : (b : Bool) (node place y : ℕ) (ys : List ℕ) → eqb place y ≡ b
    → (holds place ys ≡ true → in_front node place ys ≡ put_at node place ys)
    → holds place (y ∷ ys) ≡ true
    → cond b (node ∷ y ∷ ys) (y ∷ in_front node place ys)
    ≡ cond b (node ∷ y ∷ ys) (y ∷ put_at node place ys)
in_front_by true node place y ys e ih h = refl
in_front_by false node place y ys e ih h = ap (λ zs. y ∷ zs) (ih (holds-tail place y ys e h))

pub in_front-put_at : (node place : ℕ) (xs : List ℕ) → holds place xs ≡ true
    → in_front node place xs ≡ put_at node place xs
in_front-put_at node place [] h = cc
in_front-put_at node place (y ∷ ys) h =
    in_front_by (eqb place y) node place y ys refl (in_front-put_at node place ys) h

pub put_at-lacks : (node place : ℕ) (xs : List ℕ) → holds place xs ≡ false
    → put_at node place xs ≡ xs ++ node ∷ []
put_at-lacks node place [] h = refl
put_at-lacks node place (y ∷ ys) h =
    rw (ne_eqb place y (lacks-head place y ys h))
    (ap (λ zs. y ∷ zs) (put_at-lacks node place ys (lacks-tail place y ys h)))

-- in front of the place behind a chain's start
pub put_at-first : (next previous : ℕ → ℕ) (node a : ℕ) (xs : List ℕ) (b : ℕ)
    → Chain next previous a xs b → put_at node (next a) xs ≡ node ∷ xs
put_at-first next previous node a [] b c = refl
put_at-first next previous node a (y ∷ ys) b c = rw (eq-eqb (next a) y c.0) refl
