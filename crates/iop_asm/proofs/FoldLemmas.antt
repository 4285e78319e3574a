-- What a loop makes of a list, one element after another.
use Rattle.std.proofs.Common.{◌≡◌, ◌<◌, List, [], ◌∷◌, ◌++◌, length, take, fold, get_or, ap, sym, ◌∙◌, arith}
use Rattle.std.proofs.lemmas.List.{take_more, take_all, length_push}
use Rattle.std.proofs.lemmas.List.Sums.{fold-append}

-- the next of all elements
pub fold-take_more : {A B C : Type 0} (f : C → B → C) (c : C) (all : List B) (xs : List A) (y : A)
    (z : B) → length xs < length all → z ≡ get_or all (length xs) z →
    fold f c (take (length (xs ++ y ∷ [])) all) ≡ f (fold f c (take (length xs) all)) z
fold-take_more f c all xs y z inside is =
    ap (λ n. fold f c (take n all)) (length_push xs y)
    ∙ ap (fold f c) (take_more all (length xs) z inside)
    ∙ fold-append f c (take (length xs) all) (get_or all (length xs) z ∷ [])
    ∙ ap (f (fold f c (take (length xs) all))) (sym is)

-- all elements
pub fold-take_all : {A B C : Type 0} (f : C → B → C) (c : C) (all : List B) (xs : List A) →
    length xs ≡ length all → fold f c (take (length xs) all) ≡ fold f c all
fold-take_all f c all xs e = ap (fold f c) (take_all (length xs) all (omega (arith, e)))

-- five lists, one after the other
pub fold-five : {B C : Type 0} (f : C → B → C) (c : C) (p q r s t : List B) →
    fold f c (p ++ q ++ r ++ s ++ t) ≡ fold f (fold f (fold f (fold f (fold f c p) q) r) s) t
fold-five f c p q r s t = simp fold-append
