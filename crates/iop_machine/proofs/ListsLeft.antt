-- What is left of a list of events or modules that is looked at one after the other.
use Rattle.std.proofs.Common.{◌≡◌, ℕ, suc, ◌+◌, ◌<◌, List, ◌∷◌, length, drop, get_or, drop-cons, ap, sym, ◌∙◌, arith}

-- the list that is left begins with the element at the index
pub left_at : {X : Type 0} (xs : List X) (i : ℕ) (x : X) → i < length xs
    → drop i xs ≡ get_or xs i x ∷ drop (i + 1) xs
left_at xs i x inside =
    let next : suc i ≡ i + 1 = omega arith in
    drop-cons xs i x inside ∙ ap (λ n. get_or xs i x ∷ drop n xs) next

pub left_is : {X : Type 0} (xs : List X) (i : ℕ) (x : X) → i < length xs → x ≡ get_or xs i x
    → drop i xs ≡ x ∷ drop (i + 1) xs
left_is xs i x inside is = left_at xs i x inside ∙ ap (λ y. y ∷ drop (i + 1) xs) (sym is)
