-- Where a name stands in a list of names.
use Rattle.std.proofs.Common.{◌≡◌, ◌+◌, Bool, not, cond, Some, None, List, [], ◌∷◌, map, length, refl, ap, ◌∙◌}
use Rattle.std.proofs.lemmas.List.{length-map}
use Rattle.std.specs.List.{position, prefix_len}
use Rattle.std.specs.Prelude.{nat_lt}

prefix_len-map : {A B : Type 0} (f : A → B) (p : B → Bool) (xs : List A) →
    prefix_len p (map f xs) ≡ prefix_len (λ x. p (f x)) xs
prefix_len-map f p [] = refl
prefix_len-map f p (x ∷ xs) = ap (λ n. cond (p (f x)) (1 + n) 0) (prefix_len-map f p xs)

pub position-map : {A B : Type 0} (f : A → B) (p : B → Bool) (xs : List A) →
    position p (map f xs) ≡ position (λ x. p (f x)) xs
position-map f p xs =
    let k = prefix_len (λ x. not (p (f x))) xs in
    ap (λ n. cond (nat_lt n (length (map f xs))) (Some n) None) (prefix_len-map f (λ y. not (p y)) xs)
    ∙ ap (λ m. cond (nat_lt k m) (Some k) None) (length-map xs f)
