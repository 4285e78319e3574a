-- Memory into which an image is put.
use Rattle.std.proofs.Common.{◌≡◌, ℕ, suc, ◌-◌, List, [], ◌∷◌, ◌++◌, length, drop, replicate, get_or, refl, ap, ◌∙◌, zero-add}
use Rattle.std.proofs.lemmas.List.{drop-replicate}
use Rattle.iop_base.specs.Numbers.{with_bytes}

-- a list with a zero at each place
all_zero : (xs : List ℕ) → ((p : ℕ) → get_or xs p 0 ≡ 0) → xs ≡ replicate (length xs) 0
all_zero [] h = refl
all_zero (x ∷ xs) h =
    let first : x ≡ 0 = h 0 in
    ap (λ y. y ∷ xs) first ∙ ap (λ ys. 0 ∷ ys) (all_zero xs (λ p. h (suc p)))

-- zeros of which the first are overwritten
pub put_first : (size : ℕ) (memory image : List ℕ) → length memory ≡ size
    → ((p : ℕ) → get_or memory p 0 ≡ 0)
    → with_bytes memory 0 image ≡ image ++ replicate (size - length image) 0
put_first size memory image long zeros =
    let all : memory ≡ replicate size 0 =
    all_zero memory zeros ∙ ap (λ n. replicate n 0) long in
    ap (λ rest. image ++ rest)
    (ap (λ n. drop n memory) (zero-add (length image))
    ∙ ap (λ m. drop (length image) m) all ∙ drop-replicate (length image) size 0)
