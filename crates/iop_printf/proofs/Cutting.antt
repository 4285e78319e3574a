-- Texts that are cut after so many bytes.
use Rattle.std.proofs.Common.{◌≡◌, ℕ, zero, suc, ◌+◌, ◌≤◌, min, List, [], ◌∷◌, ◌++◌, length, take, replicate, refl, ap, sym, ◌∙◌, append_assoc, append-nil, arith}
use Rattle.std.proofs.lemmas.List.{length-replicate, take-take, take-replicate, take_at, take_all, take_min}
use Rattle.std.proofs.Math.Seq.{take-append-add}

-- a text that was cut before it went on
pub cut_more : (n : ℕ) (xs ys : List ℕ) → take n (take n xs ++ ys) ≡ take n (xs ++ ys)
cut_more zero xs ys = refl
cut_more (suc n) [] ys = refl
cut_more (suc n) (x ∷ xs) ys = ap (λ t. x ∷ t) (cut_more n xs ys)

-- what went on by a front that is long enough
pub cut_front : (n most : ℕ) (xs ys : List ℕ) → n ≤ most
    → take n (xs ++ take most ys) ≡ take n (xs ++ ys)
cut_front n most [] ys enough = take-take n most ys enough
cut_front zero most (x ∷ xs) ys enough = refl
cut_front (suc n) most (x ∷ xs) ys enough =
    ap (λ t. x ∷ t) (cut_front n most xs ys (omega (arith, enough)))

-- and went on twice
pub cut_twice : (n : ℕ) (xs ys zs : List ℕ)
    → take n (take n (xs ++ ys) ++ zs) ≡ take n (xs ++ (ys ++ zs))
cut_twice n xs ys zs =
    cut_more n (xs ++ ys) zs ∙ ap (λ t. take n t) (append_assoc xs ys zs)

-- one append after the other
pub cut_then : (n : ℕ) (old middle new xs ys : List ℕ) → middle ≡ take n (old ++ xs)
    → new ≡ take n (middle ++ ys) → new ≡ take n (old ++ (xs ++ ys))
cut_then n old middle new xs ys first second =
    second ∙ ap (λ t. take n (t ++ ys)) first ∙ cut_twice n old xs ys

-- what there is room for
pub cut_append : (n room len : ℕ) (xs ys : List ℕ) → room + length xs ≡ n
    → len ≡ min (length ys) room → xs ++ take len ys ≡ take n (xs ++ ys)
cut_append n room len xs ys all short =
    let fits : len ≡ min room (length ys) = omega arith in
    let whole : n ≡ length xs + room = omega arith in
    ap (λ k. xs ++ take k ys) fits ∙ ap (λ t. xs ++ t) (take_min room ys)
    ∙ sym (ap (λ k. take k (xs ++ ys)) whole ∙ take-append-add xs ys room)

-- so many of a byte as there is room for
pub cut_fill : (n room len count byte : ℕ) (xs : List ℕ) → room + length xs ≡ n
    → len ≡ min count room → xs ++ replicate len byte ≡ take n (xs ++ replicate count byte)
cut_fill n room len count byte xs all short =
    let long = length-replicate count byte in
    ap (λ t. xs ++ t) (sym (take-replicate len count byte (omega (arith, short))))
    ∙ cut_append n room len xs (replicate count byte) all (omega (arith, short, long))

-- a text that is full
pub cut_full : (n : ℕ) (xs ys : List ℕ) → length xs ≡ n → xs ≡ take n (xs ++ ys)
cut_full n xs ys full = sym (take_at xs ys n full)

-- and one that is whole
pub cut_whole : (n : ℕ) (xs : List ℕ) → length xs ≤ n → xs ≡ take n (xs ++ [])
cut_whole n xs short = sym (ap (λ t. take n t) (append-nil xs) ∙ take_all n xs short)
