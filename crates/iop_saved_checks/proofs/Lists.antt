-- What holds of each element of a list of which a test holds of all.
use Rattle.std.proofs.Common.{◌≡◌, ℕ, zero, suc, ◌+◌, ◌<◌, ◌≤◌, Bool, true, false, Option, Some, None, option_map, List, [], ◌∷◌, length, drop, All, refl, sym, ◌∙◌, ap, arith}
use Rattle.std.specs.Prelude.{◌&&◌, slice_get}
use Rattle.std.specs.List.{list_all}
use Rattle.std.proofs.lemmas.Bool.{and_parts, and_from}
use Rattle.std.proofs.lemmas.List.{drop_all}
use Rattle.std.proofs.lemmas.Option.{same_Some, slice_get_within}
use Rattle.std.proofs.lemmas.List.Elements.{All-nil, All-cons, All-head, All-tail}

module _ {X : Type 0} (p : X → Bool) (P : X → Type 0) (is : (x : X) → p x ≡ true → P x) where
  pub each_is : (xs : List X) → list_all p xs ≡ true → All P xs
  each_is [] h = All-nil P
  each_is (x ∷ xs) h =
      let parts = and_parts (p x) (list_all p xs) h in
      All-cons P x xs (is x parts.0) (each_is xs parts.1)

-- and the other way: a test of all passes where it passes for each
module _ {X : Type 0} (p : X → Bool) (P : X → Type 0) (passes : (x : X) → P x → p x ≡ true) where
  pub all_pass : (xs : List X) → All P xs → list_all p xs ≡ true
  all_pass [] h = refl
  all_pass (x ∷ xs) h =
      and_from (p x) (list_all p xs) (passes x (All-head P x xs h))
      (all_pass xs (All-tail P x xs h))

-- a list from a place on is the element there, and the rest
get_drop : {X : Type 0} (xs : List X) (k : ℕ) → k < length xs
    → (x : X) × (slice_get xs k ≡ Some x) × (drop k xs ≡ x ∷ drop (k + 1) xs)
get_drop [] k lt = absurd (omega (arith, lt))
get_drop (x ∷ xs) zero lt = (x, refl, refl)
get_drop (x ∷ xs) (suc k) lt =
    let next : suc k + 1 ≡ suc (k + 1) = omega arith in
    let rest = get_drop xs k (omega (arith, lt)) in
    (rest.0, rest.1, rest.2 ∙ ap (λ n. rest.0 ∷ drop n (x ∷ xs)) (sym next))

-- a test of all from a place on, where an element stands
module _ {X : Type 0} (p : X → Bool) (xs : List X) (k : ℕ) (x : X) (is : slice_get xs k ≡ Some x)
  where
    all_more : list_all p (drop k xs) ≡ (p x && list_all p (drop (k + 1) xs))
    all_more =
        let d = get_drop xs k (slice_get_within xs k x is) in
        let same : d.0 ≡ x = same_Some d.0 x (sym d.1 ∙ is) in
        ap (list_all p) d.2 ∙ ap (λ (y : X). p y && list_all p (drop (k + 1) xs)) same

    -- where it passes, those behind it decide
    pub all_true : (b : Bool) → list_all p (drop k xs) ≡ b → true ≡ p x
        → list_all p (drop (k + 1) xs) ≡ b
    all_true b h ok = ap (λ c. c && list_all p (drop (k + 1) xs)) ok ∙ sym all_more ∙ h

    -- and where it does not, all do not
    pub all_false : (b : Bool) → list_all p (drop k xs) ≡ b → false ≡ p x → false ≡ b
    all_false b h bad = ap (λ c. c && list_all p (drop (k + 1) xs)) bad ∙ sym all_more ∙ h

-- what a test answers of the element at a place
pub tested : {X : Type 0} (p : X → Bool) (xs : List X) (k : ℕ) (b : Bool)
    → option_map p (slice_get xs k) ≡ Some b → (x : X) × (slice_get xs k ≡ Some x) × (b ≡ p x)
tested {X} p xs k b is = by (slice_get xs k) refl is
  where
    by : (o : Option X) → slice_get xs k ≡ o → option_map p o ≡ Some b
        → (x : X) × (slice_get xs k ≡ Some x) × (b ≡ p x)
    by None at none = absurd (cc none)
    by (Some x) at some = (x, at, sym (same_Some (p x) b some))

-- none is left behind the last one
pub all_done : {X : Type 0} (p : X → Bool) (xs : List X) (k : ℕ) (b : Bool)
    → list_all p (drop k xs) ≡ b → length xs ≤ k → true ≡ b
all_done p xs k b h end = ap (list_all p) (sym (drop_all k xs end)) ∙ h
