-- What is left of a row from a number on, as a loop over the numbers sees it.
use Rattle.std.proofs.Common.{◌≡◌, ℕ, zero, suc, ◌+◌, ◌-◌, ◌<◌, ◌≤◌, Bool, true, false, cond, Some, None, List, [], ◌∷◌, map, drop, find, filter, refl, ap, sym, ◌∙◌, arith}
use Rattle.std.specs.List.{range_with_len, slice_get}
use Rattle.std.proofs.lemmas.List.{drop-map}

-- the elements of numbers i to n
unfoldable pub row : {X : Type 0} → (ℕ → X) → ℕ → ℕ → List X
row f i n = map f (range_with_len i (n - i))

pub row-step : {X : Type 0} (f : ℕ → X) (i n : ℕ) → i < n → row f i n ≡ f i ∷ row f (i + 1) n
unfolding row
row-step f i n below =
    let left : n - i ≡ suc (n - (i + 1)) = omega arith in ap (λ k. map f (range_with_len i k)) left

pub row-end : {X : Type 0} (f : ℕ → X) (i n : ℕ) → n ≤ i → row f i n ≡ []
unfolding row
row-end f i n over = let none : n - i ≡ 0 = omega arith in ap (λ k. map f (range_with_len i k)) none

-- the elements of numbers from a, without the first i
drop-numbers : (a n i : ℕ) → drop i (range_with_len a n) ≡ range_with_len (a + i) (n - i)
drop-numbers a n zero =
    let from : a ≡ a + 0 = omega arith in
    let count : n ≡ n - 0 = omega arith in
    ap (λ k. range_with_len k n) from ∙ ap (range_with_len (a + 0)) count
drop-numbers a zero (suc i) =
    let none : 0 ≡ 0 - suc i = omega arith in ap (range_with_len (a + suc i)) none
drop-numbers a (suc n) (suc i) =
    let from : a + 1 + i ≡ a + suc i = omega arith in
    let count : n - i ≡ suc n - suc i = omega arith in
    drop-numbers (a + 1) n i ∙ ap (λ k. range_with_len k (n - i)) from
    ∙ ap (range_with_len (a + suc i)) count

-- the whole row without the first i
pub row-left : {X : Type 0} (f : ℕ → X) (i n : ℕ) → row f i n ≡ drop i (map f (range_with_len 0 n))
unfolding row
row-left f i n =
    let from : 0 + i ≡ i = omega arith in
    sym (drop-map f i (range_with_len 0 n)
    ∙ ap (map f) (drop-numbers 0 n i ∙ ap (λ k. range_with_len k (n - i)) from))

-- the whole row
pub row-whole : {X : Type 0} (f : ℕ → X) (n : ℕ) → row f 0 n ≡ map f (range_with_len 0 n)
unfolding row
row-whole f n = let all : n - 0 ≡ n = omega arith in ap (λ k. map f (range_with_len 0 k)) all

module _ {X : Type 0} (p : X → Bool) (f : ℕ → X) where
  pub find-here : (i n : ℕ) → i < n → p (f i) ≡ true → find p (row f i n) ≡ Some (f i)
  find-here i n below passes =
      ap (find p) (row-step f i n below)
      ∙ ap (λ b. cond b (Some (f i)) (find p (row f (i + 1) n))) passes

  pub find-later : (i n : ℕ) → i < n → p (f i) ≡ false
      → find p (row f i n) ≡ find p (row f (i + 1) n)
  find-later i n below fails =
      ap (find p) (row-step f i n below)
      ∙ ap (λ b. cond b (Some (f i)) (find p (row f (i + 1) n))) fails

  pub find-end : (i n : ℕ) → n ≤ i → find p (row f i n) ≡ None
  find-end i n over = ap (find p) (row-end f i n over)

  pub filter-here : (i n : ℕ) → i < n → p (f i) ≡ true → filter p (row f i n) ≡ f i
      ∷ filter p (row f (i + 1) n)
  filter-here i n below passes =
      ap (filter p) (row-step f i n below)
      ∙ ap (λ b. cond b (f i ∷ filter p (row f (i + 1) n)) (filter p (row f (i + 1) n))) passes

  pub filter-later : (i n : ℕ) → i < n → p (f i) ≡ false
      → filter p (row f i n) ≡ filter p (row f (i + 1) n)
  filter-later i n below fails =
      ap (filter p) (row-step f i n below)
      ∙ ap (λ b. cond b (f i ∷ filter p (row f (i + 1) n)) (filter p (row f (i + 1) n))) fails

  pub filter-end : (i n : ℕ) → n ≤ i → filter p (row f i n) ≡ []
  filter-end i n over = ap (filter p) (row-end f i n over)

-- an element that is not the first
pub slice_get-behind : {X : Type 0} (x : X) (xs : List X) (k : ℕ) → (k ≡ 0 → ⊥)
    → slice_get (x ∷ xs) k ≡ slice_get xs (k - 1)
slice_get-behind x xs zero some = absurd (some refl)
slice_get-behind x xs (suc k) some = let e : k ≡ suc k - 1 = omega arith in ap (slice_get xs) e
