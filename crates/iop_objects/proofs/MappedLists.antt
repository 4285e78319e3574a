-- Lists that are mapped or filtered.
use Rattle.std.proofs.Common.{◌≡◌, ◌≢◌, ℕ, zero, suc, ◌<◌, ◌⊎◌, inl, inr, Bool, true, false, cond, not, List, [], ◌∷◌, ◌++◌, length, map, filter, get_or, set, take, drop, refl, ap, sym, ◌∙◌, arith}
use Rattle.std.specs.List.{remove}
use Rattle.std.proofs.lemmas.Bool.{cases_eq}
use Rattle.std.proofs.lemmas.List.{length-map, length-set, get_or-map, get_or-set_same, get_or-set_other, map-append, take-map, drop-map, same_lists}
use Rattle.std.proofs.lemmas.List.Elements.{All-from_get_or}
use Rattle.std.proofs.lemmas.List.Folds.{list_any_none}
use Rattle.iop_base.proofs.Lists.{filter-none_fails}

module _ {X Y : Type 0} (p : Y → Bool) (f : X → Y) where
  -- a list is filtered before it is mapped or after
  pub filter-map : (xs : List X) → filter p (map f xs) ≡ map f (filter (λ x. p (f x)) xs)
  filter-map [] = refl
  filter-map (x ∷ xs) = either (p (f x)) (filter-map xs)
    where
      either : (b : Bool) → filter p (map f xs) ≡ map f (filter (λ x. p (f x)) xs)
          → cond b (f x ∷ filter p (map f xs)) (filter p (map f xs))
          ≡ map f (cond b (x ∷ filter (λ x. p (f x)) xs) (filter (λ x. p (f x)) xs))
      either true same = ap (λ l. f x ∷ l) same
      either false same = same

-- an element is taken out of a list before it is mapped or after
pub map-remove : {X Y : Type 0} (f : X → Y) (xs : List X) (i : ℕ)
    → map f (remove xs i) ≡ remove (map f xs) i
map-remove f xs i =
    map-append f (take i xs) (drop (suc i) xs)
    ∙ ap (λ l. l ++ map f (drop (suc i) xs)) (sym (take-map f i xs))
    ∙ ap (λ l. take i (map f xs) ++ l) (sym (drop-map f (suc i) xs))

-- two functions that give the same everywhere but at one place
module _ {X Y : Type 0} (f g : X → Y) (xs : List X) (k : ℕ) (x : X) where
  abbrev new : List Y
  new = set (map g xs) k (f x)

  module _ (below : k < length xs) (is : get_or xs k x ≡ x)
      (others : (i : ℕ) → i < length xs → i ≢ k → f (get_or xs i x) ≡ g (get_or xs i x)) where
    by : (i : ℕ) (e : Y) → i < length xs → (i ≡ k) ⊎ (i ≡ k → ⊥)
        → f (get_or xs i x) ≡ get_or new i e
    by i e inside (inl same) =
        ap (λ j. f (get_or xs j x)) same ∙ ap f is
        ∙ sym (ap (λ j. get_or new j e) same
        ∙ get_or-set_same (map g xs) k (f x) e (omega (arith, length-map xs g, below)))
    by i e inside (inr apart) =
        others i inside apart
        ∙ sym (get_or-set_other (map g xs) k i (f x) e apart ∙ get_or-map g xs i x e inside)

    each : (i : ℕ) (e : Y) → i < length (map f xs) → get_or (map f xs) i e ≡ get_or new i e
    each i e within =
        let inside : i < length xs = omega (arith, length-map xs f, within) in
        get_or-map f xs i x e inside ∙ by i e inside (cases_eq i k)

    pub map-at_one : map f xs ≡ set (map g xs) k (f x)
    map-at_one =
        same_lists (map f xs) new
        (length-map xs f ∙ sym (length-set (map g xs) k (f x) ∙ length-map xs g)) each

-- where one element alone passes, all others stay
pub filter-one_passes : {X : Type 0} (p : X → Bool) (xs : List X) (k : ℕ) (d : X) → k < length xs
    → p (get_or xs k d) ≡ true
    → ((i : ℕ) → i < length xs → i ≢ k → p (get_or xs i d) ≡ false)
    → filter (λ x. not (p x)) xs ≡ remove xs k
filter-one_passes p [] k d below passes fail = absurd (omega (arith, below))
filter-one_passes p (x ∷ xs) zero d below passes fail =
    let others = filter (λ y. not (p y)) xs in
    let none = All-from_get_or (λ y. p y ≡ false) xs d
    (λ i inside. fail (suc i) (omega (arith, inside)) (λ e. omega (arith, e))) in
    ap (λ b. cond (not b) (x ∷ others) others) passes
    ∙ filter-none_fails p xs (list_any_none p xs none)
filter-one_passes p (x ∷ xs) (suc k) d below passes fail =
    let others = filter (λ y. not (p y)) xs in
    ap (λ b. cond (not b) (x ∷ others) others) (fail 0 (omega arith) (λ e. omega (arith, e)))
    ∙ ap (λ l. x ∷ l) (filter-one_passes p xs k d (omega (arith, below)) passes
    (λ i inside apart. fail (suc i) (omega (arith, inside))
    (λ e. apart (omega (arith, e)))))
