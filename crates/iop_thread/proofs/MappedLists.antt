-- Lists that are mapped, and then filtered, searched, or asked for the best.
use Rattle.std.proofs.Common.{◌≡◌, ℕ, Bool, true, false, cond, if◌then◌else◌, nat_lt, Option, Some, None, IfSome, option_map, List, [], ◌∷◌, map, filter, find, All, refl, ap, ◌∙◌, subst, arith}
use Rattle.std.proofs.lemmas.List.{get_or-map, length-map}
use Rattle.std.proofs.lemmas.List.Elements.{All-head, All-tail}
use Rattle.iop_base.specs.Choosing.{better, best}

-- a function that agrees with another on a list maps it to the same
pub map_agree : {X Y : Type 0} (f g : X → Y) (xs : List X) → All (λ x. f x ≡ g x) xs
    → map f xs ≡ map g xs
map_agree f g [] same = refl
map_agree f g (x ∷ xs) same =
    let rest = map_agree f g xs (All-tail (λ y. f y ≡ g y) x xs same) in
    ap (λ y. y ∷ map f xs) (All-head (λ y. f y ≡ g y) x xs same) ∙ ap (λ l. g x ∷ l) rest

-- what holds of all of a list that is mapped
pub All-mapped : {X Y : Type 0} (P : Y → Type 0) (f : X → Y) (xs : List X) → All P (map f xs)
    → All (λ x. P (f x)) xs
All-mapped P f xs all = λ k d below.
    subst P (get_or-map f xs k d (f d) below) (all k (f d) (omega (arith, below, length-map xs f)))

-- a list is filtered before it is mapped or after
pub filter-map_agree : {X Y : Type 0} (f : X → Y) (p : X → Bool) (q : Y → Bool) (xs : List X)
    → All (λ x. q (f x) ≡ p x) xs → filter q (map f xs) ≡ map f (filter p xs)
filter-map_agree f p q [] same = refl
filter-map_agree f p q (x ∷ xs) same =
    both (p x) (q (f x)) (All-head (λ y. q (f y) ≡ p y) x xs same)
    (filter-map_agree f p q xs (All-tail (λ y. q (f y) ≡ p y) x xs same))
  where
    both : (b c : Bool) → c ≡ b → filter q (map f xs) ≡ map f (filter p xs)
        → cond c (f x ∷ filter q (map f xs)) (filter q (map f xs))
        ≡ map f (cond b (x ∷ filter p xs) (filter p xs))
    both true true e rest = ap (λ l. f x ∷ l) rest
    both true false e rest = cc
    both false true e rest = cc
    both false false e rest = rest

module _ {X Y : Type 0} (number : Y → ℕ) (f : X → Y) where
  -- the better of two of a list that is mapped
  better-map : (x : X) (o : Option X)
      → better number (f x) (option_map f o) ≡ f (better (λ x. number (f x)) x o)
  better-map x None = refl
  better-map x (Some y) = either (nat_lt (number (f y)) (number (f x)))
    where
      either : (b : Bool) → (if b then f y else f x) ≡ f (if b then y else x)
      either true = refl
      either false = refl

  -- the best of a list that is mapped
  pub best-map : (xs : List X) → best number (map f xs) ≡ option_map f (best (λ x. number (f x)) xs)
  best-map [] = refl
  best-map (x ∷ xs) =
      ap (λ o. Some (better number (f x) o)) (best-map xs)
      ∙ ap Some (better-map x (best (λ x. number (f x)) xs))

module _ {X : Type 0} (number : X → ℕ) (P : X → Type 0) where
  -- what holds of two holds of the better
  better-holds : (x : X) (o : Option X) → P x → IfSome o P → P (better number x o)
  better-holds x None here later = here
  better-holds x (Some y) here later = either (nat_lt (number y) (number x))
    where
      either : (b : Bool) → P (if b then y else x)
      either true = later
      either false = here

  -- what holds of all holds of the best
  pub best-holds : (xs : List X) → All P xs → IfSome (best number xs) P
  best-holds [] all = tt
  best-holds (x ∷ xs) all =
      better-holds x (best number xs) (All-head P x xs all) (best-holds xs (All-tail P x xs all))

module _ {X Y : Type 0} (p : Y → Bool) (f : X → Y) where
  -- what is found in a list that is mapped
  pub find-map : (xs : List X) → find p (map f xs) ≡ option_map f (find (λ x. p (f x)) xs)
  find-map [] = refl
  find-map (x ∷ xs) = either (p (f x)) (find-map xs)
    where
      either : (b : Bool) → find p (map f xs) ≡ option_map f (find (λ x. p (f x)) xs)
          → cond b (Some (f x)) (find p (map f xs))
          ≡ option_map f (cond b (Some x) (find (λ x. p (f x)) xs))
      either true same = refl
      either false same = same
