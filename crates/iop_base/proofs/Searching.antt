-- What is found in a list, and lists of which each two elements stand in a relation.
use Rattle.std.proofs.Common.{◌≡◌, ℕ, suc, ◌<◌, Bool, true, false, cond, Some, None, option_map, List, [], ◌∷◌, length, map, find, get_or, refl, arith}
use Rattle.std.specs.List.{All, AllPairs, position}
use Rattle.std.proofs.lemmas.Bool.Decides.{nat_tests}
use Rattle.std.proofs.lemmas.List.Sums.{position_or_len_is}

module _ {X Y : Type 0} (p : Y → Bool) (f : X → Y) where
  -- what is found in a list that is mapped
  pub find-map : (xs : List X) → find p (map f xs) ≡ option_map f (find (λ x. p (f x)) xs)
  find-map [] = refl
  find-map (x ∷ xs) = either (p (f x)) (find-map xs)
    where
      either : (b : Bool) → find p (map f xs) ≡ option_map f (find (λ x. p (f x)) xs)
          → cond b (Some (f x)) (find p (map f xs))
          ≡ option_map f (cond b (Some x) (find (λ x. p (f x)) xs))
      either true same = refl
      either false same = same

module _ {X : Type 0} (p : X → Bool) (xs : List X) (d : X) where
  -- the first that passes stands there
  pub position-at : (k : ℕ) → k < length xs → p (get_or xs k d) ≡ true
      → ((j : ℕ) → j < k → p (get_or xs j d) ≡ false) → position p xs ≡ Some k
  position-at k below here before =
      let e = position_or_len_is p xs k d (omega arith) before (λ _. here) in
      grind (arith, nat_tests, e)

  -- none passes
  pub position-none : ((j : ℕ) → j < length xs → p (get_or xs j d) ≡ false)
      → position p xs ≡ None
  position-none none =
      let e = position_or_len_is p xs (length xs) d (omega arith) none
      (λ h. absurd (omega arith)) in
      grind (arith, nat_tests, e)

module _ {X : Type 0} (R : X → X → Type 0) (x : X) (xs : List X) (pairs : AllPairs R (x ∷ xs)) where
  -- the first stands so before all others
  pub AllPairs-head : All (R x) xs
  AllPairs-head = λ k d below. pairs 0 (suc k) d (omega arith) (omega arith)

  -- and each two of the others do
  pub AllPairs-tail : AllPairs R xs
  AllPairs-tail = λ i j d less below. pairs (suc i) (suc j) d (omega arith) (omega arith)
