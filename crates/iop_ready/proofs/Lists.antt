-- Lists that are filtered and searched, and numbers below a bound that leave one out.
use Rattle.std.proofs.Common.{◌≡◌, ◌≢◌, ℕ, ◌<◌, ◌≤◌, Bool, true, false, cond, Option, Some, List, [], ◌∷◌, length, map, nat_eq, refl, arith, IfSome}
use Rattle.std.specs.List.{find, filter, list_any, All, AllPairs}
use Rattle.std.proofs.lemmas.Bool.Decides.{Decides-eqb, nat_tests}
use Rattle.std.proofs.lemmas.List.{get_or-map, length-map}
use Rattle.std.proofs.lemmas.Map.Made.{IsDistinct-from_AllPairs}
use Rattle.std.proofs.lemmas.Map.Steps.{length-le_from_distinct_below}
use Rattle.std.proofs.lemmas.List.Elements.{All-head, All-tail}

module _ {X : Type 0} (p : X → Bool) where
  find_by : (b : Bool) (x : X) (xs : List X) → p x ≡ b → find p (filter p xs) ≡ find p xs
      → find p (cond b (x ∷ filter p xs) (filter p xs)) ≡ cond b (Some x) (find p xs)
  find_by true x xs e same = rw e refl
  find_by false x xs e same = same

  -- what is searched for is not filtered out
  pub find-filter : (xs : List X) → find p (filter p xs) ≡ find p xs
  find-filter [] = refl
  find-filter (x ∷ xs) = find_by (p x) x xs refl (find-filter xs)

  -- what two filters leave, in either order
  pub filter-swap : (q : X → Bool) (xs : List X) → filter p (filter q xs) ≡ filter q (filter p xs)
  filter-swap q [] = refl
  filter-swap q (x ∷ xs) = grind (arith, filter-swap q xs)

  found_by : (P : X → Type 0) (b : Bool) (x : X) (o : Option X) → p x ≡ b → P x
      → IfSome o (λ y. P y × (p y ≡ true)) → IfSome (cond b (Some x) o) (λ y. P y × (p y ≡ true))
  found_by P true x o e here later = (here, e)
  found_by P false x o e here later = later

  -- what holds of all holds of the one that is found, which passes the test
  pub IfSome-find : (P : X → Type 0) (xs : List X) → All P xs
      → IfSome (find p xs) (λ x. P x × (p x ≡ true))
  IfSome-find P [] all = tt
  IfSome-find P (x ∷ xs) all =
      found_by P (p x) x (find p xs) refl (All-head P x xs all)
      (IfSome-find P xs (All-tail P x xs all))

module _ {X : Type 0} (number : X → ℕ) where
  distinct_numbers : (xs : List X) → AllPairs (λ x y. number x ≢ number y) xs
      → AllPairs (λ m n. m ≢ n) (map number xs)
  distinct_numbers [] distinct = λ i j d less below. absurd (omega arith)
  distinct_numbers (x ∷ xs) distinct = λ i j d less below.
      let all = x ∷ xs in
      let inside : j < length all = omega (arith, below, length-map all number) in
      let before : i < length all = omega (arith, less, inside) in
      rw (get_or-map number all i x d before, get_or-map number all j x d inside)
      (distinct i j x less inside)

  below_all : (n q : ℕ) (xs : List X) → All (λ x. number x < n) xs
      → list_any (nat_eq q) (map number xs) ≡ true → q < n
  below_all n q [] small found = cc
  below_all n q (x ∷ xs) small found =
      let here = All-head (λ y. number y < n) x xs small in
      let later = below_all n q xs (All-tail (λ y. number y < n) x xs small) in
      grind (arith, nat_tests, here, later, found)

  -- distinct numbers below n are at most n
  pub length-le_from_distinct : (n : ℕ) (xs : List X) → All (λ x. number x < n) xs
      → AllPairs (λ x y. number x ≢ number y) xs → length xs ≤ n
  length-le_from_distinct n xs small distinct =
      let few = length-le_from_distinct_below (map number xs) n
      (IsDistinct-from_AllPairs Decides-eqb (map number xs) (distinct_numbers xs distinct))
      (λ q found. below_all n q xs small found) in
      omega (arith, few, length-map xs number)
