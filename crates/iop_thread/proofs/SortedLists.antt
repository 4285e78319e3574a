-- Lists by a number of each: they are sorted, have the same elements, and those of one number in
-- the same order.
use Rattle.std.proofs.Common.{◌≡◌, ℕ, zero, suc, ◌+◌, ◌<◌, ◌≤◌, ◌==◌, nat_lt, nat_le, Bool, true, false, ◌&&◌, if◌then◌else◌, ◌⊎◌, inl, inr, List, [], ◌∷◌, ◌++◌, append-nil, length, get_or, filter, All, AllPairs, refl, ap, sym, ◌∙◌, subst, arith, length-append}
use mathlib.Core.Path.{fun_ext}
use Rattle.std.specs.List.{flat_map, list_all, list_any, range_with_len}
use Rattle.std.specs.List.Sorted.{IsPermutation}
use Rattle.std.proofs.lemmas.Bool.{cases_lt, eq-eqb}
use Rattle.std.proofs.lemmas.Bool.Decides.{nat_tests}
use Rattle.std.proofs.lemmas.List.{get_or_append_left, get_or-append-add}
use Rattle.std.proofs.lemmas.List.Elements.{All-append, All-cons, All-filter, All-head, All-nil, All-tail, All-weaker, filter-append}
use Rattle.std.proofs.lemmas.List.Kept.{AllPairs-cons}
use Rattle.std.proofs.lemmas.List.Quantifiers.{all_pairs_push}
use Rattle.std.proofs.lemmas.List.Sums.{AllPass-from_list_all, list_all-from_AllPass}
use Rattle.std.proofs.lemmas.List.Sorted.{All-permutation, IsPermutation-refl, IsPermutation-cons, IsPermutation-middle, IsPermutation-sym, IsPermutation-trans}
use Rattle.iop_base.proofs.Searching.{AllPairs-head, AllPairs-tail}
use Rattle.iop_thread.specs.Ordering.{by_number}

module _ {X : Type 0} (number : X → ℕ) where
  -- no element has a lesser number than one before it
  abbrev pub IsSorted : List X → Type 0
  IsSorted xs = AllPairs (λ x y. number x ≤ number y) xs

  pub sorted_nil : IsSorted []
  sorted_nil = λ i j d less below. absurd (omega (arith, less, below))

  -- those of a lesser number than this, and the others
  abbrev pub lesser : ℕ → List X → List X
  lesser n xs = filter (λ y. nat_lt (number y) n) xs

  abbrev pub others : ℕ → List X → List X
  others n xs = filter (λ y. nat_le n (number y)) xs

  abbrev pub with_number : ℕ → List X → List X
  with_number n xs = filter (λ y. number y == n) xs

  -- where all have a number of at least this none is lesser
  none_lesser : (n : ℕ) (xs : List X) → All (λ y. n ≤ number y) xs → lesser n xs ≡ []
  none_lesser n [] least = refl
  none_lesser n (x ∷ xs) least =
      let here = All-head (λ y. n ≤ number y) x xs least in
      let rest = none_lesser n xs (All-tail (λ y. n ≤ number y) x xs least) in
      grind (arith, nat_tests, here, rest)

  all_others : (n : ℕ) (xs : List X) → All (λ y. n ≤ number y) xs → others n xs ≡ xs
  all_others n [] least = refl
  all_others n (x ∷ xs) least =
      let here = All-head (λ y. n ≤ number y) x xs least in
      let rest = all_others n xs (All-tail (λ y. n ≤ number y) x xs least) in
      grind (arith, nat_tests, here, rest)

  -- behind an element of a sorted list none has a lesser number
  later_least : (x : X) (xs : List X) (n : ℕ) → IsSorted (x ∷ xs) → n ≤ number x
      → All (λ y. n ≤ number y) (x ∷ xs)
  later_least x xs n sorted least =
      All-cons (λ y. n ≤ number y) x xs least
      (All-weaker (λ y. number x ≤ number y) (λ y. n ≤ number y) (λ y le. omega (arith, le, least))
      xs (AllPairs-head (λ y z. number y ≤ number z) x xs sorted))

  -- a sorted list is those of a lesser number, and behind them the others
  split : (n : ℕ) (xs : List X) → IsSorted xs → lesser n xs ++ others n xs ≡ xs
  split n [] sorted = refl
  split n (x ∷ xs) sorted =
      by (nat_lt (number x) n) refl
      (split n xs (AllPairs-tail (λ y z. number y ≤ number z) x xs sorted))
    where
      by : (b : Bool) → nat_lt (number x) n ≡ b → lesser n xs ++ others n xs ≡ xs
          → lesser n (x ∷ xs) ++ others n (x ∷ xs) ≡ x ∷ xs
      by true less rest =
          let not_other : nat_le n (number x) ≡ false = grind (arith, nat_tests, less) in
          rw (less, not_other) (ap (λ l. x ∷ l) rest)
      by false not_less rest =
          let least = later_least x xs n sorted (grind (arith, nat_tests, not_less)) in
          rw (none_lesser n (x ∷ xs) least, all_others n (x ∷ xs) least) refl

  -- one more between them keeps it sorted
  sorted_between : (x : X) (ys : List X) → IsSorted ys
      → IsSorted (lesser (number x) ys ++ x ∷ others (number x) ys)
  sorted_between x [] sorted =
      AllPairs-cons (λ y z. number y ≤ number z) x [] (All-nil (λ y. number x ≤ number y)) sorted_nil
  sorted_between x (y ∷ ys) sorted =
      let tail = AllPairs-tail (λ y z. number y ≤ number z) y ys sorted in
      by (nat_lt (number y) (number x)) refl (sorted_between x ys tail)
    where
      R : X → X → Type 0
      R y z = number y ≤ number z

      parts : (before behind : List X) → lesser (number x) (y ∷ ys) ≡ before
          → others (number x) (y ∷ ys) ≡ behind → IsSorted (before ++ x ∷ behind)
          → IsSorted (lesser (number x) (y ∷ ys) ++ x ∷ others (number x) (y ∷ ys))
      parts before behind first last are =
          subst IsSorted
          (sym (ap (λ l. l ++ x ∷ others (number x) (y ∷ ys)) first
          ∙ ap (λ l. before ++ x ∷ l) last))
          are

      by : (b : Bool) → nat_lt (number y) (number x) ≡ b
          → IsSorted (lesser (number x) ys ++ x ∷ others (number x) ys)
          → IsSorted (lesser (number x) (y ∷ ys) ++ x ∷ others (number x) (y ∷ ys))
      by true less rest =
          let n = number x in
          let not_other : nat_le n (number y) ≡ false = grind (arith, nat_tests, less) in
          let later = AllPairs-head R y ys sorted in
          parts (y ∷ lesser n ys) (others n ys) (rw less refl) (rw not_other refl)
          (AllPairs-cons R y (lesser n ys ++ x ∷ others n ys)
          (All-append (R y) (lesser n ys) (x ∷ others n ys)
          (All-filter (λ z. nat_lt (number z) n) (R y) ys later)
          (All-cons (R y) x (others n ys) (grind (arith, nat_tests, less))
          (All-filter (λ z. nat_le n (number z)) (R y) ys later)))
          rest)
      by false not_less rest =
          let n = number x in
          let least = later_least y ys n sorted (grind (arith, nat_tests, not_less)) in
          parts [] (y ∷ ys) (none_lesser n (y ∷ ys) least) (all_others n (y ∷ ys) least)
          (AllPairs-cons R x (y ∷ ys) least sorted)

  pub sorted : (xs : List X) → IsSorted (by_number number xs)
  sorted [] = sorted_nil
  sorted (x ∷ xs) = sorted_between x (by_number number xs) (sorted xs)

  -- a sorted list is as it is by its numbers
  pub sorted_same : (xs : List X) → IsSorted xs → by_number number xs ≡ xs
  sorted_same [] are = refl
  sorted_same (x ∷ xs) are =
      let same = sorted_same xs (AllPairs-tail (λ y z. number y ≤ number z) x xs are) in
      let least = AllPairs-head (λ y z. number y ≤ number z) x xs are in
      rw (same, none_lesser (number x) xs least, all_others (number x) xs least) refl

  -- it has the same elements
  pub permuted : (xs : List X) → IsPermutation xs (by_number number xs)
  permuted [] = IsPermutation-refl []
  permuted (x ∷ xs) =
      let ys = by_number number xs in
      let n = number x in
      let between = lesser n ys ++ x ∷ others n ys in
      let front : IsPermutation (x ∷ ys) between =
      subst (λ l. IsPermutation (x ∷ l) between) (split n ys (sorted xs))
      (IsPermutation-sym between (x ∷ (lesser n ys ++ others n ys))
      (IsPermutation-middle (lesser n ys) x (others n ys))) in
      IsPermutation-trans (x ∷ xs) (x ∷ ys) between (IsPermutation-cons x xs ys (permuted xs)) front

  -- those of one number among those of a lesser number than another, and among the others
  with-lesser : (m n : ℕ) (xs : List X)
      → with_number m (lesser n xs) ≡ (if nat_lt m n then with_number m xs else [])
  with-lesser m n [] = grind (arith, nat_tests)
  with-lesser m n (x ∷ xs) = grind (arith, nat_tests, with-lesser m n xs)

  with-others : (m n : ℕ) (xs : List X)
      → with_number m (others n xs) ≡ (if nat_lt m n then [] else with_number m xs)
  with-others m n [] = grind (arith, nat_tests)
  with-others m n (x ∷ xs) = grind (arith, nat_tests, with-others m n xs)

  -- those of one number stay in their order
  pub same_with : (m : ℕ) (xs : List X) → with_number m (by_number number xs) ≡ with_number m xs
  same_with m [] = refl
  same_with m (x ∷ xs) =
      let ys = by_number number xs in
      let n = number x in
      let rest = same_with m xs in
      let parts = filter-append (λ y. number y == m) (lesser n ys) (x ∷ others n ys) in
      let before = with-lesser m n ys in
      let behind = with-others m n ys in
      let all = append-nil (with_number m ys) in
      grind (arith, nat_tests, rest, parts, before, behind, all)

  -- none has a worse number before an element of a sorted list
  pub before_at_most : (done : List X) (x : X) (ys : List X) → IsSorted (done ++ x ∷ ys)
      → All (λ y. number y ≤ number x) done
  before_at_most done x ys are = λ k d below.
      let own : get_or (done ++ x ∷ ys) (length done + 0) d ≡ x =
      get_or-append-add done (x ∷ ys) 0 d in
      let pair = are k (length done + 0) d (omega (arith, below))
      (omega (arith, length-append done (x ∷ ys))) in
      subst (λ y. number y ≤ number x) (get_or_append_left done (x ∷ ys) d k below)
      (subst (λ y. number (get_or (done ++ x ∷ ys) k d) ≤ number y) own pair)

  -- the test that computes it
  pub at_most_all : (xs : List X) (n : ℕ) → All (λ y. number y ≤ n) xs
      → list_all (λ y. nat_le (number y) n) xs ≡ true
  at_most_all xs n least =
      list_all-from_AllPass (λ y. nat_le (number y) n) xs
      (All-weaker (λ y. number y ≤ n) (λ y. nat_le (number y) n ≡ true)
      (λ y le. grind (arith, nat_tests, le)) xs least)

  -- a list stays sorted with one more behind if none in it is worse
  pub sorted_behind : (xs : List X) (x : X) → IsSorted xs
      → list_all (λ y. nat_le (number y) (number x)) xs ≡ true → IsSorted (xs ++ x ∷ [])
  sorted_behind xs x are none_worse =
      all_pairs_push (λ y z. number y ≤ number z) xs x are
      (All-weaker (λ y. nat_le (number y) (number x) ≡ true) (λ y. number y ≤ number x)
      (λ y le. grind (arith, nat_tests, le)) xs
      (AllPass-from_list_all (λ y. nat_le (number y) (number x)) xs none_worse))

  -- where one of a greater number is found not all are at most this
  pub some_greater : (n greater : ℕ) (xs : List X) → n < greater
      → list_any (λ y. number y == greater) xs ≡ true
      → list_all (λ y. nat_le (number y) n) xs ≡ false
  some_greater n greater [] less some = cc
  some_greater n greater (x ∷ xs) less some =
      grind (arith, nat_tests, less, some, some_greater n greater xs less)

  -- where none of a greater number is found all are
  pub none_greater : (n last : ℕ) (xs : List X) → All (λ y. number y ≤ last) xs
      → ((greater : ℕ) → n < greater → greater ≤ last
      → list_any (λ y. number y == greater) xs ≡ false)
      → list_all (λ y. nat_le (number y) n) xs ≡ true
  none_greater n last [] least none = refl
  none_greater n last (x ∷ xs) least none =
      let first = All-head (λ y. number y ≤ last) x xs least in
      let rest =
      none_greater n last xs (All-tail (λ y. number y ≤ last) x xs least)
      (λ greater less inside. later greater (none greater less inside)) in
      let here : nat_le (number x) n ≡ true = by (cases_lt n (number x)) first in
      rw (here, rest) refl
    where
      later : (greater : ℕ) → list_any (λ y. number y == greater) (x ∷ xs) ≡ false
          → list_any (λ y. number y == greater) xs ≡ false
      later greater is = grind (arith, nat_tests, is)

      by : (n < number x) ⊎ (number x ≤ n) → number x ≤ last → nat_le (number x) n ≡ true
      by (inl less) inside =
          let absent = none (number x) less inside in
          let own = eq-eqb (number x) (number x) refl in
          absurd (grind (arith, nat_tests, absent, own))
      by (inr most) inside = grind (arith, nat_tests, most)

  -- those of the numbers from one on, below another
  abbrev between : (from to : ℕ) → List X → List X
  between from to xs = filter (λ y. nat_le from (number y) && nat_lt (number y) to) xs

  none_with : (n : ℕ) (xs : List X) → All (λ y. n < number y) xs → with_number n xs ≡ []
  none_with n [] above = refl
  none_with n (x ∷ xs) above =
      let here = All-head (λ y. n < number y) x xs above in
      let rest = none_with n xs (All-tail (λ y. n < number y) x xs above) in
      grind (arith, nat_tests, here, rest)

  -- of a sorted list they begin with those of the first number
  next_between : (from to : ℕ) (xs : List X) → IsSorted xs → from < to
      → with_number from xs ++ between (from + 1) to xs ≡ between from to xs
  next_between from to [] are less = refl
  next_between from to (x ∷ xs) are less =
      let rest =
      next_between from to xs (AllPairs-tail (λ y z. number y ≤ number z) x xs are) less in
      let later = AllPairs-head (λ y z. number y ≤ number z) x xs are in
      by (cases_lt from (number x)) rest later
    where
      by : (from < number x) ⊎ (number x ≤ from)
          → with_number from xs ++ between (from + 1) to xs ≡ between from to xs
          → All (λ y. number x ≤ number y) xs
          → with_number from (x ∷ xs) ++ between (from + 1) to (x ∷ xs)
          ≡ between from to (x ∷ xs)
      by (inl above) rest later =
          let none = none_with from xs
          (All-weaker (λ y. number x ≤ number y) (λ y. from < number y)
          (λ y le. omega (arith, le, above)) xs later) in
          grind (arith, nat_tests, rest, none, above)
      by (inr most) rest later = grind (arith, nat_tests, rest, most, less)

  none_between : (from : ℕ) (xs : List X) → between from (from + 0) xs ≡ []
  none_between from [] = refl
  none_between from (x ∷ xs) = grind (arith, nat_tests, none_between from xs)

  numbers_between : (from many : ℕ) (xs : List X) → IsSorted xs
      → flat_map (λ n. with_number n xs) (range_with_len from many)
      ≡ between from (from + many) xs
  numbers_between from zero xs are = sym (none_between from xs)
  numbers_between from (suc many) xs are =
      let rest = numbers_between (from + 1) many xs are in
      let sum : from + 1 + many ≡ from + suc many = omega arith in
      ap (λ l. with_number from xs ++ l) (rest ∙ ap (λ to. between (from + 1) to xs) sum)
      ∙ next_between from (from + suc many) xs are (omega arith)

  all_between : (from to : ℕ) (xs : List X) → All (λ y. (from ≤ number y) × (number y < to)) xs
      → between from to xs ≡ xs
  all_between from to [] inside = refl
  all_between from to (x ∷ xs) inside =
      let P : X → Type 0 = λ y. (from ≤ number y) × (number y < to) in
      let here = All-head P x xs inside in
      let rest = all_between from to xs (All-tail P x xs inside) in
      grind (arith, nat_tests, here.0, here.1, rest)

  -- where all numbers are some from one on, those of one number after the other are the sorted list
  pub sorted_by_numbers : (from many : ℕ) (xs : List X)
      → All (λ y. (from ≤ number y) × (number y < from + many)) xs
      → flat_map (λ n. with_number n xs) (range_with_len from many) ≡ by_number number xs
  sorted_by_numbers from many xs inside =
      let ys = by_number number xs in
      let P : X → Type 0 = λ y. (from ≤ number y) × (number y < from + many) in
      ap (λ f. flat_map f (range_with_len from many)) (fun_ext (λ n. sym (same_with n xs)))
      ∙ numbers_between from many ys (sorted xs)
      ∙ all_between from (from + many) ys (All-permutation P xs ys (permuted xs) inside)
