-- First places in lists with one element more.
use Rattle.std.proofs.Common.{◌≡◌, ℕ, suc, ◌+◌, ◌-◌, ◌≤◌, Bool, true, false, not, cond, nat_lt, eqb, ne_eqb, eq-eqb, Option, Some, None, List, [], ◌∷◌, ◌++◌, length, reverse, refl, ap, ◌∙◌, arith}
use Rattle.std.specs.Prelude.{option_map}
use Rattle.std.specs.List.{position, position_or_len}
use Rattle.std.proofs.lemmas.Bool.{lt-ltb, le-ltb, ltb-true, ltb-false}
use Rattle.std.proofs.lemmas.List.{length-append, reverse-append}
use Rattle.std.proofs.lemmas.List.Folds.{position_or_len_push}
use Rattle.std.proofs.lemmas.List.Sums.{prefix_len-le-length}
use Rattle.iop_sysclib.specs.StringCalls.{ended, last_position}

-- the place, unless it is the end
abbrev place_in : (k n : ℕ) → Option ℕ
place_in k n = cond (nat_lt k n) (Some k) None

push_by : (inside passes : Bool) (k n : ℕ) → nat_lt k n ≡ inside → k ≤ n
    → place_in (cond (eqb k n) (n + cond passes 0 1) k) (n + 1)
    ≡ cond inside (Some k) (cond passes (Some n) None)
push_by true passes k n is most =
    let below = ltb-true k n is in
    let apart : eqb k n ≡ false = ne_eqb k n (omega (arith, below)) in
    let before = lt-ltb k (n + 1) (omega (arith, below)) in
    rw (apart, before) refl
push_by false true k n is most =
    let same : k ≡ n = omega (arith, ltb-false k n is) in
    let test = eq-eqb k n same in
    let before = lt-ltb (n + 0) (n + 1) (omega arith) in
    rw (test, before) (let e : n + 0 ≡ n = omega arith in ap Some e)
push_by false false k n is most =
    let same : k ≡ n = omega (arith, ltb-false k n is) in
    let test = eq-eqb k n same in
    let past = le-ltb (n + 1) (n + 1) (omega arith) in
    rw (test, past) refl

module _ (p : ℕ → Bool) where
  position_by : (xs : List ℕ) (y n : ℕ) → length (xs ++ y ∷ []) ≡ n
      → position p (xs ++ y ∷ []) ≡ place_in (position_or_len p (xs ++ y ∷ [])) n
  position_by xs y n long = ap (place_in (position_or_len p (xs ++ y ∷ []))) long

  -- the first place where one element more stands at the end
  pub position-push : (xs : List ℕ) (y : ℕ) → position p (xs ++ y ∷ [])
      ≡ cond (nat_lt (position_or_len p xs) (length xs)) (Some (position_or_len p xs))
      (cond (p y) (Some (length xs)) None)
  position-push xs y =
      position_by xs y (length xs + 1) (length-append xs (y ∷ []))
      ∙ ap (λ k. place_in k (length xs + 1)) (position_or_len_push p xs y)
      ∙ push_by (nat_lt (position_or_len p xs) (length xs)) (p y) (position_or_len p xs)
      (length xs) refl (prefix_len-le-length (λ x. not (p x)) xs)

  by_cons : (passes inside : Bool) (k n : ℕ) → nat_lt k n ≡ inside
      → place_in (cond (not passes) (1 + k) 0) (suc n)
      ≡ cond passes (Some 0) (option_map (λ i. i + 1) (cond inside (Some k) None))
  by_cons true inside k n is = let before = lt-ltb 0 (suc n) (omega arith) in rw before refl
  by_cons false true k n is =
      let before = lt-ltb (1 + k) (suc n) (omega (arith, ltb-true k n is)) in
      rw before (let e : 1 + k ≡ k + 1 = omega arith in ap Some e)
  by_cons false false k n is =
      let past = le-ltb (1 + k) (suc n) (omega (arith, ltb-false k n is)) in rw past refl

  -- the first place where one element more stands in front
  pub position-cons : (y : ℕ) (xs : List ℕ) → position p (y ∷ xs)
      ≡ cond (p y) (Some 0) (option_map (λ i. i + 1) (position p xs))
  position-cons y xs =
      by_cons (p y) (nat_lt (position_or_len p xs) (length xs)) (position_or_len p xs) (length xs)
      refl

  by_option : (b : Bool) (k n y : ℕ) (found : Option ℕ)
      → found ≡ cond b (Some k) (cond (p y) (Some n) None)
      → cond b (Some k) None ≡ None → found ≡ cond (p y) (Some n) None
  by_option true k n y found is none = cc
  by_option false k n y found is none = is

  -- where no element before it passes
  pub position-push-None : (xs : List ℕ) (y : ℕ) → position p xs ≡ None
      → position p (xs ++ y ∷ []) ≡ cond (p y) (Some (length xs)) None
  position-push-None xs y none =
      by_option (nat_lt (position_or_len p xs) (length xs)) (position_or_len p xs) (length xs) y
      (position p (xs ++ y ∷ [])) (position-push xs y) none

  by_some : (b : Bool) (k n y i : ℕ) (found : Option ℕ)
      → found ≡ cond b (Some k) (cond (p y) (Some n) None)
      → cond b (Some k) None ≡ Some i → found ≡ Some i
  by_some true k n y i found is some = is ∙ some
  by_some false k n y i found is some = cc

  -- where one does
  pub position-push-Some : (xs : List ℕ) (y i : ℕ) → position p xs ≡ Some i
      → position p (xs ++ y ∷ []) ≡ Some i
  position-push-Some xs y i some =
      by_some (nat_lt (position_or_len p xs) (length xs)) (position_or_len p xs) (length xs) y i
      (position p (xs ++ y ∷ [])) (position-push xs y) some

  ended_reverse : (xs : List ℕ) → reverse (xs ++ 0 ∷ []) ≡ 0 ∷ reverse xs
  ended_reverse xs = reverse-append xs (0 ∷ [])

  ended_length : (xs : List ℕ) → length (xs ++ 0 ∷ []) ≡ length xs + 1
  ended_length xs = length-append xs (0 ∷ [])

  from_end : (xs : List ℕ) → last_position p (ended xs)
      ≡ option_map (λ i. length xs + 1 - 1 - i)
      (cond (p 0) (Some 0) (option_map (λ i. i + 1) (position p (reverse xs))))
  from_end xs =
      ap (λ n. option_map (λ i. n - 1 - i) (position p (reverse (ended xs)))) (ended_length xs)
      ∙ ap (option_map (λ i. length xs + 1 - 1 - i))
      (ap (position p) (ended_reverse xs) ∙ position-cons 0 (reverse xs))

  -- the end is the last place where it passes
  pub last_position-end : (xs : List ℕ) → p 0 ≡ true → last_position p (ended xs) ≡ Some (length xs)
  last_position-end xs is =
      from_end xs ∙ rw is (let e : length xs + 1 - 1 - 0 ≡ length xs = omega arith in ap Some e)

  inner_by : (found : Option ℕ) (n : ℕ)
      → option_map (λ i. n + 1 - 1 - i) (option_map (λ i. i + 1) found)
      ≡ option_map (λ i. n - 1 - i) found
  inner_by None n = refl
  inner_by (Some i) n = let e : n + 1 - 1 - (i + 1) ≡ n - 1 - i = omega arith in ap Some e

  pub last_position-inner : (xs : List ℕ) → p 0 ≡ false
      → last_position p (ended xs)
      ≡ option_map (λ i. length xs - 1 - i) (position p (reverse xs))
  last_position-inner xs is =
      from_end xs ∙ rw is (inner_by (position p (reverse xs)) (length xs))
