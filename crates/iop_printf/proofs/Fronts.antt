-- The fronts of lists whose elements pass a test.
use Rattle.std.proofs.Common.{◌≡◌, ℕ, ◌<◌, nat_lt, Bool, true, false, not, cond, Some, None, unwrap_or, List, [], ◌∷◌, ◌++◌, length, get_or, take, drop, refl, ap, ◌∙◌, arith}
use Rattle.std.specs.Prelude.{⊤}
use Rattle.std.specs.List.{list_all, position, position_or_len}
use Rattle.std.proofs.Math.Seq.{take-append_seam, drop-append_seam}
use Rattle.std.proofs.lemmas.Bool.{and_parts, ltb-false}
use Rattle.std.proofs.lemmas.List.{get_or-take, length-take}
use Rattle.std.proofs.lemmas.List.Recursion.{and_from_places}
use Rattle.std.proofs.lemmas.List.Sums.{fails_before_first, prefix_len-le-length}
use Rattle.iop_printf.specs.Conversions.{front, front_len, behind}

-- the first place that passes, or the length
pub place_or_len : (p : ℕ → Bool) (xs : List ℕ)
    → unwrap_or (position p xs) (length xs) ≡ position_or_len p xs
place_or_len p xs = by_test (nat_lt k (length xs)) refl
  where
    k : ℕ
    k = position_or_len p xs

    by_test : (b : Bool) → nat_lt k (length xs) ≡ b
        → unwrap_or (cond b (Some k) None) (length xs) ≡ k
    by_test true e = refl
    by_test false e =
        omega (arith, ltb-false k (length xs) e, prefix_len-le-length (λ x. not (p x)) xs)

not_not : (b : Bool) → not b ≡ false → b ≡ true
not_not true e = refl
not_not false e = absurd (cc e)

-- each element of the front passes
pub front_passes : (test : ℕ → Bool) (xs : List ℕ) → list_all test (front test xs) ≡ true
front_passes test xs =
    and_from_places (list_all test) test refl (λ _ _. refl) (front test xs) 0
    (λ i inside. let n = front_len test xs in
    let below : i < n = omega (arith, inside, length-take n xs) in
    ap test (get_or-take n xs i 0 below)
    ∙ not_not (test (get_or xs i 0)) (fails_before_first (λ b. not (test b)) xs i 0
    (omega (arith, below, place_or_len (λ b. not (test b)) xs))))

-- at the front of a list no element passes
abbrev pub Stops : (test : ℕ → Bool) → List ℕ → Type 0
Stops test [] = ⊤
Stops test (x ∷ xs) = test x ≡ false

module _ (test : ℕ → Bool) where
  prefix_to : (xs ys : List ℕ) → list_all test xs ≡ true → Stops test ys
      → position_or_len (λ b. not (test b)) (xs ++ ys) ≡ length xs
  prefix_to [] [] pass stops = refl
  prefix_to [] (y ∷ ys) pass stops = rw stops refl
  prefix_to (x ∷ xs) ys pass stops =
      let both = and_parts (test x) (list_all test xs) pass in
      rw both.0 (omega (arith, prefix_to xs ys both.1 stops))

  module _ (xs ys : List ℕ) (pass : list_all test xs ≡ true) (stops : Stops test ys) where
    front_len-append : front_len test (xs ++ ys) ≡ length xs
    front_len-append = place_or_len (λ b. not (test b)) (xs ++ ys) ∙ prefix_to xs ys pass stops

    pub front-append : front test (xs ++ ys) ≡ xs
    front-append = ap (λ k. take k (xs ++ ys)) front_len-append ∙ take-append_seam xs ys

    pub behind-append : behind test (xs ++ ys) ≡ ys
    behind-append = ap (λ k. drop k (xs ++ ys)) front_len-append ∙ drop-append_seam xs ys
