-- The order of strings with their ends.
use Rattle.std.proofs.Common.{◌≡◌, ℕ, zero, suc, ◌<◌, Bool, true, false, not, nat_lt, ◌==◌, Some, None, List, [], ◌∷◌, ◌++◌, length, take, drop, refl, ap, sym, ◌∙◌, arith, ne_eqb}
use Rattle.std.specs.Cmp.Lexicographic.{slice_cmp}
use Rattle.std.specs.List.{list_all, position_or_len}
use Rattle.std.specs.Option.{option_map_or}
use Rattle.std.specs.Ordering.{nat_cmp, ordering_then}
use Rattle.std.specs.declared.cmp.Ordering.TheVariants.{Less, Greater}
use Rattle.std.proofs.lemmas.Bool.{and_parts, lt-ltb, le-ltb}
use Rattle.std.proofs.lemmas.List.{get_or-take, length-take}
use Rattle.std.proofs.lemmas.List.Recursion.{and_from_places}
use Rattle.std.proofs.lemmas.List.Sums.{fails_before_first}
use Rattle.iop_base.specs.Places.{phys}
use Rattle.iop_base.specs.Strings.{before_zero}
use Rattle.iop_printf.specs.Texts.{string_at}
use Rattle.iop_printf.proofs.Fronts.{place_or_len}
use Rattle.iop_sysclib.specs.MemoryCalls.{order_word, compared}
use Rattle.iop_sysclib.specs.StringCalls.{strcmp, strncmp}

-- no byte is zero
abbrev pub has_no_zero : List ℕ → Bool
has_no_zero bytes = list_all (λ b. not (b == 0)) bytes

pub before_zero_is : (xs : List ℕ) → before_zero xs ≡ take (position_or_len (λ b. b == 0) xs) xs
before_zero_is xs = ap (λ k. take k xs) (place_or_len (λ b. b == 0) xs)

front_has_none : (xs : List ℕ) → has_no_zero (take (position_or_len (λ b. b == 0) xs) xs) ≡ true
front_has_none xs =
    let n = position_or_len (λ b. b == 0) xs in
    and_from_places has_no_zero (λ b. not (b == 0)) refl (λ _ _. refl) (take n xs) 0
    (λ i inside.
    let below : i < n = omega (arith, inside, length-take n xs) in
    ap (λ b. not (b == 0)) (get_or-take n xs i 0 below)
    ∙ ap not (fails_before_first (λ b. b == 0) xs i 0 below))

pub string_has_no_zero : (ram : List ℕ) (at : ℕ) → has_no_zero (string_at ram at) ≡ true
unfolding string_at
string_has_no_zero ram at =
    elim (phys (length ram) at) as (λ place.
    has_no_zero (option_map_or (λ p. before_zero (drop p ram)) place []) ≡ true) [
      | None ↦ refl
      | Some p ↦ ap has_no_zero (before_zero_is (drop p ram)) ∙ front_has_none (drop p ram)
    ]

above_zero : (y : ℕ) → not (y == 0) ≡ true → nat_lt 0 y ≡ true
above_zero zero is = cc
above_zero (suc y) is = lt-ltb 0 (suc y) (omega arith)

-- a byte that is not zero is above it
less : (y : ℕ) → not (y == 0) ≡ true → nat_cmp 0 y ≡ Less
less y is = rw (above_zero y is) refl

greater : (x : ℕ) → not (x == 0) ≡ true → nat_cmp x 0 ≡ Greater
greater zero is = cc
greater (suc x) is =
    let past = le-ltb (suc x) 0 (omega arith) in
    let apart : (suc x == 0) ≡ false = ne_eqb (suc x) 0 (omega arith) in rw (past, apart) refl

-- the ends decide as the lengths do
pub ended_cmp : (xs ys : List ℕ) → has_no_zero xs ≡ true → has_no_zero ys ≡ true
    → slice_cmp nat_cmp (xs ++ 0 ∷ []) (ys ++ 0 ∷ []) ≡ slice_cmp nat_cmp xs ys
ended_cmp [] [] a b = refl
ended_cmp [] (y ∷ ys) a b =
    let parts = and_parts (not (y == 0)) (has_no_zero ys) b in rw (less y parts.0) refl
ended_cmp (x ∷ xs) [] a b =
    let parts = and_parts (not (x == 0)) (has_no_zero xs) a in rw (greater x parts.0) refl
ended_cmp (x ∷ xs) (y ∷ ys) a b =
    let first = and_parts (not (x == 0)) (has_no_zero xs) a in
    let second = and_parts (not (y == 0)) (has_no_zero ys) b in
    ap (ordering_then (nat_cmp x y)) (ended_cmp xs ys first.1 second.1)

pub take-nil : (n : ℕ) → take {A = ℕ} n [] ≡ []
take-nil zero = refl
take-nil (suc n) = refl

pub cut_cmp : (n : ℕ) (xs ys : List ℕ) → has_no_zero xs ≡ true → has_no_zero ys ≡ true
    → slice_cmp nat_cmp (take n (xs ++ 0 ∷ [])) (take n (ys ++ 0 ∷ []))
    ≡ slice_cmp nat_cmp (take n xs) (take n ys)
cut_cmp zero xs ys a b = refl
cut_cmp (suc n) [] [] a b = rw (take-nil n) refl
cut_cmp (suc n) [] (y ∷ ys) a b =
    let parts = and_parts (not (y == 0)) (has_no_zero ys) b in rw (less y parts.0) refl
cut_cmp (suc n) (x ∷ xs) [] a b =
    let parts = and_parts (not (x == 0)) (has_no_zero xs) a in rw (greater x parts.0) refl
cut_cmp (suc n) (x ∷ xs) (y ∷ ys) a b =
    let first = and_parts (not (x == 0)) (has_no_zero xs) a in
    let second = and_parts (not (y == 0)) (has_no_zero ys) b in
    ap (ordering_then (nat_cmp x y)) (cut_cmp n xs ys first.1 second.1)

-- the order of strings without their ends
pub strcmp_is : (ram : List ℕ) (a b : ℕ)
    → compared (string_at ram a) (string_at ram b) ≡ strcmp ram a b
unfolding strcmp
strcmp_is ram a b =
    ap order_word (sym (ended_cmp (string_at ram a) (string_at ram b) (string_has_no_zero ram a)
    (string_has_no_zero ram b)))

pub strncmp_is : (ram : List ℕ) (a b most : ℕ)
    → compared (take most (string_at ram a)) (take most (string_at ram b))
    ≡ strncmp ram a b most
unfolding strncmp
strncmp_is ram a b most =
    ap order_word (sym (cut_cmp most (string_at ram a) (string_at ram b)
    (string_has_no_zero ram a) (string_has_no_zero ram b)))
