-- What a number that is given, or given back, leaves of numbers that are used or free.
use Rattle.std.proofs.Common.{◌≡◌, ◌≢◌, ℕ, zero, suc, ◌+◌, ◌-◌, ◌<◌, ◌≤◌, ◌⊎◌, inl, inr, Bool, true, false, cond, Some, List, [], ◌∷◌, ◌++◌, length, take, drop, get_or, refl, ap, ◌∙◌, arith}
use Rattle.std.specs.Prelude.{◌==◌}
use Rattle.std.specs.List.{remove, range_with_len}
use Rattle.std.proofs.lemmas.Bool.{eq-eqb, ne_eqb, eqb-true, eqb-false, cases_order}
use Rattle.std.proofs.lemmas.List.{length_push}
use Rattle.std.proofs.lemmas.List.Edits.{length-remove, get_or-remove_below, get_or-remove_above}
use Rattle.std.proofs.lemmas.List.Elements.{All-nil, All-append, All-take, All-drop, All-push, All-pop}
use Rattle.std.proofs.lemmas.List.FromFn.{length-range_with_len, get_or-range_with_len}
use Rattle.std.proofs.lemmas.List.Sums.{sum_by_push, sum_by-remove, sum_by-cons, get_or-le-sum_by}
use Rattle.iop_queues.specs.Numbers.{uses, AreNumbers}

-- 1 where a number is another one, else 0
abbrev pub same : ℕ → ℕ → ℕ
same n k = cond (k == n) 1 0

pub same-own : (n k : ℕ) → k ≡ n → same n k ≡ 1
same-own n k e = ap (λ b. cond b 1 0) (eq-eqb k n e)

pub same-other : (n k : ℕ) → k ≢ n → same n k ≡ 0
same-other n k apart = ap (λ b. cond b 1 0) (ne_eqb k n apart)

pub uses-push : (n : ℕ) (xs : List ℕ) (k : ℕ) → uses n (xs ++ k ∷ []) ≡ uses n xs + same n k
uses-push n xs k = sum_by_push (same n) xs k

pub uses-remove : (n : ℕ) (xs : List ℕ) (i d : ℕ) → i < length xs
    → uses n (remove xs i) + same n (get_or xs i d) ≡ uses n xs
uses-remove n xs i d below = sum_by-remove (same n) xs i d below

-- a number that stands in a list is used there
pub uses-at : (n : ℕ) (xs : List ℕ) (i d : ℕ) → i < length xs → get_or xs i d ≡ n → 1 ≤ uses n xs
uses-at n xs i d below e =
    omega (arith, same-own n (get_or xs i d) e, get_or-le-sum_by (same n) xs i d below)

-- the first numbers
uses-range-below : (m a n : ℕ) → m < a → uses m (range_with_len a n) ≡ 0
uses-range-below m a zero less = refl
uses-range-below m a (suc n) less =
    omega (
      arith,
      sum_by-cons (same m) a (range_with_len (a + 1) n),
      same-other m a (λ e. omega (arith, e, less)),
      uses-range-below m (a + 1) n (omega (arith, less)),
    )

uses-range : (m a n : ℕ) → uses m (range_with_len a n) ≤ 1
uses-range m a zero = omega arith
uses-range m a (suc n) = either (uses-range m (a + 1) n) (a == m) refl
  where
    either : uses m (range_with_len (a + 1) n) ≤ 1 → (b : Bool) → (a == m) ≡ b
        → uses m (a ∷ range_with_len (a + 1) n) ≤ 1
    either later true is =
        let e = eqb-true a m is in
        omega (
          arith,
          sum_by-cons (same m) a (range_with_len (a + 1) n),
          same-own m a e,
          uses-range-below m (a + 1) n (omega (arith, e)),
        )
    either later false is =
        omega (
          arith,
          sum_by-cons (same m) a (range_with_len (a + 1) n),
          same-other m a (eqb-false a m is),
          later,
        )

abbrev IsBelow : ℕ → ℕ → Type 0
IsBelow bound n = n < bound

-- at first all are free
pub AreNumbers-first : (bound : ℕ) → AreNumbers bound [] (range_with_len 0 bound)
AreNumbers-first bound = record {
  once = λ n. omega (arith, uses-range n 0 bound);
  used_below = All-nil (IsBelow bound);
  free_below = λ k d below.
      let inside : k < bound = omega (arith, length-range_with_len 0 bound, below) in
      omega (arith, get_or-range_with_len 0 bound k d inside, inside);
  all = omega (arith, length-range_with_len 0 bound);
}

module _ {bound : ℕ} {used free : List ℕ} where
  -- the last of the free numbers is used
  pub given : (k : ℕ) → AreNumbers bound used (free ++ k ∷ [])
      → AreNumbers bound (used ++ k ∷ []) free
  given k h =
      let below = All-pop (IsBelow bound) (free ++ k ∷ []) free (Some k) refl h.free_below in
      record {
        once = λ n. omega (arith, h.once n, uses-push n used k, uses-push n free k);
        used_below = All-push (IsBelow bound) used k h.used_below below.1;
        free_below = below.0;
        all = omega (arith, h.all, length_push used k, length_push free k);
      }

  -- a used number is free again
  pub given_back : AreNumbers bound used free → (i d : ℕ) → i < length used
      → AreNumbers bound (remove used i) (free ++ get_or used i d ∷ [])
  given_back h i d inside =
      let k = get_or used i d in
      record {
        once = λ n. omega (arith, h.once n, uses-remove n used i d inside, uses-push n free k);
        used_below =
            All-append (IsBelow bound) (take i used) (drop (suc i) used)
            (All-take (IsBelow bound) i used h.used_below)
            (All-drop (IsBelow bound) (suc i) used h.used_below);
        free_below = All-push (IsBelow bound) free k h.free_below (h.used_below i d inside);
        all = omega (arith, h.all, length-remove used i inside, length_push free k);
      }

  -- a number is used at one place alone
  pub used_apart : AreNumbers bound used free → (i j d : ℕ) → i < length used → j < length used
      → j ≢ i → get_or used j d ≢ get_or used i d
  used_apart h i j d first second apart is = by (cases_order j i)
    where
      twice : (k : ℕ) → k + 1 < length used → get_or (remove used i) k d ≡ get_or used i d → ⊥
      twice k below e =
          let n = get_or used i d in
          let left = length-remove used i first in
          omega (
            arith,
            h.once n,
            uses-remove n used i d first,
            same-own n n refl,
            uses-at n (remove used i) k d (omega (arith, left, below)) e,
          )

      by : (j ≡ i) ⊎ ((j < i) ⊎ (i < j)) → ⊥
      by (inl e) = apart e
      by (inr (inl before)) =
          twice j (omega (arith, before, first))
          (get_or-remove_below used i d j before first ∙ is)
      by (inr (inr behind)) =
          let next : j - 1 + 1 ≡ j = omega (arith, behind) in
          twice (j - 1) (omega (arith, next, second))
          (get_or-remove_above used i d (j - 1) (omega (arith, behind)) first
          ∙ ap (λ k. get_or used k d) next ∙ is)
