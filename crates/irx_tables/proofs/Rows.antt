-- Rows of places: the first that passes a test, and how many pass from the front on.
use Rattle.std.proofs.Common.{◌≡◌, ℕ, zero, suc, ◌+◌, ◌*◌, ◌<◌, ◌≤◌, Bool, true, false, Some, None, length, get_or, refl, ap, sym, ◌∙◌, arith, cond}
use Rattle.std.specs.List.{find, prefix_len}
use Rattle.std.proofs.lemmas.List.Sums.{prefix_len_is}
use Rattle.irx_tables.specs.Places.{places}

pub length-places : (step p n : ℕ) → length (places step p n) ≡ n
length-places step p zero = refl
length-places step p (suc n) = grind (arith, length-places step (p + step) n)

pub get_or-places : (step p n k d : ℕ) → k < n → get_or (places step p n) k d ≡ p + step * k
get_or-places step p zero k d lt = omega arith
get_or-places step p (suc n) zero d lt = omega arith
get_or-places step p (suc n) (suc k) d lt = grind (arith, get_or-places step (p + step) n k d)

-- one test of one place
pub same_test : (test : ℕ → Bool) {q r : ℕ} {b : Bool} → q ≡ r → test q ≡ b → test r ≡ b
same_test test e t = sym (ap test e) ∙ t

module _ (test : ℕ → Bool) (step : ℕ) where
  pub find_places : (p n k : ℕ) → k < n → ((j : ℕ) → j < k → test (p + step * j) ≡ false)
      → test (p + step * k) ≡ true → find test (places step p n) ≡ Some (p + step * k)
  find_places p zero k lt before here = absurd (omega arith)
  find_places p (suc n) zero lt before here =
      let e : p + step * 0 ≡ p = omega arith in
      let t = same_test test e here in
      rw (t, e) refl
  find_places p (suc n) (suc k) lt before here =
      let e : p + step * 0 ≡ p = omega arith in
      let shift : (j : ℕ) → p + step * suc j ≡ p + step + step * j = λ j. omega arith in
      let t = same_test test e (before 0 (omega arith)) in
      rw (t, shift k)
      (find_places (p + step) n k (omega arith)
      (λ j lt2. same_test test (shift j) (before (suc j) (omega arith)))
      (same_test test (shift k) here))

  pub find_no_place : (p n : ℕ) → ((j : ℕ) → j < n → test (p + step * j) ≡ false)
      → find test (places step p n) ≡ None
  find_no_place p zero none = refl
  find_no_place p (suc n) none =
      let e : p + step * 0 ≡ p = omega arith in
      let shift : (j : ℕ) → p + step * suc j ≡ p + step + step * j = λ j. omega arith in
      let t = same_test test e (none 0 (omega arith)) in
      rw t
      (find_no_place (p + step) n (λ j lt. same_test test (shift j) (none (suc j) (omega arith))))

  pub prefix_len_places : (p n k : ℕ) → k ≤ n → ((j : ℕ) → j < k → test (p + step * j) ≡ true)
      → (k < n → test (p + step * k) ≡ false) → prefix_len test (places step p n) ≡ k
  prefix_len_places p n k le passes stops =
      prefix_len_is test (places step p n) k 0 (omega (arith, length-places step p n))
      (λ j lt. same_test test (sym (get_or-places step p n j 0 (omega arith))) (passes j lt))
      (λ lt. let below : k < n = omega (arith, length-places step p n) in
      same_test test (sym (get_or-places step p n k 0 below)) (stops below))

-- the k-th place is the first that passes
pub record IsFirst (test : ℕ → Bool) (step p n q : ℕ) : Type 0 where
  pub k : ℕ
  pub below : k < n
  pub place : q ≡ p + step * k
  pub passes : test q ≡ true
  pub before : (j : ℕ) → j < k → test (p + step * j) ≡ false

module _ (test : ℕ → Bool) (step : ℕ) where
  -- what holds of a row's first place and of those behind it
  fails_before : (p k j : ℕ) → test p ≡ false
      → ((i : ℕ) → i < k → test (p + step + step * i) ≡ false) → j < suc k
      → test (p + step * j) ≡ false
  fails_before p k zero t behind lt = let e : p ≡ p + step * 0 = omega arith in same_test test e t
  fails_before p k (suc j) t behind lt =
      let e : p + step + step * j ≡ p + step * suc j = omega arith in
      same_test test e (behind j (omega arith))

  found_or : (p n q : ℕ) (b : Bool) → test p ≡ b
      → cond b (Some p) (find test (places step (p + step) n)) ≡ Some q
      → (find test (places step (p + step) n) ≡ Some q → IsFirst test step (p + step) n q)
      → IsFirst test step p (suc n) q
  found_or p n q true t e behind =
      let same : p ≡ q = cc in
      record {
        k = 0;
        below = omega arith;
        place = omega arith;
        passes = same_test test same t;
        before = λ j lt. absurd (omega arith);
      }
  found_or p n q false t e behind =
      let h = behind e in
      record {
        k = suc h.k;
        below = omega (arith, h.below);
        place = omega (arith, h.place);
        passes = h.passes;
        before = λ j lt. fails_before p h.k j t h.before lt;
      }

  pub found_place : (p n q : ℕ) → find test (places step p n) ≡ Some q → IsFirst test step p n q
  found_place p zero q e = absurd (cc)
  found_place p (suc n) q e = found_or p n q (test p) refl e (found_place (p + step) n q)

  no_or : (p n : ℕ) (b : Bool) → test p ≡ b
      → cond b (Some p) (find test (places step (p + step) n)) ≡ None
      → (find test (places step (p + step) n) ≡ None → (j : ℕ) → j < n
      → test (p + step + step * j) ≡ false) → (j : ℕ) → j < suc n → test (p + step * j) ≡ false
  no_or p n true t e behind j lt = absurd (cc)
  no_or p n false t e behind j lt = fails_before p n j t (behind e) lt

  pub no_place : (p n : ℕ) → find test (places step p n) ≡ None → (j : ℕ) → j < n
      → test (p + step * j) ≡ false
  no_place p zero e j lt = absurd (omega arith)
  no_place p (suc n) e j lt = no_or p n (test p) refl e (no_place (p + step) n) j lt
