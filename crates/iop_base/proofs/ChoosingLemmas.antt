-- The best is the first of the least.
use Rattle.std.proofs.Common.{◌≡◌, ℕ, ◌<◌, ◌≤◌, Bool, true, false, Option, Some, None, List, [], ◌∷◌, refl, ap, arith, subst, sym, MatchOption, cond, nat_lt}
use Rattle.std.specs.List.{All}
use Rattle.std.proofs.lemmas.Bool.{ltb-true, ltb-false}
use Rattle.std.proofs.lemmas.List.Elements.{All-nil, All-cons, All-append, All-weaker}
use Rattle.iop_base.specs.Choosing.{better, best}
use Rattle.iop_base.specs.Laws.{IsFirstOfLeast}

module _ (number : ℕ → ℕ) (x : ℕ) (xs : List ℕ) where
  -- what is no smaller than the best is no smaller than any
  -- no number of the rest is smaller than that of x
  abbrev IsLeast : List ℕ → Type 0
  IsLeast ys = All (λ z. number x ≤ number z) ys

  all_over : (y : ℕ) → number x ≤ number y → IsFirstOfLeast number xs y
      → IsLeast xs
  all_over y le h =
      let over : ℕ → Type 0 = λ z. number x ≤ number z in
      let before =
      All-weaker (λ z. number y < number z) over (λ z q. omega arith) h.before h.least_before in
      let after =
      All-weaker (λ z. number y ≤ number z) over (λ z q. omega arith) h.after h.least_after in
      subst IsLeast (sym h.xs_are)
      (All-append over h.before (y ∷ h.after) before (All-cons over y h.after le after))

  keeps : IsLeast xs → IsFirstOfLeast number (x ∷ xs) x
  keeps all = record {
    before = [];
    after = xs;
    xs_are = refl;
    least_before = All-nil (λ z. number x < number z);
    least_after = all;
  }

  chooses : (y : ℕ) → IsFirstOfLeast number xs y → (b : Bool) → nat_lt (number y) (number x) ≡ b
      → IsFirstOfLeast number (x ∷ xs) (cond b y x)
  chooses y h true e = record {
    before = x ∷ h.before;
    after = h.after;
    xs_are = ap (λ zs. x ∷ zs) h.xs_are;
    least_before = All-cons (λ z. number y < number z) x h.before (ltb-true _ _ e) h.least_before;
    least_after = h.least_after;
  }
  chooses y h false e = keeps (all_over y (ltb-false _ _ e) h)

  one_more : (o : Option ℕ) → MatchOption o (xs ≡ []) (IsFirstOfLeast number xs)
      → IsFirstOfLeast number (x ∷ xs) (better number x o)
  one_more None e =
      keeps (subst IsLeast (sym e) (All-nil (λ z. number x ≤ number z)))
  one_more (Some y) h = chooses y h (nat_lt (number y) (number x)) refl

pub best_is_first : (number : ℕ → ℕ) (xs : List ℕ)
    → MatchOption (best number xs) (xs ≡ []) (IsFirstOfLeast number xs)
best_is_first number [] = refl
best_is_first number (x ∷ xs) = one_more number x xs (best number xs) (best_is_first number xs)
