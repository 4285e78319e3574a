-- What the laws of the definitions say.
use Rattle.std.specs.Prelude.{◌≡◌, ℕ, ◌+◌, ◌<◌, ◌≤◌, ◌⊎◌, ◌↔◌, List, [], ◌∷◌, ◌++◌, All, MatchOption, IfSome}
use Rattle.iop_base.specs.Choosing.{best}
use Rattle.iop_base.specs.Counts.{HasCause, last_count}
use Rattle.iop_base.specs.Places.{range_at}

-- x stands in the list, no number before it is as small as its own, and none behind it is smaller
pub record IsFirstOfLeast (number : ℕ → ℕ) (xs : List ℕ) (x : ℕ) : Type 0 where
  pub before : List ℕ
  pub after : List ℕ
  pub xs_are : xs ≡ before ++ x ∷ after
  pub least_before : All (λ y. number x < number y) before
  pub least_after : All (λ y. number x ≤ number y) after

abbrev pub BestIsTheFirstOfTheLeast : Type 0
BestIsTheFirstOfTheLeast =
    (number : ℕ → ℕ) (xs : List ℕ)
    → MatchOption (best number xs) (xs ≡ []) (IsFirstOfLeast number xs)

abbrev pub PlacesAreInside : Type 0
PlacesAreInside = (size at len : ℕ) → IfSome (range_at size at len) (λ p. p + len ≤ size)

abbrev pub CausesShow : Type 0
CausesShow = (old new : ℕ) → HasCause old new ↔ ((old < new) ⊎ (last_count ≤ new))
