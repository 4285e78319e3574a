-- The first part of a text, and those behind it.
use Rattle.std.proofs.Common.{◌≡◌, ℕ, suc, ◌+◌, ◌≤◌, ◌==◌, nat_lt, nat_le, Bool, Some, None, List, [], ◌∷◌, length, take, drop, sym, ap, ◌∙◌, ⊎_elim, arith}
use Rattle.std.specs.List.{count_by, position, position_or_len, slice_split}
use Rattle.std.proofs.lemmas.Bool.{cases_lt, cond_below}
use Rattle.std.proofs.lemmas.List.{take_rest}
use Rattle.std.proofs.lemmas.List.Quantifiers.{position-Some}
use Rattle.std.proofs.lemmas.List.Splits.{length-slice_split, slice_split_first, slice_split_none}
use Rattle.std.proofs.lemmas.List.Sums.{fails_before_first, position_or_len_is}
use Rattle.std.proofs.lemmas.Option.{none-some}
use Rattle.iop_script.specs.Texts.{parts}

module _ (p : ℕ → Bool) (xs : List ℕ) where
  -- where nothing passes the list is the one part
  slice_split_uncut : length xs ≤ position_or_len p xs → slice_split p xs ≡ xs ∷ []
  slice_split_uncut past =
      slice_split_none p xs (λ k d inside. fails_before_first p xs k d (omega arith))

  pub slice_split_without : position p xs ≡ None → slice_split p xs ≡ xs ∷ []
  slice_split_without none =
      let n = position_or_len p xs in
      ⊎_elim (λ inside. absurd (none-some n (sym none
      ∙ sym (cond_below n (length xs) (Some n) None inside)))) slice_split_uncut
      (cases_lt n (length xs))

  -- the first that passes ends the first part
  pub slice_split_with : (i : ℕ) → position p xs ≡ Some i →
      slice_split p xs ≡ take i xs ∷ slice_split p (drop (i + 1) xs)
  slice_split_with i some =
      let at = position-Some p xs i 0 some in
      let place = position_or_len_is p xs i 0 (omega (arith, at.0)) at.2 (λ inside. at.1) in
      slice_split_first p xs 0 (omega (arith, at.0, place))
      ∙ ap (λ n. take n xs ∷ slice_split p (drop (n + 1) xs)) place

-- less than so many separators, and so many parts at most
pub few_parts : (c most : ℕ) (text : List ℕ)
    → nat_lt (count_by (λ b. b == c) text) most ≡ nat_le (length (parts c text)) most
few_parts c most text =
    let more : suc (count_by (λ b. b == c) text) ≡ length (parts c text) =
    omega (arith, length-slice_split (λ b. b == c) text) in
    ap (λ (n : ℕ). nat_le n most) more

pub ruleset counted = (few_parts)

pub ruleset first_parts = (slice_split_without, slice_split_with, take_rest)
