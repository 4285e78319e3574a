-- The digits of numbers.
use Rattle.std.proofs.Common.{◌≡◌, ℕ, ◌<◌, ◌≤◌, Bool, true, false, List, length, get_or, refl, sym, ◌∙◌}
use Rattle.std.specs.List.{list_all}
use Rattle.std.specs.Char.{is_ascii_digit}
use Rattle.std.proofs.lemmas.Bool.{true≢false, and_parts, leb-true}
use Rattle.std.proofs.lemmas.List.Folds.{list_all_at}
use Rattle.iop_script.specs.Texts.{is_decimal}

-- a decimal number has no byte but digits
pub decimal : (field : List ℕ) → is_decimal field ≡ true → list_all is_ascii_digit field ≡ true
unfolding is_decimal
decimal field is = (and_parts _ _ is).1

pub digit_at : (field : List ℕ) (k : ℕ) → list_all is_ascii_digit field ≡ true →
    k < length field → 48 ≤ get_or field k 0
digit_at field k digits inside = at (is_ascii_digit (get_or field k 0)) refl
  where
    at : (is : Bool) → is_ascii_digit (get_or field k 0) ≡ is → 48 ≤ get_or field k 0
    at true is = leb-true _ _ (and_parts _ _ is).0
    at false is =
        absurd (true≢false (sym digits ∙ list_all_at is_ascii_digit field k 0 inside is))
