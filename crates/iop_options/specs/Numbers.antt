-- Numbers in the values of options: this project's own profile.
use Rattle.std.specs.Prelude.{ℕ, nat_le, Bool, ◌&&◌, if◌then◌else◌, Option, Some, None, List, length}
use Rattle.std.specs.List.{list_all}
use Rattle.std.specs.Char.{is_digit}
use Rattle.std.specs.Str.Parse.{digits_value}

-- digits of a base, one at least. A digit above 9 is a letter of either case
abbrev pub is_numeral : (base : ℕ) → List ℕ → Bool
is_numeral base text = nat_le 1 (length text) && list_all (λ byte. is_digit byte base) text

-- the number that a text writes, if it is one from least to most. Zeros may stand first
unfoldable pub number_of : (base least most : ℕ) → List ℕ → Option ℕ
number_of base least most text =
    if is_numeral base text
    && nat_le least (digits_value base text) && nat_le (digits_value base text) most
    then Some (digits_value base text)
    else None
