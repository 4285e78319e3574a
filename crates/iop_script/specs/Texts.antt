-- The parts of a script's text, and the numbers in it: this project's own profile.
use Rattle.std.specs.Prelude.{ℕ, ◌+◌, ◌*◌, ◌-◌, ◌==◌, nat_le, Bool, not, ◌&&◌, ◌||◌, if◌then◌else◌, Option, Some, None, List, [], length, fold, slice_index}
use Rattle.std.specs.List.{list_all, slice_split}
use Rattle.std.specs.Char.{is_ascii_digit}

abbrev pub line_feed : ℕ
line_feed = 10

abbrev pub space : ℕ
space = 0x20

-- what stands before, between and behind the separators
abbrev pub parts : ℕ → List ℕ → List (List ℕ)
parts separator text = slice_split (λ b. b == separator) text

-- the parts of what stands behind a separator, if there is one
abbrev pub parts_behind : ℕ → Option (List ℕ) → List (List ℕ)
parts_behind separator None = []
parts_behind separator (Some rest) = parts separator rest

-- decimal digits, one at least, and no zero before others
unfoldable pub is_decimal : List ℕ → Bool
is_decimal digits =
    not (length digits == 0) && (length digits == 1 || not (slice_index digits 0 == 0x30))
    && list_all is_ascii_digit digits

abbrev pub value_of : List ℕ → ℕ
value_of digits = fold (λ n b. n * 10 + (b - 0x30)) 0 digits

-- the number of a field, if it is one from least to most
unfoldable pub number_of : (least most : ℕ) → List ℕ → Option ℕ
number_of least most field =
    if is_decimal field && nat_le least (value_of field) && nat_le (value_of field) most
    then Some (value_of field)
    else None
