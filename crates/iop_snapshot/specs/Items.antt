-- Items of a snapshot: lists of numbers, each of 1, 2, 4 or 8 bytes, the lowest byte first. This
-- project's own profile.
use Rattle.std.specs.Prelude.{ℕ, ◌+◌, ◌^◌, nat_lt, Bool, true, false, ◌&&◌, ◌||◌, ◌==◌, if◌then◌else◌, Option, Some, None, List, [], ◌∷◌, ◌++◌, length, take, drop}
use Rattle.iop_base.specs.Numbers.{number_at, bytes_of}

-- how many bytes a number may take
abbrev pub is_width : ℕ → Bool
is_width width = width == 1 || width == 2 || width == 4 || width == 8

-- how many bytes numbers of these widths take together
abbrev pub item_size : (widths : List ℕ) → ℕ
item_size [] = 0
item_size (width ∷ widths) = width + item_size widths

-- whether there are as many numbers as widths, each of which has room in its own
abbrev pub fits_item : (widths numbers : List ℕ) → Bool
fits_item [] [] = true
fits_item [] (number ∷ numbers) = false
fits_item (width ∷ widths) [] = false
fits_item (width ∷ widths) (number ∷ numbers) =
    nat_lt number (256 ^ width) && fits_item widths numbers

-- the bytes of the numbers, one behind the other
unfoldable pub spell_item : (widths numbers : List ℕ) → List ℕ
spell_item [] numbers = []
spell_item (width ∷ widths) [] = []
spell_item (width ∷ widths) (number ∷ numbers) =
    bytes_of width number ++ spell_item widths numbers

-- the numbers that stand at the front of some bytes
unfoldable pub numbers_in : (widths bytes : List ℕ) → List ℕ
numbers_in [] bytes = []
numbers_in (width ∷ widths) bytes = number_at bytes 0 width ∷ numbers_in widths (drop width bytes)

-- the numbers at the front, and the bytes behind them; none where there are too few bytes
unfoldable pub read_item : (widths bytes : List ℕ) → Option (List ℕ × List ℕ)
read_item widths bytes =
    if nat_lt (length bytes) (item_size widths) then None
    else Some (numbers_in widths bytes, drop (item_size widths) bytes)

-- so many bytes at the front, and those behind them; none where there are too few
abbrev pub read_bytes : ℕ → List ℕ → Option (List ℕ × List ℕ)
read_bytes count bytes =
    if nat_lt (length bytes) count then None else Some (take count bytes, drop count bytes)
