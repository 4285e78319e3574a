-- Which bytes stand where in what is spelled.
use Rattle.std.specs.Prelude.{◌≡◌, ℕ, ◌+◌, ◌/◌, ◌%◌, ◌^◌, ◌<◌, true, List, ◌∷◌, ◌++◌, length, slice_index}
use Rattle.std.specs.List.{flat_map}
use Rattle.iop_base.specs.Numbers.{bytes_of}
use Rattle.iop_snapshot.specs.Items.{item_size, fits_item, spell_item}
use Rattle.iop_snapshot.specs.Forms.{Form, IsLawful, spell_list, repeated}

-- a number that stands in an item behind others, which have room in their widths, and before others
pub record NumberLies (before_widths before : List ℕ) (width number : ℕ)
    (after_widths after : List ℕ) : Type 0 where
  -- its bytes stand between those of the others
  pub behind : spell_item (before_widths ++ width ∷ after_widths) (before ++ number ∷ after)
      ≡ spell_item before_widths before ++ (bytes_of width number ++ spell_item after_widths after)
  -- they are its digits to the base 256, the lowest first
  pub digit : (k : ℕ) → k < width
      → slice_index (spell_item (before_widths ++ width ∷ after_widths) (before ++ number ∷ after))
      (item_size before_widths + k) ≡ number / 256 ^ k % 256

-- an item takes as many bytes as its widths together, and holds its numbers one behind the other
pub record ItemsAreLaid : Type 0 where
  pub size : (widths numbers : List ℕ) → fits_item widths numbers ≡ true
      → length (spell_item widths numbers) ≡ item_size widths
  pub numbers : (before_widths before : List ℕ) (width number : ℕ) (after_widths after : List ℕ)
      → fits_item before_widths before ≡ true
      → NumberLies before_widths before width number after_widths after

-- a list begins with the four bytes of its count, and its items follow, one behind the other
abbrev pub ListsBeginWithCount : (X : Type 0) → Type 0
ListsBeginWithCount X =
    (form : Form X) (xs : List X)
    → spell_list form xs ≡ bytes_of 4 (length xs) ++ flat_map form.spell xs

abbrev pub RepeatedIsLawful : (X : Type 0) → Type 0
RepeatedIsLawful X =
    (count : ℕ) (form : Form X) → IsLawful form → IsLawful (repeated count form)
