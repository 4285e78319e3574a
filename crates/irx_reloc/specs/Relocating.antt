-- What relocation entries make of an image (System V ABI, MIPS supplement). That each symbol counts
-- as the image's base, and that a HI16 takes the low half of the first LO16 behind it in its
-- section, are this project's profile. Sums are taken modulo 2 ^ 32.
use Rattle.std.specs.Prelude.{ℕ, ◌+◌, ◌*◌, ◌/◌, ◌%◌, ◌^◌, ◌==◌, if◌then◌else◌, Option, Some, None, List, [], ◌∷◌}
use Rattle.std.specs.List.{find}
use Rattle.std.specs.Option.{option_map_or}
use Rattle.iop_base.specs.Numbers.{wrapped, sign_extended, high_half, word_at}
use Rattle.irx_reloc.specs.Words.{with_word}
use Rattle.iop_base.specs.declared.relocation_types.TheConstants.{R_MIPS_32, R_MIPS_26, R_MIPS_HI16, R_MIPS_LO16}
use Rattle.irx_reloc.specs.Entries.{is_low}

-- a word with other low bits
abbrev pub with_low_bits : ℕ → ℕ → ℕ → ℕ
with_low_bits bits word value = word / 2 ^ bits * 2 ^ bits + value % 2 ^ bits

-- the address that a high and a signed low half give, moved by the base
abbrev pub moved_address : (high low base : ℕ) → ℕ
moved_address high low base = wrapped (high * 65536 + sign_extended 16 low + base)

-- the word that an entry of this type leaves at its site, unless it leaves it as it is; `low` is
-- the low half that a HI16 takes
unfoldable pub moved_word : (number word low base : ℕ) → Option ℕ
moved_word number word low base =
    if number == R_MIPS_32 then Some (wrapped (word + base))
    else if number == R_MIPS_26 then Some (with_low_bits 26 word (word % 2 ^ 26 + base / 4))
    else if number == R_MIPS_HI16 then Some
    (with_low_bits 16 word (high_half (moved_address (word % 2 ^ 16) low base)))
    else if number == R_MIPS_LO16 then Some (with_low_bits 16 word (word % 2 ^ 16 + base))
    else None

-- the low half of the word at the site of an entry, if there is one
abbrev pub half_of : List ℕ → Option (ℕ × ℕ) → ℕ
half_of image entry = option_map_or (λ low. word_at image low.0 % 2 ^ 16) entry 0

-- that of the first LO16
abbrev pub paired_low : List ℕ → List (ℕ × ℕ) → ℕ
paired_low image later = half_of image (find is_low later)

-- one entry, with the low half that a HI16 takes
unfoldable pub after_entry : List ℕ → ℕ × ℕ → (low base : ℕ) → List ℕ
after_entry image entry low base =
    option_map_or (with_word image entry.0) (moved_word entry.1 (word_at image entry.0) low base)
    image

-- the entries of a section in order, each on the image as it then stands
abbrev pub after_section : List ℕ → List (ℕ × ℕ) → ℕ → List ℕ
after_section image [] base = image
after_section image (entry ∷ later) base =
    after_section (after_entry image entry (paired_low image later) base) later base

-- the sections in order
abbrev pub relocated_image : List ℕ → List (List (ℕ × ℕ)) → ℕ → List ℕ
relocated_image image [] base = image
relocated_image image (section ∷ later) base =
    relocated_image (after_section image section base) later base
