-- Which relocation entries an image takes. The rules are this project's profile: 13, the word at
-- the site lies in the image, at a multiple of 4; 14, the type is one of the five; 15, a HI16 has a
-- later LO16 in its section. The site of an entry of type R_MIPS_NONE is not looked at.
use Rattle.std.specs.Prelude.{ℕ, ◌+◌, ◌%◌, ◌==◌, nat_le, Bool, ◌&&◌, ◌||◌, not, if◌then◌else◌, Option, Some, None, is_some, option_map, List, [], ◌∷◌}
use Rattle.std.specs.List.{find}
use Rattle.std.specs.Option.{option_or}
use Rattle.iop_base.specs.declared.illegal.Illegal.{Illegal}
use Rattle.iop_base.specs.declared.relocation_types.TheConstants.{R_MIPS_NONE, R_MIPS_32, R_MIPS_26, R_MIPS_HI16, R_MIPS_LO16}
use Rattle.irx_reloc.specs.Entries.{is_low}

-- a multiple of 4 with its four bytes in an image of so many bytes
abbrev pub is_site : ℕ → ℕ → Bool
is_site size site = site % 4 == 0 && nat_le (site + 4) size

abbrev pub is_type : ℕ → Bool
is_type number =
    number == R_MIPS_NONE || number == R_MIPS_32 || number == R_MIPS_26
    || number == R_MIPS_HI16 || number == R_MIPS_LO16

-- the first rule that an entry breaks, where it is known whether a LO16 comes later
unfoldable pub broken_rule : ℕ → ℕ × ℕ → Bool → Option ℕ
broken_rule size entry has_low =
    if entry.1 == R_MIPS_NONE then None
    else if not (is_site size entry.0) then Some 13
    else if not (is_type entry.1) then Some 14
    else if entry.1 == R_MIPS_HI16 && not has_low then Some 15
    else None

-- the first entry of a section that breaks a rule: the rule and the site
abbrev pub section_misfit : ℕ → List (ℕ × ℕ) → Option Illegal
section_misfit size [] = None
section_misfit size (entry ∷ later) =
    option_or (option_map (λ rule. record { rule = rule; at = entry.0 })
    (broken_rule size entry (is_some (find is_low later)))) (section_misfit size later)

-- the first of all sections
abbrev pub misfit : ℕ → List (List (ℕ × ℕ)) → Option Illegal
misfit size [] = None
misfit size (section ∷ later) = option_or (section_misfit size section) (misfit size later)

-- sections of entries, and the length of an image that they fit
pub record FittingEntries : Type 0 where
  pub image_length : ℕ
  pub sections : List (List (ℕ × ℕ))

abbrev pub fitting_entries : ℕ → List (List (ℕ × ℕ)) → FittingEntries
fitting_entries length sections = record { image_length = length; sections = sections }
