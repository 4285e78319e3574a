-- What does not hold of a file that breaks a rule, in words. The rules are those of ELF TIS 1.2, of
-- ps2sdk's IRX files and of this project's profile.
use Rattle.std.specs.Prelude.{ℕ, ◌==◌, nat_le, Bool, if◌then◌else◌, List, codes}

abbrev pub rule_text : ℕ → List ℕ
rule_text rule =
    if rule == 1 then codes "it has fewer than 52 bytes"
    else if rule == 2 then codes "it does not begin with 7F 45 4C 46 01 01"
    else if rule == 3 then codes "its type is not 0xFF80"
    else if rule == 4 then codes "its machine is not 8"
    else if rule == 5 then codes "its program headers are not of 32 bytes, or not in the file"
    else if rule == 6 then codes "it has no program header of type 0x70000080"
    else if rule == 7 then codes "it has no program header of type 1"
    else if rule == 8 then codes "its module information is not in the file, or not whole"
    else if rule == 9 then codes "its image is not in the file"
    else if rule == 10 then codes "the sizes of its text and its image do not fit"
    else if rule == 11 then codes "its section headers are not of 40 bytes, or not in the file"
    else if rule == 12 then codes
    "a section of relocation entries is not in the file, not whole, or names no section"
    else if rule == 13 then codes "the site of a relocation entry is no word of the image"
    else if rule == 14 then codes "a relocation entry has none of the types 0, 2, 4, 5, 6"
    else if rule == 15 then codes
    "a relocation entry of type 5 has no later one of type 6 in its section"
    else codes "this is no rule"

-- the place of such a rule is one of the file; that of a later rule is one of the image
abbrev pub is_of_file : ℕ → Bool
is_of_file rule = nat_le rule 12
