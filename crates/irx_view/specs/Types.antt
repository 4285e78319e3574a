-- The types of relocation entries (System V ABI, MIPS supplement): their numbers and names, and how
-- many entries are of one.
use Rattle.std.specs.Prelude.{ℕ, ◌==◌, if◌then◌else◌, List, codes, count_by, sum_by}
use Rattle.irx_view.specs.declared.relocation_type.RelocationType.{RelocationType}
use Rattle.irx_view.specs.declared.relocation_type.RelocationType.TheVariants.{Nothing, Word, Jump, High, Low}

abbrev pub number_of : RelocationType → ℕ
number_of Nothing = 0
number_of Word = 2
number_of Jump = 4
number_of High = 5
number_of Low = 6

-- the name of a number
abbrev pub name_of : ℕ → List ℕ
name_of number =
    if number == 0 then codes "R_MIPS_NONE"
    else if number == 2 then codes "R_MIPS_32"
    else if number == 4 then codes "R_MIPS_26"
    else if number == 5 then codes "R_MIPS_HI16"
    else codes "R_MIPS_LO16"

-- how many entries of a section are of a type
abbrev pub count_of : ℕ → List (ℕ × ℕ) → ℕ
count_of number section = count_by (λ (entry : ℕ × ℕ). entry.1 == number) section

-- how many of all sections
abbrev pub count_of_all : ℕ → List (List (ℕ × ℕ)) → ℕ
count_of_all number sections = sum_by (count_of number) sections
