-- How the head of a snapshot is spelled: the letters that it begins with, and how many MiB RAM has.
-- This project's own profile.
use Rattle.std.specs.Prelude.{ℕ, ◌/◌, ◌==◌, Bool, ◌||◌, if◌then◌else◌, Option, Some, None, List, [], ◌∷◌, ◌++◌}
use Rattle.std.specs.Str.{bytes_eq}
use Rattle.iop_snapshot.specs.Forms.{Form, item, seen_as, tested}
use Rattle.iop_snapshot.specs.declared.widths.TheConstants.{HEAD}
use Rattle.iop_saved_machine.specs.declared.head.TheConstants.{LETTERS, MIB}
use Rattle.iop_base.specs.declared.limits.TheConstants.{SMALL_RAM, LARGE_RAM}

-- the letters, and how many MiB so many bytes are
abbrev pub head_numbers : (size : ℕ) → List ℕ
head_numbers size = LETTERS ++ (size / MIB) ∷ []

-- how many bytes RAM has by these numbers, where they are a head
abbrev pub size_in : List ℕ → Option ℕ
size_in numbers =
    if bytes_eq numbers (head_numbers SMALL_RAM) then Some SMALL_RAM
    else if bytes_eq numbers (head_numbers LARGE_RAM) then Some LARGE_RAM
    else None

abbrev pub is_ram_size : ℕ → Bool
is_ram_size size = size == SMALL_RAM || size == LARGE_RAM

-- how many bytes RAM has: 2 MiB or 8 MiB
unfoldable pub head_form : Form ℕ
head_form = tested (seen_as (item HEAD) size_in head_numbers) is_ram_size
