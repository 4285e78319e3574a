-- The kernel's own libraries, which are registered from the start: their order and their places are
-- this project's own profile. A name of fewer than eight bytes is filled up with zeros (ps2sdk's
-- irx.h).
use Rattle.std.specs.Prelude.{ℕ, ◌+◌, ◌-◌, ◌*◌, nat_lt, if◌then◌else◌, List, map}
use Rattle.std.specs.List.{enumerate_from}
use Rattle.iop_base.specs.declared.libraries.TheConstants.{KERNEL_LIBRARIES}
use Rattle.iop_registry.specs.declared.registry.Entry.{Entry}
use Rattle.iop_registry.specs.declared.registry.TheConstants.{KERNEL_TABLES_AT, KERNEL_TABLE_LEN, FIRST_LIBRARIES, LATER_TABLES_AT}

-- where the table of a library stands: those of the first ones stand one behind the other, and so
-- do those of the others, below them
abbrev pub kernel_table : (number : ℕ) → ℕ
kernel_table number =
    if nat_lt number FIRST_LIBRARIES then KERNEL_TABLES_AT + number * KERNEL_TABLE_LEN
    else LATER_TABLES_AT + (number - FIRST_LIBRARIES) * KERNEL_TABLE_LEN

-- a library by its number and its name: version 1, and its table
abbrev pub kernel_library : ℕ × List ℕ → Entry
kernel_library (number, name) = record {
  name = name;
  major = 1;
  table = kernel_table number;
}

abbrev pub kernel_libraries : List Entry
kernel_libraries = map kernel_library (enumerate_from 0 KERNEL_LIBRARIES)
