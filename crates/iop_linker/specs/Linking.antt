-- Linking (ps2sdk's irx.h: import and export tables; MIPS I: j keeps bits 2 to 27 of its target).
-- That the minor version is not compared, that a stub whose index is past the library's functions
-- is not bound, and the order of the refusals are this project's own profile. Everything is read
-- from memory as it stands before the first stub is bound.
use Rattle.std.specs.Prelude.{◌≡◌, ℕ, ◌+◌, ◌*◌, ◌/◌, ◌%◌, ◌^◌, nat_le, false, if◌then◌else◌, is_none, option_map, Option, Some, None, Result, Ok, Err, List, [], length, fold, find, flat_map, filter_map, All}
use Rattle.std.specs.List.{slice_get}
use Rattle.iop_base.specs.declared.code.Code.{Code}
use Rattle.iop_base.specs.declared.code.TheConstants.Code.{ILLEGAL_OBJECT, LINK_ERROR, NO_MEMORY}
use Rattle.irx_tables.specs.Imports.{ImportTable, tables_of}
use Rattle.irx_tables.specs.Exports.{functions}
use Rattle.iop_registry.specs.Entries.{table_of}
use Rattle.iop_registry.specs.declared.registry.Entry.{Entry}
use Rattle.iop_stubs.specs.Stubs.{Memory, meets}
use Rattle.iop_stubs.specs.Binding.{after_bind}
use Rattle.iop_stubs.specs.declared.live_stub.Stub.{Stub}
use Rattle.iop_stubs.specs.declared.live_stub.TheConstants.Stub.{MOST_LIVE}
use Rattle.iop_linker.specs.declared.link_fault.LinkFault.{LinkFault}
use Rattle.iop_linker.specs.declared.link_fault.LinkFault.TheVariants.{Table, NoLibrary, Room}

-- where `j` goes for a function word
abbrev pub target_of : ℕ → ℕ
target_of word = 4 * ((word / 4) % 2 ^ 26)

-- a stub's place and index, bound to the function of that index of the library of this name and
-- major version; none where it has no such function
abbrev pub bound_stub : List ℕ → ℕ → List ℕ → ℕ × ℕ → Option Stub
bound_stub name major words (place, index) =
    option_map (λ word.
    record { at = place; name = name; major = major; index = index; target = target_of word })
    (slice_get words index)

-- those of these stubs that are bound
abbrev pub bound_stubs : List ℕ → ℕ → List ℕ → List (ℕ × ℕ) → List Stub
bound_stubs name major words stubs = filter_map (bound_stub name major words) stubs

-- the place of the export table of the library that an import table asks for
abbrev pub export_table_of : List Entry → ImportTable → Option ℕ
export_table_of entries table = table_of entries table.name (table.version / 256)

-- a table's stubs that are bound, by the place of its library's export table
abbrev pub bound_by : List ℕ → ImportTable → Option ℕ → List Stub
bound_by ram table None = []
bound_by ram table (Some library) =
    bound_stubs table.name (table.version / 256) (functions ram library) table.stubs

-- the stubs of all these tables that are bound
abbrev pub new_stubs : List ℕ → List Entry → List ImportTable → List Stub
new_stubs ram entries tables =
    flat_map (λ table. bound_by ram table (export_table_of entries table)) tables

-- the stubs of a text that are bound
abbrev pub text_stubs : List ℕ → List Entry → ℕ → ℕ → List Stub
text_stubs ram entries from len = new_stubs ram entries (tables_of ram from len).whole

-- the first table whose library is not registered
abbrev pub first_without_library : List Entry → List ImportTable → Option ImportTable
first_without_library entries tables =
    find (λ table. is_none (export_table_of entries table)) tables

-- the first refusal that holds: a bad table, a library that is not registered, too many live stubs;
-- else the new stubs
abbrev pub links_by : Option ℕ → Option ImportTable → ℕ → List Stub → Result (List Stub) LinkFault
links_by (Some at) without live stubs = Err (Table at)
links_by None (Some table) live stubs = Err (NoLibrary table.at table.name (table.version / 256))
links_by None None live stubs =
    if nat_le (live + length stubs) MOST_LIVE then Ok stubs else Err Room

-- what the linking of a range comes to, where so many stubs are live
unfoldable pub links : List ℕ → List Entry → ℕ → ℕ → ℕ → Result (List Stub) LinkFault
links ram entries live from len =
    let tables = tables_of ram from len in
    links_by tables.bad (first_without_library entries tables.whole) live
    (text_stubs ram entries from len)

-- what the linking of a range of memory comes to
abbrev pub linking : Memory → List Entry → ℕ → ℕ → Result (List Stub) LinkFault
linking memory entries from len = links memory.ram entries (length memory.live) from len

-- no live stub has a byte in the range
abbrev pub HasNoLiveStub : Memory → ℕ → ℕ → Type 0
HasNoLiveStub memory from len = All (λ stub. meets from len stub ≡ false) memory.live

-- memory after these stubs were bound
abbrev pub linked_memory : Memory → List Stub → Memory
linked_memory memory stubs = fold after_bind memory stubs

-- what linking answers, and the memory that it leaves
abbrev pub answer_of : Result (List Stub) LinkFault → Result (Unit {0}) LinkFault
answer_of (Ok stubs) = Ok tt
answer_of (Err fault) = Err fault

abbrev pub after_linking : Memory → Result (List Stub) LinkFault → Memory
after_linking memory (Ok stubs) = linked_memory memory stubs
after_linking memory (Err fault) = memory

-- the code that a refusal stands for (ps2sdk's kerr.h): a text with a bad table is no module
abbrev pub code_of : LinkFault → Code
code_of (Table at) = ILLEGAL_OBJECT
code_of (NoLibrary table name major) = LINK_ERROR
code_of Room = NO_MEMORY
