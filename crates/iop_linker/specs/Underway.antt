-- What the steps of linking speak of: memory in which stubs of a range are being bound, none of
-- which was live before.
use Rattle.std.specs.Prelude.{◌≡◌, ℕ, ◌+◌, ◌-◌, ◌/◌, ◌%◌, ◌≤◌, ◌==◌, nat_le, nat_lt, Bool, true, not, ◌&&◌, if◌then◌else◌, is_some, Option, Some, None, Result, Ok, Err, List, [], ◌∷◌, length, map, drop, find, take_while}
use Rattle.iop_base.specs.Numbers.{word_at}
use Rattle.iop_base.specs.declared.words.TheConstants.{JUMP_BACK}
use Rattle.irx_tables.specs.Places.{places}
use Rattle.irx_tables.specs.Imports.{ImportTable, is_stub, stub_at}
use Rattle.irx_tables.specs.Exports.{word_room}
use Rattle.irx_tables.specs.declared.words.TheConstants.{HEADER_BYTES}
use Rattle.irx_tables.specs.declared.import_tables.Import.{Import}
use Rattle.iop_stubs.specs.Stubs.{Memory, stands_at}
use Rattle.iop_stubs.specs.declared.live_stub.Stub.{Stub}
use Rattle.iop_stubs.specs.declared.live_stub.TheConstants.Stub.{SIZE, MOST_LIVE}
use Rattle.iop_linker.specs.Linking.{bound_stubs, linked_memory, HasNoLiveStub}
use Rattle.iop_linker.specs.declared.link_fault.LinkFault.{LinkFault}
use Rattle.iop_linker.specs.declared.link_fault.LinkFault.TheVariants.{NoLibrary}

-- each stub's place and index, of an import table that stands in memory
abbrev pub import_stubs : List ℕ → Import → List (ℕ × ℕ)
import_stubs ram import = map (stub_at ram) (places 8 (import.at + HEADER_BYTES) import.stubs)

-- its stubs that are bound, by the place of its library's export table and what words stand there
abbrev pub bound_import : (ℕ → List ℕ) → List ℕ → Import → Option ℕ → List Stub
bound_import words ram import None = []
bound_import words ram import (Some library) =
    bound_stubs import.name (import.version / 256) (words library) (import_stubs ram import)

-- the refusal of a text in which this table is the first whose library is not registered
abbrev pub no_library : ImportTable → LinkFault
no_library table = NoLibrary table.at table.name (table.version / 256)

-- how many stubs of a text are bound, by the first table whose library is not registered
abbrev pub text_count : Option ImportTable → ℕ → Result ℕ LinkFault
text_count None count = Ok count
text_count (Some table) count = Err (no_library table)

-- how many stubs of an import table are bound, by the place of its library's export table
abbrev pub import_count : Option ℕ → Import → ℕ → Result ℕ LinkFault
import_count None import count = Err (NoLibrary import.at import.name (import.version / 256))
import_count (Some library) import count = Ok count

-- whether a live stub of the range begins at a place
abbrev pub begins_live : ℕ → ℕ → Memory → ℕ → Bool
begins_live from len memory p =
    nat_le from p && (nat_lt p (from + len) && is_some (find (stands_at p) memory.live))

-- the word that stood at a place before: jr $ra where a stub was bound
abbrev pub former_word : ℕ → ℕ → Memory → ℕ → ℕ
former_word from len memory p =
    if begins_live from len memory p then JUMP_BACK else word_at memory.ram p

-- the functions of an export table that stood at a place before
unfoldable pub former_functions : ℕ → ℕ → Memory → ℕ → List ℕ
former_functions from len memory table =
    take_while (λ word. not (word == 0))
    (map (former_word from len memory)
    (places 4 (table + HEADER_BYTES) (word_room memory.ram table)))

-- the stubs of an import table that are bound, with the functions that stood in memory before
abbrev pub table_stubs : ℕ → ℕ → Memory → Import → Option ℕ → List Stub
table_stubs from len memory import library =
    bound_import (former_functions from len memory) memory.ram import library

-- the stub at a place if it is bound, with the functions that stood in memory before
abbrev pub stubs_at : ℕ → ℕ → Memory → Import → ℕ → ℕ → List Stub
stubs_at from len memory import table at =
    bound_stubs import.name (import.version / 256) (former_functions from len memory table)
    (stub_at memory.ram at ∷ [])

-- no more stubs are live than may be when these are bound
abbrev pub HasRoom : Memory → List Stub → Type 0
HasRoom memory stubs = length memory.live + length stubs ≤ MOST_LIVE

-- no live stub has a byte in the rest of the range
abbrev pub IsRestFree : ℕ → ℕ → ℕ → Memory → Type 0
IsRestFree from len scan memory = HasNoLiveStub memory scan (from + len - scan)

-- a stub stands at this place of a range in RAM, and no stub of the range is live from there on
pub record IsNextStub (from len : ℕ) (memory : Memory) (at : ℕ) : Type 0 where
  pub after : from ≤ at
  pub before : at + SIZE ≤ from + len
  pub inside : from + len ≤ length memory.ram
  pub aligned : at % 4 ≡ 0
  pub stands : is_stub memory.ram at ≡ true
  pub free : IsRestFree from len at memory

-- between two moments of linking the rest of the range stays, and so does what is read of export
-- tables
pub record StaysReadable (from len scan : ℕ) (old new : Memory) : Type 0 where
  pub size : length new.ram ≡ length old.ram
  pub ahead : drop scan new.ram ≡ drop scan old.ram
  pub former : (table : ℕ) → table % 4 ≡ 0
      → former_functions from len new table ≡ former_functions from len old table

-- these stubs of a range are bound, all before a place
pub record Binds (from len scan : ℕ) (old new : Memory) (stubs : List Stub) : Type 0 where
  pub memory : new ≡ linked_memory old stubs
  pub readable : StaysReadable from len scan old new
  pub free : IsRestFree from len scan new
