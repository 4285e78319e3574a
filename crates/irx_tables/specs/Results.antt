-- What the calls on import tables give.
use Rattle.std.specs.Prelude.{◌≡◌, ℕ, ◌+◌, ◌*◌, ◌%◌, ◌≤◌, if◌then◌else◌, Some, List, length}
use Rattle.irx_tables.specs.Imports.{ImportTable, Found, Nothing, Whole, Broken, is_stub, is_end, table_at, next_table}
use Rattle.irx_tables.specs.declared.import_tables.Import.{Import}
use Rattle.irx_tables.specs.declared.import_tables.Next.{Next}
use Rattle.irx_tables.specs.declared.import_tables.Next.TheVariants.{Table, End, Bad}
use Rattle.irx_tables.specs.declared.words.TheConstants.{HEADER_BYTES}
use Rattle.irx_tables.specs.declared.import_tables.Pair.{Pair}
use Rattle.irx_tables.specs.declared.import_tables.Pair.TheVariants.{Stub, Zeroes, Other}

-- what two words are: a stub, the end of a table, or neither
abbrev pub pair_at : List ℕ → ℕ → Pair
pair_at memory p = if is_stub memory p then Stub else if is_end memory p then Zeroes else Other

-- a table with the number of its stubs in their place
abbrev pub import_of : ImportTable → Import
import_of table = record {
  at = table.at;
  name = table.name;
  version = table.version;
  stubs = length table.stubs;
  end = table.end;
}

abbrev pub next_of : Found → Next
next_of Nothing = End
next_of (Whole table) = Table (import_of table)
next_of (Broken p) = Bad p

-- what is said of a table, where one is given
abbrev pub IfTable : Next → (Import → Type 0) → Type 0
IfTable (Table import) P = P import
IfTable End P = Unit {0}
IfTable (Bad p) P = Unit {0}

-- the import stands for this table of a range in RAM
pub record IsImportOf (memory : List ℕ) (import : Import) (table : ImportTable) : Type 0 where
  pub stop : ℕ
  pub inside : stop ≤ length memory
  pub aligned : table.at % 4 ≡ 0
  pub found : table_at memory stop table.at ≡ Some table
  pub same : import ≡ import_of table

-- an import lies in a range: its header, its stubs and the two words 0
pub record HasExtent (stop : ℕ) (import : Import) : Type 0 where
  pub aligned : import.at % 4 ≡ 0
  pub extent : import.end ≡ import.at + HEADER_BYTES + 8 * import.stubs + 8
  pub inside : import.end ≤ stop

-- the import stands for the first table from `scan` on
pub record IsNextImport (memory : List ℕ) (stop scan : ℕ) (import : Import) : Type 0 where
  pub table : ImportTable
  pub next : next_table memory stop scan ≡ Whole table
  pub stands : IsImportOf memory import table
  pub after : scan ≤ import.at
  pub place : HasExtent stop import
