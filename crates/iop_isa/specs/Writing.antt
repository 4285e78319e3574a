-- How the instruction of a word is written, and the instruction of a name, by the table.
use Rattle.std.specs.Prelude.{ℕ, ◌≤◌, Option, Some, None, option_map, List, length, find}
use Rattle.std.specs.Str.{bytes_eq}
use Rattle.iop_isa.specs.declared.opcode.Opcode.{Opcode}
use Rattle.iop_isa.specs.declared.table.Operand.{Operand}
use Rattle.iop_isa.specs.declared.spelling.Spelling.{Spelling}
use Rattle.iop_isa.specs.declared.mnemonic.Mnemonic.{Mnemonic}
use Rattle.iop_isa.specs.declared.naming.NamedRow.{NamedRow}
use Rattle.iop_isa.specs.Table.{Row, rows, row_of}

-- a name and operands
pub record Written : Type 0 where
  pub name : List ℕ
  pub operands : List Operand

unfoldable pub written : ℕ → Option Written
written word = option_map (λ r. record { name = r.name; operands = r.operands }) (row_of word)

abbrev pub name_and_operands : Spelling → Written
name_and_operands s = record { name = s.name.now; operands = s.operands.now }

abbrev pub IsShort : Option Spelling → Type 0
IsShort None = Unit {0}
IsShort (Some s) = (length s.name.now ≤ 7) × (length s.operands.now ≤ 3)

-- the first row with a name
abbrev pub row_named : List ℕ → Option Row
row_named name = find (λ r. bytes_eq r.name name) rows

-- what a name stands for
pub record Named : Type 0 where
  pub opcode : Opcode
  pub operands : List Operand

unfoldable pub named : List ℕ → Option Named
named name =
    option_map (λ r. record { opcode = r.opcode; operands = r.operands }) (row_named name)

abbrev pub opcode_and_operands : Mnemonic → Named
opcode_and_operands m = record { opcode = m.opcode; operands = m.operands.now }

-- the first of the code's rows with a name
unfoldable pub first_named : List ℕ → List NamedRow → Option NamedRow
first_named name named_rows = find (λ r. bytes_eq r.name.now name) named_rows
