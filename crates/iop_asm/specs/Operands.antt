-- The operands of an instruction in source text, by the table of instructions (MIPS I). How they are
-- written is this project's own profile; %hi and %lo are those of the System V ABI's MIPS supplement.
use Rattle.std.specs.Prelude.{ℕ, ◌-◌, ◌%◌, ◌^◌, ◌==◌, nat_le, Bool, true, false, if◌then◌else◌, Option, Some, None, option_map, option_and_then, List, [], ◌∷◌, codes, take, drop, fold}
use Rattle.std.specs.List.{position_or_len}
use Rattle.std.specs.Option.{option_or}
use Rattle.std.specs.Str.{byte}
use Rattle.iop_isa.specs.declared.fields.Fields.{Fields}
use Rattle.iop_isa.specs.declared.opcode.Opcode.{Opcode}
use Rattle.iop_isa.specs.declared.table.Operand.{Operand}
use Rattle.iop_isa.specs.declared.table.Operand.TheVariants.{Rd, Rs, Rt, Sa, Code, Signed, Bits, Label, Target, Base}
use Rattle.iop_isa.specs.Words.{zeros}
use Rattle.iop_isa.specs.Instructions.{with_number, word_with}
use Rattle.iop_isa.specs.Registers.{register_named}
use Rattle.iop_asm.specs.declared.number.Number.{Number}
use Rattle.iop_asm.specs.Texts.{and_rest, symbol_of, behind, before, number_of}
use Rattle.iop_asm.specs.Cells.{Reference, Cell}
use Rattle.iop_asm.specs.declared.reference.ReferenceKind.{ReferenceKind}
use Rattle.iop_asm.specs.declared.reference.ReferenceKind.TheVariants.{High as HighHalf, Low as LowHalf, Branch, Jump}

-- what an operand says
pub data Value : Type 0 where
  Numeric : Number → Value
  Register : ℕ → Value
  Symbol : List ℕ → Value
  -- %hi and %lo of a label
  High : List ℕ → Value
  Low : List ℕ → Value

-- the register of a word: $ and its number or its name
abbrev pub register_of : List ℕ → Option ℕ
register_of word = option_and_then register_named (behind (codes "$") word)

-- the name between an opening text and the ) at the end
abbrev pub name_within : List ℕ → List ℕ → Option (List ℕ)
name_within opening word =
    option_and_then symbol_of (option_and_then (before (codes ")")) (behind opening word))

-- an immediate: %hi or %lo of a label, or a number
unfoldable pub immediate_of : List ℕ → Option Value
immediate_of word =
    option_or (option_map High (name_within (codes "%hi(") word))
    (option_or (option_map Low (name_within (codes "%lo(") word))
    (option_map Numeric (number_of word)))

-- the value of an operand's word
abbrev pub value_of : Operand → List ℕ → Option Value
value_of Rd word = option_map Register (register_of word)
value_of Rs word = option_map Register (register_of word)
value_of Rt word = option_map Register (register_of word)
value_of Base word = option_map Register (register_of word)
value_of Sa word = option_map Numeric (number_of word)
value_of Code word = option_map Numeric (number_of word)
value_of Signed word = immediate_of word
value_of Bits word = immediate_of word
value_of Label word = option_map Symbol (symbol_of word)
value_of Target word = option_map Symbol (symbol_of word)

abbrev pub is_dollar : ℕ → Bool
is_dollar b = b == byte "$"

-- what stands before the ( behind an offset, and the register, of a place without its )
abbrev pub split_place : List ℕ → Option (List ℕ × List ℕ)
split_place place =
    let len = position_or_len is_dollar place in
    option_map (λ offset. (offset, drop len place)) (before (codes "(") (take len place))

-- the words of the offset and of the register of a place
abbrev pub place_words : List ℕ → Option (List ℕ × List ℕ)
place_words word = option_and_then split_place (before (codes ")") word)

abbrev pub valued : Operand → Option Value → Option (Operand × Value)
valued operand value = option_map (λ v. (operand, v)) value

-- an operand with the value of its word
abbrev pub operand_of : Operand → List ℕ → Option (Operand × Value)
operand_of operand word = valued operand (value_of operand word)

abbrev pub place_operands : List ℕ × List ℕ → Option (List (Operand × Value))
place_operands (offset, base) =
    and_rest (operand_of Signed offset) (and_rest (operand_of Base base) (Some []))

-- whether these two operands are left: one word gives both
abbrev pub is_place : List Operand → Bool
is_place (Signed ∷ Base ∷ []) = true
is_place operands = false

-- the operands of a place, which no word follows
abbrev pub last_place : List ℕ → List (List ℕ) → Option (List (Operand × Value))
last_place word [] = option_and_then place_operands (place_words word)
last_place word rest = None

-- the operands with their values, one word for each, but for a place, which is two operands in one
unfoldable pub operands_of : List Operand → List (List ℕ) → Option (List (Operand × Value))
operands_of [] [] = Some []
operands_of [] (word ∷ words) = None
operands_of (operand ∷ operands) [] = None
operands_of (operand ∷ operands) (word ∷ words) =
    if is_place (operand ∷ operands) then last_place word words
    else and_rest (operand_of operand word) (operands_of operands words)

-- whether a number is at least minus the first of these and at most the second
abbrev pub lies_within : ℕ → ℕ → Number → Bool
lies_within low high n = nat_le n.magnitude (if n.negative then low else high)

-- whether a value fits its operand's field
abbrev pub value_fits : Operand → Value → Bool
value_fits Sa (Numeric n) = lies_within 0 (2 ^ 5 - 1) n
value_fits Code (Numeric n) = lies_within 0 (2 ^ 20 - 1) n
value_fits Signed (Numeric n) = lies_within (2 ^ 15) (2 ^ 15 - 1) n
value_fits Bits (Numeric n) = lies_within 0 (2 ^ 16 - 1) n
value_fits operand (Numeric n) = false
value_fits operand value = true

abbrev pub operand_fits : Operand × Value → Bool
operand_fits (operand, value) = value_fits operand value

-- a number as two's complement of so many bits
abbrev pub complement : ℕ → Number → ℕ
complement bits n = if n.negative then (2 ^ bits - n.magnitude) % 2 ^ bits else n.magnitude

-- what a field holds of a value: 0 where a label decides it
abbrev pub field_of : Value → ℕ
field_of (Numeric n) = complement 16 n
field_of (Register n) = n
field_of value = 0

abbrev pub with_operand : Fields → Operand × Value → Fields
with_operand fields (operand, value) = with_number operand (field_of value) fields

-- the fields of these operands, and 0 in all others
abbrev pub fields_with : List (Operand × Value) → Fields
fields_with operands = fold with_operand zeros operands

abbrev pub reference : ℕ → ReferenceKind → List ℕ → Option Reference
reference line kind label = Some (record { kind = kind; label = label; line = line })

-- the label that an operand of a line names, and how
abbrev pub reference_by : ℕ → Operand → Value → Option Reference
reference_by line Target (Symbol name) = reference line Jump name
reference_by line operand (Symbol name) = reference line Branch name
reference_by line operand (High name) = reference line HighHalf name
reference_by line operand (Low name) = reference line LowHalf name
reference_by line operand value = None

abbrev pub or_reference : ℕ → Option Reference → Operand × Value → Option Reference
or_reference line found (operand, value) = option_or found (reference_by line operand value)

-- the label that the operands of a line name: that of the first that names one
abbrev pub reference_in : ℕ → List (Operand × Value) → Option Reference
reference_in line operands = fold (or_reference line) None operands

-- an instruction on a line with these operands
abbrev pub instruction_cell : ℕ → Opcode → List (Operand × Value) → Cell
instruction_cell line opcode operands = record {
  word = word_with opcode (fields_with operands);
  reference = reference_in line operands;
}
