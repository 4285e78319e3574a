-- The text of an instruction (MIPS I: the mnemonics and the order of the operands). How operands
-- are written is this project's profile: numbers in decimal, the bits of an immediate in
-- hexadecimal, a place to go to as an address of eight lower-case hexadecimal digits, and no blank
-- between operands.
use Rattle.std.specs.Prelude.{ℕ, Option, Some, None, List, [], ◌∷◌, ◌++◌, codes, decimal}
use Rattle.std.specs.Fmt.{signed_decimal}
use Rattle.std.specs.List.{flat_map}
use Rattle.iop_base.specs.Numbers.{signed}
use Rattle.iop_base.specs.Text.{hex, hex_digits}
use Rattle.iop_isa.specs.declared.fields.Fields.{Fields}
use Rattle.iop_isa.specs.declared.table.Operand.{Operand}
use Rattle.iop_isa.specs.declared.table.Operand.TheVariants.{Rd, Rs, Rt, Sa, Code, Signed, Bits, Label, Target, Base}
use Rattle.iop_isa.specs.Targets.{branch_target, jump_target}
use Rattle.iop_isa.specs.Words.{fields_of}
use Rattle.iop_isa.specs.Writing.{Written, written}

abbrev pub register : ℕ → List ℕ
register n = codes "$" ++ decimal n

-- an immediate as a signed number
abbrev pub signed_half : ℕ → List ℕ
signed_half imm = signed_decimal (signed 16 imm)

-- an immediate as its bits
abbrev pub bits_half : ℕ → List ℕ
bits_half imm = codes "0x" ++ hex_digits 4 imm

-- an operand of the instruction at an address, with the fields of its word
abbrev pub operand_text : (at : ℕ) → Fields → Operand → List ℕ
operand_text at f Rd = register f.rd
operand_text at f Rs = register f.rs
operand_text at f Rt = register f.rt
operand_text at f Sa = decimal f.sa
operand_text at f Code = decimal f.n
operand_text at f Signed = signed_half f.imm
operand_text at f Bits = bits_half f.imm
operand_text at f Label = hex (branch_target at f.imm)
operand_text at f Target = hex (jump_target at f.target)
operand_text at f Base = codes "(" ++ register f.rs ++ codes ")"

-- what stands before an operand that is not the first
abbrev pub separator : Operand → List ℕ
separator Base = []
separator operand = codes ","

abbrev pub further_text : (at : ℕ) → Fields → Operand → List ℕ
further_text at f operand = separator operand ++ operand_text at f operand

abbrev pub operands_text : (at : ℕ) → Fields → List Operand → List ℕ
operands_text at f [] = []
operands_text at f (first ∷ others) = operand_text at f first ++ flat_map (further_text at f) others

-- a word that is no instruction stands for itself
abbrev pub text_of : (word at : ℕ) → Option Written → List ℕ
text_of word at None = codes ".word 0x" ++ hex word
text_of word at (Some w) = w.name ++ codes " " ++ operands_text at (fields_of word) w.operands

-- the text of a word at an address
unfoldable pub inst_bytes : (word at : ℕ) → List ℕ
inst_bytes word at = text_of word at (written word)
