-- The instruction that a word holds, and the word that holds an instruction, by the table. The bits
-- of fields that an instruction does not use are ignored.
use Rattle.std.specs.Prelude.{◌≡◌, ℕ, ◌+◌, ◌*◌, ◌^◌, Bool, true, false, Option, option_map, List, [], ◌∷◌}
use Rattle.iop_isa.specs.declared.fields.Fields.{Fields}
use Rattle.iop_isa.specs.declared.instruction.Inst.{Inst}
use Rattle.iop_isa.specs.declared.instruction.Inst.TheVariants.{Jr, Jalr, Bltz, Bgez, Bltzal, Bgezal, J, Jal, Beq, Bne, Blez, Bgtz}
use Rattle.iop_isa.specs.declared.opcode.Opcode.{Opcode}
use Rattle.iop_isa.specs.declared.opcode.Opcode.TheVariants.{Special, Regimm, Primary}
use Rattle.iop_isa.specs.declared.table.Operand.{Operand}
use Rattle.iop_isa.specs.declared.table.Operand.TheVariants.{Rd, Rs, Rt, Sa, Code, Signed, Bits, Label, Target, Base}
use Rattle.iop_isa.specs.Table.{Takes, Row, rows, found, row_of}
use Rattle.iop_isa.specs.Words.{fields_of, zeros}

-- the number of an operand
abbrev pub number : Operand → Fields → ℕ
number Rd f = f.rd
number Rs f = f.rs
number Rt f = f.rt
number Sa f = f.sa
number Code f = f.n
number Signed f = f.imm
number Bits f = f.imm
number Label f = f.imm
number Target f = f.target
number Base f = f.rs

-- what the numbers of an operand are below
abbrev pub number_limit : Operand → ℕ
number_limit Rd = 32
number_limit Rs = 32
number_limit Rt = 32
number_limit Sa = 32
number_limit Code = 2 ^ 20
number_limit Signed = 2 ^ 16
number_limit Bits = 2 ^ 16
number_limit Label = 2 ^ 16
number_limit Target = 2 ^ 26
number_limit Base = 32

-- an instruction with the numbers of its operands
abbrev pub inst_with : (operands : List Operand) → Takes operands → Fields → Inst
inst_with [] inst f = inst
inst_with (operand ∷ operands) inst f = inst_with operands (inst (number operand f)) f

-- the instruction of a row with the operands that fields hold
abbrev pub row_inst : Fields → Row → Inst
row_inst f r = inst_with r.operands r.inst f

-- the instruction that a word holds
unfoldable pub inst_of : ℕ → Option Inst
inst_of word = option_map (row_inst (fields_of word)) (row_of word)

-- fields with the number of an operand
abbrev pub with_number : Operand → ℕ → Fields → Fields
with_number Rd n f = record f { rd = n }
with_number Rs n f = record f { rs = n }
with_number Rt n f = record f { rt = n }
with_number Sa n f = record f { sa = n }
with_number Code n f = record f { n = n }
with_number Signed n f = record f { imm = n }
with_number Bits n f = record f { imm = n }
with_number Label n f = record f { imm = n }
with_number Target n f = record f { target = n }
with_number Base n f = record f { rs = n }

-- fields with the numbers of some operands, and 0 in all others
abbrev pub operand_fields : List Operand → Fields → Fields
operand_fields [] f = zeros
operand_fields (operand ∷ operands) f =
    with_number operand (number operand f) (operand_fields operands f)

-- the word of an opcode with fields, of which it has only some
abbrev pub word_with : Opcode → Fields → ℕ
word_with (Special function) f =
    f.rs * 2 ^ 21 + f.rt * 2 ^ 16 + f.rd * 2 ^ 11 + f.sa * 2 ^ 6 + f.n * 2 ^ 6 + function
word_with (Regimm rt) f = 2 ^ 26 + f.rs * 2 ^ 21 + rt * 2 ^ 16 + f.imm
word_with (Primary opcode) f = opcode * 2 ^ 26 + f.rs * 2 ^ 21 + f.rt * 2 ^ 16 + f.imm + f.target

-- the word of a row with the operands that fields hold
abbrev pub row_word : Fields → Row → ℕ
row_word f r = word_with r.opcode (operand_fields r.operands f)

-- the word with 0 in the fields that its instruction does not use
unfoldable pub plain_word : ℕ → Option ℕ
plain_word word = option_map (row_word (fields_of word)) (row_of word)

-- a word holds the instruction of an opcode, with the operands that fields hold
abbrev pub Holds : (word : ℕ) → Opcode → Fields → Type 0
Holds word opcode f =
    (inst_of word ≡ option_map (row_inst f) (found rows opcode))
    × (plain_word word ≡ option_map (row_word f) (found rows opcode))

-- a branch or a jump: it has a delay slot
abbrev pub is_jump : Inst → Bool
is_jump (Jr rs) = true
is_jump (Jalr rd rs) = true
is_jump (Bltz rs imm) = true
is_jump (Bgez rs imm) = true
is_jump (Bltzal rs imm) = true
is_jump (Bgezal rs imm) = true
is_jump (J target) = true
is_jump (Jal target) = true
is_jump (Beq rs rt imm) = true
is_jump (Bne rs rt imm) = true
is_jump (Blez rs imm) = true
is_jump (Bgtz rs imm) = true
is_jump inst = false
