-- The table of the R3000's instructions (MIPS I: the mnemonics, the opcodes and the operands).
use Rattle.std.specs.Prelude.{ℕ, ◌==◌, Bool, false, if◌then◌else◌, Option, Some, None, List, [], ◌∷◌, codes}
use Rattle.iop_isa.specs.declared.instruction.Inst.{Inst}
use Rattle.iop_isa.specs.declared.instruction.Inst.TheVariants.{Sll, Srl, Sra, Sllv, Srlv, Srav, Jr, Jalr, Syscall, Break, Mfhi, Mthi, Mflo, Mtlo, Mult, Multu, Div, Divu, Add, Addu, Sub, Subu, And, Or, Xor, Nor, Slt, Sltu, Bltz, Bgez, Bltzal, Bgezal, J, Jal, Beq, Bne, Blez, Bgtz, Addi, Addiu, Slti, Sltiu, Andi, Ori, Xori, Lui, Lb, Lh, Lwl, Lw, Lbu, Lhu, Lwr, Sb, Sh, Swl, Sw, Swr}
use Rattle.iop_isa.specs.declared.opcode.Opcode.{Opcode}
use Rattle.iop_isa.specs.declared.opcode.Opcode.TheVariants.{Special, Regimm, Primary}
use Rattle.iop_isa.specs.declared.table.Operand.{Operand}
use Rattle.iop_isa.specs.declared.table.Operand.TheVariants.{Rd, Rs, Rt, Sa, Code, Signed, Bits, Label, Target, Base}
use Rattle.iop_isa.specs.Words.{opcode_of, function_of, rt_of}

-- an instruction that still takes the number of each operand
abbrev pub Takes : List Operand → Type 0
Takes [] = Inst
Takes (operand ∷ operands) = ℕ → Takes operands

-- a row: the operands stand in the order of the assembler
pub record Row : Type 0 where
  pub opcode : Opcode
  pub name : List ℕ
  pub operands : List Operand
  pub inst : Takes operands

abbrev pub row : Opcode → List ℕ → (operands : List Operand) → Takes operands → Row
row opcode name operands inst =
    record { opcode = opcode; name = name; operands = operands; inst = inst }

-- the rows by their formats: the functions with registers and those with a code, and the others
-- by opcode
abbrev pub rows : List Row
rows =
    row (Special 0x00) (codes "sll") (Rd ∷ Rt ∷ Sa ∷ []) Sll
    ∷ row (Special 0x02) (codes "srl") (Rd ∷ Rt ∷ Sa ∷ []) Srl
    ∷ row (Special 0x03) (codes "sra") (Rd ∷ Rt ∷ Sa ∷ []) Sra
    ∷ row (Special 0x04) (codes "sllv") (Rd ∷ Rt ∷ Rs ∷ []) Sllv
    ∷ row (Special 0x06) (codes "srlv") (Rd ∷ Rt ∷ Rs ∷ []) Srlv
    ∷ row (Special 0x07) (codes "srav") (Rd ∷ Rt ∷ Rs ∷ []) Srav
    ∷ row (Special 0x08) (codes "jr") (Rs ∷ []) Jr
    ∷ row (Special 0x09) (codes "jalr") (Rd ∷ Rs ∷ []) Jalr
    ∷ row (Special 0x10) (codes "mfhi") (Rd ∷ []) Mfhi
    ∷ row (Special 0x11) (codes "mthi") (Rs ∷ []) Mthi
    ∷ row (Special 0x12) (codes "mflo") (Rd ∷ []) Mflo
    ∷ row (Special 0x13) (codes "mtlo") (Rs ∷ []) Mtlo
    ∷ row (Special 0x18) (codes "mult") (Rs ∷ Rt ∷ []) Mult
    ∷ row (Special 0x19) (codes "multu") (Rs ∷ Rt ∷ []) Multu
    ∷ row (Special 0x1A) (codes "div") (Rs ∷ Rt ∷ []) Div
    ∷ row (Special 0x1B) (codes "divu") (Rs ∷ Rt ∷ []) Divu
    ∷ row (Special 0x20) (codes "add") (Rd ∷ Rs ∷ Rt ∷ []) Add
    ∷ row (Special 0x21) (codes "addu") (Rd ∷ Rs ∷ Rt ∷ []) Addu
    ∷ row (Special 0x22) (codes "sub") (Rd ∷ Rs ∷ Rt ∷ []) Sub
    ∷ row (Special 0x23) (codes "subu") (Rd ∷ Rs ∷ Rt ∷ []) Subu
    ∷ row (Special 0x24) (codes "and") (Rd ∷ Rs ∷ Rt ∷ []) And
    ∷ row (Special 0x25) (codes "or") (Rd ∷ Rs ∷ Rt ∷ []) Or
    ∷ row (Special 0x26) (codes "xor") (Rd ∷ Rs ∷ Rt ∷ []) Xor
    ∷ row (Special 0x27) (codes "nor") (Rd ∷ Rs ∷ Rt ∷ []) Nor
    ∷ row (Special 0x2A) (codes "slt") (Rd ∷ Rs ∷ Rt ∷ []) Slt
    ∷ row (Special 0x2B) (codes "sltu") (Rd ∷ Rs ∷ Rt ∷ []) Sltu
    ∷ row (Special 0x0C) (codes "syscall") (Code ∷ []) Syscall
    ∷ row (Special 0x0D) (codes "break") (Code ∷ []) Break
    ∷ row (Regimm 0x00) (codes "bltz") (Rs ∷ Label ∷ []) Bltz
    ∷ row (Regimm 0x01) (codes "bgez") (Rs ∷ Label ∷ []) Bgez
    ∷ row (Regimm 0x10) (codes "bltzal") (Rs ∷ Label ∷ []) Bltzal
    ∷ row (Regimm 0x11) (codes "bgezal") (Rs ∷ Label ∷ []) Bgezal
    ∷ row (Primary 0x02) (codes "j") (Target ∷ []) J
    ∷ row (Primary 0x03) (codes "jal") (Target ∷ []) Jal
    ∷ row (Primary 0x04) (codes "beq") (Rs ∷ Rt ∷ Label ∷ []) Beq
    ∷ row (Primary 0x05) (codes "bne") (Rs ∷ Rt ∷ Label ∷ []) Bne
    ∷ row (Primary 0x06) (codes "blez") (Rs ∷ Label ∷ []) Blez
    ∷ row (Primary 0x07) (codes "bgtz") (Rs ∷ Label ∷ []) Bgtz
    ∷ row (Primary 0x08) (codes "addi") (Rt ∷ Rs ∷ Signed ∷ []) Addi
    ∷ row (Primary 0x09) (codes "addiu") (Rt ∷ Rs ∷ Signed ∷ []) Addiu
    ∷ row (Primary 0x0A) (codes "slti") (Rt ∷ Rs ∷ Signed ∷ []) Slti
    ∷ row (Primary 0x0B) (codes "sltiu") (Rt ∷ Rs ∷ Signed ∷ []) Sltiu
    ∷ row (Primary 0x0C) (codes "andi") (Rt ∷ Rs ∷ Bits ∷ []) Andi
    ∷ row (Primary 0x0D) (codes "ori") (Rt ∷ Rs ∷ Bits ∷ []) Ori
    ∷ row (Primary 0x0E) (codes "xori") (Rt ∷ Rs ∷ Bits ∷ []) Xori
    ∷ row (Primary 0x0F) (codes "lui") (Rt ∷ Bits ∷ []) Lui
    ∷ row (Primary 0x20) (codes "lb") (Rt ∷ Signed ∷ Base ∷ []) Lb
    ∷ row (Primary 0x21) (codes "lh") (Rt ∷ Signed ∷ Base ∷ []) Lh
    ∷ row (Primary 0x22) (codes "lwl") (Rt ∷ Signed ∷ Base ∷ []) Lwl
    ∷ row (Primary 0x23) (codes "lw") (Rt ∷ Signed ∷ Base ∷ []) Lw
    ∷ row (Primary 0x24) (codes "lbu") (Rt ∷ Signed ∷ Base ∷ []) Lbu
    ∷ row (Primary 0x25) (codes "lhu") (Rt ∷ Signed ∷ Base ∷ []) Lhu
    ∷ row (Primary 0x26) (codes "lwr") (Rt ∷ Signed ∷ Base ∷ []) Lwr
    ∷ row (Primary 0x28) (codes "sb") (Rt ∷ Signed ∷ Base ∷ []) Sb
    ∷ row (Primary 0x29) (codes "sh") (Rt ∷ Signed ∷ Base ∷ []) Sh
    ∷ row (Primary 0x2A) (codes "swl") (Rt ∷ Signed ∷ Base ∷ []) Swl
    ∷ row (Primary 0x2B) (codes "sw") (Rt ∷ Signed ∷ Base ∷ []) Sw
    ∷ row (Primary 0x2E) (codes "swr") (Rt ∷ Signed ∷ Base ∷ []) Swr
    ∷ []

-- what tells the instruction of a word
abbrev pub selected_by : ℕ → Opcode
selected_by word =
    if opcode_of word == 0 then Special (function_of word)
    else if opcode_of word == 1 then Regimm (rt_of word)
    else Primary (opcode_of word)

-- the number that an opcode holds
abbrev pub code_of : Opcode → ℕ
code_of (Special function) = function
code_of (Regimm rt) = rt
code_of (Primary opcode) = opcode

abbrev pub same : Opcode → Opcode → Bool
same (Special m) (Special n) = m == n
same (Regimm m) (Regimm n) = m == n
same (Primary m) (Primary n) = m == n
same m n = false

-- the first of some rows with an opcode
abbrev pub found : List Row → Opcode → Option Row
found [] opcode = None
found (r ∷ rest) opcode = if same opcode r.opcode then Some r else found rest opcode

-- the row of a word
unfoldable pub row_of : ℕ → Option Row
row_of word = found rows (selected_by word)
