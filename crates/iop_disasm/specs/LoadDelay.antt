-- Registers that are read too soon (MIPS I: the load delay of the R3000). What a load reads is in its
-- register from the second instruction behind it on. `lwl` and `lwr` merge with what is still on its
-- way to their register, and do not read it too soon.
use Rattle.std.specs.Prelude.{ℕ, ◌==◌, Bool, true, false, not, ◌&&◌, if◌then◌else◌, Option, Some, None, option_and_then, List, [], ◌∷◌}
use Rattle.std.specs.List.{list_any}
use Rattle.std.specs.Option.{option_map_or}
use Rattle.iop_isa.specs.declared.fields.Fields.{Fields}
use Rattle.iop_isa.specs.declared.instruction.Inst.{Inst}
use Rattle.iop_isa.specs.declared.instruction.Inst.TheVariants.{Lb, Lh, Lwl, Lw, Lbu, Lhu, Lwr, Sb, Sh, Swl, Sw, Swr}
use Rattle.iop_isa.specs.declared.table.Operand.{Operand}
use Rattle.iop_isa.specs.declared.table.Operand.TheVariants.{Rs, Rt, Base}
use Rattle.iop_isa.specs.Instructions.{inst_of}
use Rattle.iop_isa.specs.Words.{fields_of}
use Rattle.iop_isa.specs.Writing.{written}

-- the register that an instruction loads
abbrev pub loads : Inst → Option ℕ
loads (Lb rt imm rs) = Some rt
loads (Lh rt imm rs) = Some rt
loads (Lwl rt imm rs) = Some rt
loads (Lw rt imm rs) = Some rt
loads (Lbu rt imm rs) = Some rt
loads (Lhu rt imm rs) = Some rt
loads (Lwr rt imm rs) = Some rt
loads inst = None

-- an instruction is a store
abbrev pub stores : Inst → Bool
stores (Sb rt imm rs) = true
stores (Sh rt imm rs) = true
stores (Swl rt imm rs) = true
stores (Sw rt imm rs) = true
stores (Swr rt imm rs) = true
stores inst = false

-- the operands that an instruction reads: rt is written where it stands first, but by a store
abbrev pub sources : (by_store : Bool) → List Operand → List Operand
sources false (Rt ∷ others) = others
sources by_store operands = operands

-- an operand is a register of this number, and no rd, which is never read
abbrev pub is_read_from : Fields → (number : ℕ) → Operand → Bool
is_read_from f number Rs = f.rs == number
is_read_from f number Rt = f.rt == number
is_read_from f number Base = f.rs == number
is_read_from f number operand = false

-- the register that a word loads; a word that is no instruction loads none
abbrev pub loaded : (word : ℕ) → Option ℕ
loaded word = option_and_then loads (inst_of word)

-- a word holds a store
abbrev pub is_store : (word : ℕ) → Bool
is_store word = option_map_or stores (inst_of word) false

-- the operands that a word reads; a word that is no instruction has none
abbrev pub sources_of : (word : ℕ) → List Operand
sources_of word = sources (is_store word) (option_map_or (λ w. w.operands) (written word) [])

-- a word reads a register
abbrev pub reads : (word number : ℕ) → Bool
reads word number = list_any (is_read_from (fields_of word) number) (sources_of word)

-- the register that a word loads and the next one reads; what is loaded into register 0 is dropped
unfoldable pub read_too_soon : (word next : ℕ) → Option ℕ
read_too_soon word next =
    option_and_then (λ number. if not (number == 0) && reads next number then Some number else None)
    (loaded word)
