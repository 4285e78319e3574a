-- What a load delay is (MIPS I: load delay slots), over rows: what a load brings waits for one
-- instruction, which does not see it; behind that it is in its register, unless that instruction
-- writes the register itself.
use Rattle.std.specs.Prelude.{◌≡◌, ◌≢◌, ℕ, ◌==◌, if◌then◌else◌, Option, Some, None, option_map, option_and_then, List, slice_index, slice_set}
use Rattle.iop_base.specs.Numbers.{sign_extended}
use Rattle.iop_base.specs.Places.{load_at}
use Rattle.iop_base.specs.declared.width.Width.TheVariants.{Byte, Half, Word}
use Rattle.iop_isa.specs.declared.instruction.Inst.{Inst}
use Rattle.iop_isa.specs.declared.instruction.Inst.TheVariants.{Sll, Srl, Sra, Sllv, Srlv, Srav, Jalr, Mfhi, Mflo, Add, Addu, Sub, Subu, And, Or, Xor, Nor, Slt, Sltu, Bltzal, Bgezal, Jal, Addi, Addiu, Slti, Sltiu, Andi, Ori, Xori, Lui, Lb, Lh, Lwl, Lw, Lbu, Lhu, Lwr}
use Rattle.iop_isa.specs.Instructions.{inst_of}
use Rattle.iop_exec.specs.declared.cpu.Cpu.{Cpu}
use Rattle.iop_exec.specs.declared.cpu.Pending.{Pending}
use Rattle.iop_exec.specs.Arithmetic.{left_load, right_load}
use Rattle.iop_exec.specs.Laws.{Leaves}
use Rattle.iop_exec.specs.Row.{Row, Goes, Serves, Faults, reg_in, place_from, word_round, behind_syscall, row}

-- the instruction at which a processor stands
abbrev pub inst_at : List ℕ → Cpu → Option Inst
inst_at memory c = option_and_then inst_of (load_at memory c.pc Word)

-- the register into which an instruction writes a result; a load writes none
abbrev pub writes : Inst → Option ℕ
writes (Sll rd rt sa) = Some rd
writes (Srl rd rt sa) = Some rd
writes (Sra rd rt sa) = Some rd
writes (Sllv rd rt rs) = Some rd
writes (Srlv rd rt rs) = Some rd
writes (Srav rd rt rs) = Some rd
writes (Jalr rd rs) = Some rd
writes (Mfhi rd) = Some rd
writes (Mflo rd) = Some rd
writes (Add rd rs rt) = Some rd
writes (Addu rd rs rt) = Some rd
writes (Sub rd rs rt) = Some rd
writes (Subu rd rs rt) = Some rd
writes (And rd rs rt) = Some rd
writes (Or rd rs rt) = Some rd
writes (Xor rd rs rt) = Some rd
writes (Nor rd rs rt) = Some rd
writes (Slt rd rs rt) = Some rd
writes (Sltu rd rs rt) = Some rd
writes (Bltzal rs imm) = Some 31
writes (Bgezal rs imm) = Some 31
writes (Jal target) = Some 31
writes (Addi rt rs imm) = Some rt
writes (Addiu rt rs imm) = Some rt
writes (Slti rt rs imm) = Some rt
writes (Sltiu rt rs imm) = Some rt
writes (Andi rt rs imm) = Some rt
writes (Ori rt rs imm) = Some rt
writes (Xori rt rs imm) = Some rt
writes (Lui rt imm) = Some rt
writes inst = None

-- a number for a register; for register 0 there is none
abbrev pub number_for : ℕ → Option ℕ → Option Pending
number_for n None = None
number_for n (Some number) = if n == 0 then None else Some (record { reg = n; value = number })

-- a number that is made of the word in which a place stands, for a register
abbrev pub part_for : ℕ → List ℕ → (at : ℕ) → (ℕ → ℕ) → Option Pending
part_for n memory at made = number_for n (option_map made (word_round memory at))

-- what a load brings, by the registers that it reads and those with which `lwl` and `lwr` merge; no
-- other instruction brings anything
abbrev pub brings : Inst → List ℕ → (read merged : List ℕ) → Option Pending
brings (Lb rt imm rs) memory read merged =
    let at = place_from (reg_in read rs) imm in
    number_for rt (option_map (sign_extended 8) (load_at memory at Byte))
brings (Lh rt imm rs) memory read merged =
    let at = place_from (reg_in read rs) imm in
    number_for rt (option_map (sign_extended 16) (load_at memory at Half))
brings (Lwl rt imm rs) memory read merged =
    let at = place_from (reg_in read rs) imm in
    part_for rt memory at (λ word. left_load at word (reg_in merged rt))
brings (Lw rt imm rs) memory read merged =
    number_for rt (load_at memory (place_from (reg_in read rs) imm) Word)
brings (Lbu rt imm rs) memory read merged =
    number_for rt (load_at memory (place_from (reg_in read rs) imm) Byte)
brings (Lhu rt imm rs) memory read merged =
    number_for rt (load_at memory (place_from (reg_in read rs) imm) Half)
brings (Lwr rt imm rs) memory read merged =
    let at = place_from (reg_in read rs) imm in
    part_for rt memory at (λ word. right_load at word (reg_in merged rt))
brings inst memory read merged = None

-- the processor after an instruction before which nothing was pending
pub record Begins (brought : Option Pending) (written : Option ℕ) (c after : Cpu) : Type 0 where
  -- what the instruction brings is pending, and nothing else
  pub pending : after.pending ≡ brought
  -- no register has changed but the one that the instruction writes
  pub registers : (n : ℕ) → written ≢ Some n → slice_index after.regs n ≡ slice_index c.regs n

-- a load leaves what it brings pending, and all registers as they are
abbrev pub LoadsBegin : Type 0
LoadsBegin =
    (memory : List ℕ) (c : Cpu) (inst : Inst) → inst_at memory c ≡ Some inst → c.pending ≡ None
    → Leaves (Begins (brings inst memory c.regs c.regs) (writes inst) c) c (row memory c)

-- registers with a loaded value
abbrev pub with_loaded : Pending → List ℕ → List ℕ
with_loaded load regs = slice_set regs load.reg load.value

-- registers behind an instruction, where a loaded value arrives unless its register was written
abbrev pub with_arrived : Pending → (written : Option ℕ) → List ℕ → List ℕ
with_arrived load None regs = with_loaded load regs
with_arrived load (Some n) regs = if n == load.reg then regs else with_loaded load regs

-- a row behind which a loaded value has arrived, and what the instruction brings is pending
abbrev pub arrives_behind : Pending → (written : Option ℕ) → (brought : Option Pending) → Row → Row
arrives_behind load written brought (Goes after storing) =
    Goes (record after { regs = with_arrived load written after.regs; pending = brought }) storing
arrives_behind load written brought (Serves code) = Serves code
arrives_behind load written brought (Faults fault) = Faults fault

-- an instruction does what it does where nothing is pending, and behind it the loaded value is in
-- its register; `lwl` and `lwr` merge with the value, and nothing else sees it
abbrev pub LoadsArrive : Type 0
LoadsArrive =
    (memory : List ℕ) (c : Cpu) (load : Pending) (inst : Inst) → inst_at memory c ≡ Some inst
    → c.pending ≡ Some load → load.reg ≢ 0
    → row memory c
    ≡ arrives_behind load (writes inst) (brings inst memory c.regs (with_loaded load c.regs))
    (row memory (record c { pending = None }))

-- behind a `syscall` the loaded value is in its register
abbrev pub LoadsArriveBehindCalls : Type 0
LoadsArriveBehindCalls =
    (c : Cpu) (load : Pending) → c.pending ≡ Some load → load.reg ≢ 0
    → behind_syscall c
    ≡ behind_syscall (record c { regs = with_loaded load c.regs; pending = None })
