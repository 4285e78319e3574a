-- What an instruction does (MIPS I: the R3000's table of instructions). That an address outside
-- RAM, a word that is no instruction and a jump in a delay slot fault, and that a syscall calls a
-- service, is this project's profile. A loaded value comes one instruction late (MIPS I: load delay);
-- that the one between still reads the old value, that what is pending is written before its own
-- result, that `lwl` and `lwr` merge with it, and that a syscall's service sees it, is profile too.
use Rattle.std.specs.Prelude.{ℕ, ◌+◌, ◌-◌, ◌*◌, ◌/◌, ◌%◌, ◌^◌, ◌==◌, nat_lt, Bool, not, ◌&&◌, ◌||◌, if◌then◌else◌, ◌+ℤ◌, ◌-ℤ◌, Option, Some, None, option_map, List, slice_index, slice_set, bit_and, bit_or, bit_xor}
use Rattle.iop_base.specs.Numbers.{sign_extended, wrapped, one_if}
use Rattle.iop_base.specs.Places.{load_at, store_at}
use Rattle.iop_base.specs.declared.guest_fault.GuestFault.{GuestFault}
use Rattle.iop_base.specs.declared.guest_fault.GuestFault.TheVariants.{Address, Overflow, Reserved, Break as Broken, BranchInSlot}
use Rattle.iop_base.specs.declared.width.Width.{Width}
use Rattle.iop_base.specs.declared.width.Width.TheVariants.{Byte, Half, Word}
use Rattle.iop_isa.specs.declared.instruction.Inst.{Inst}
use Rattle.iop_isa.specs.declared.instruction.Inst.TheVariants.{Sll, Srl, Sra, Sllv, Srlv, Srav, Jr, Jalr, Syscall, Break, Mfhi, Mthi, Mflo, Mtlo, Mult, Multu, Div, Divu, Add, Addu, Sub, Subu, And, Or, Xor, Nor, Slt, Sltu, Bltz, Bgez, Bltzal, Bgezal, J, Jal, Beq, Bne, Blez, Bgtz, Addi, Addiu, Slti, Sltiu, Andi, Ori, Xori, Lui, Lb, Lh, Lwl, Lw, Lbu, Lhu, Lwr, Sb, Sh, Swl, Sw, Swr}
use Rattle.iop_isa.specs.Instructions.{inst_of, is_jump}
use Rattle.iop_isa.specs.Targets.{jump_target}
use Rattle.iop_exec.specs.declared.cpu.Cpu.{Cpu}
use Rattle.iop_exec.specs.declared.cpu.Pending.{Pending}
use Rattle.iop_exec.specs.Processors.{position_of, standing_at, next_position, position_after_jump, position_after_branch}
use Rattle.iop_exec.specs.Arithmetic.{as_signed, fitting_word, left_shift, right_shift, signed_shift, complement, is_less, is_negative, signed_product, signed_quotient, signed_remainder, quotient, remainder, left_load, right_load, left_store, right_store}

-- the one store that an instruction makes: the low bytes of a value
pub record Storing : Type 0 where
  pub at : ℕ
  pub width : Width
  pub value : ℕ

pub data Row : Type 0 where
  -- it is done, with the processor after it, and the store that it makes, if any
  Goes : (after : Cpu) → (storing : Option Storing) → Row
  -- it calls a service, behind the `syscall`
  Serves : (code : ℕ) → Row
  -- it faults
  Faults : (fault : GuestFault) → Row

-- register 0 reads zero
abbrev pub reg_in : List ℕ → ℕ → ℕ
reg_in regs n = if n == 0 then 0 else slice_index regs n

abbrev pub reg : Cpu → ℕ → ℕ
reg c n = reg_in c.regs n

-- and what is written to it is dropped
abbrev pub with_reg : Cpu → ℕ → ℕ → Cpu
with_reg c n value = if n == 0 then c else record c { regs = slice_set c.regs n value }

-- what a load has brought is written to its register
abbrev pub writes_back : Option Pending → Cpu → Cpu
writes_back None c = c
writes_back (Some load) c = record (with_reg c load.reg load.value) { pending = None }

-- the processor once what is pending is written
abbrev pub after_write_back : Cpu → Cpu
after_write_back c = writes_back c.pending c

-- what is loaded is pending; to register 0 nothing is
abbrev pub with_pending : Cpu → ℕ → ℕ → Cpu
with_pending c n value =
    if n == 0 then c else record c { pending = Some (record { reg = n; value = value }) }

-- the processor at the next instruction, after a jump, and after a branch
abbrev pub at_next : Cpu → Cpu
at_next c = standing_at (next_position (position_of c)) c

abbrev pub after_jump : Cpu → ℕ → Cpu
after_jump c target = standing_at (position_after_jump (position_of c) target) c

abbrev pub after_branch : Cpu → Bool → ℕ → Cpu
after_branch c taken imm = standing_at (position_after_branch (position_of c) taken imm) c

-- the processor behind a `syscall`
abbrev pub behind_syscall : Cpu → Cpu
behind_syscall c = at_next (after_write_back c)

-- the address behind the delay slot goes into a register
abbrev pub with_link : Cpu → ℕ → Cpu
with_link c n = with_reg c n (wrapped (c.pc + 8))

-- it is done: what is pending is written, and then what is its own
abbrev pub done : Cpu → (own : Cpu → Cpu) → Row
done c own = Goes (own (after_write_back c)) None

-- a result goes into a register
abbrev pub results : Cpu → ℕ → ℕ → Row
results c n value = done c (λ d. at_next (with_reg d n value))

-- a sum or a difference goes into a register, if it fits
abbrev pub sums : Cpu → ℕ → Option ℕ → Row
sums c n None = Faults Overflow
sums c n (Some sum) = results c n sum

-- a number from memory is pending for a register, if it is there
abbrev pub loads : Cpu → ℕ → Option ℕ → Row
loads c n None = Faults Address
loads c n (Some number) = done c (λ d. at_next (with_pending d n number))

-- HI and LO are written
abbrev pub pairs : Cpu → (hi lo : ℕ) → Row
pairs c hi lo = done c (λ d. at_next (record d { hi = hi; lo = lo }))

-- a product's upper and lower halves go into HI and LO
abbrev pub products : Cpu → ℕ → Row
products c product = pairs c (product / 2 ^ 32) (product % 2 ^ 32)

-- a jump, and one that links; a branch, and one that links
abbrev pub jumps : Cpu → (target : ℕ) → Row
jumps c target = done c (λ d. after_jump d target)

abbrev pub jumps_linked : Cpu → (n target : ℕ) → Row
jumps_linked c n target = done c (λ d. after_jump (with_link d n) target)

abbrev pub branches : Cpu → (taken : Bool) → (imm : ℕ) → Row
branches c taken imm = done c (λ d. after_branch d taken imm)

abbrev pub branches_linked : Cpu → (taken : Bool) → (imm : ℕ) → Row
branches_linked c taken imm = done c (λ d. after_branch (with_link d 31) taken imm)

-- the place of a load or a store: a register plus a signed immediate
abbrev pub place_from : (base imm : ℕ) → ℕ
place_from base imm = wrapped (base + sign_extended 16 imm)

abbrev pub place : Cpu → (rs imm : ℕ) → ℕ
place c rs imm = place_from (reg c rs) imm

-- the word in which a place stands
abbrev pub word_start : ℕ → ℕ
word_start at = at - at % 4

abbrev pub word_round : List ℕ → ℕ → Option ℕ
word_round memory at = load_at memory (word_start at) Word

-- a load of what a word, in which a place stands, and the register, as it is once what is pending is
-- written, are merged to
abbrev pub loads_over : Cpu → List ℕ → (n at : ℕ) → (merged : (at word old : ℕ) → ℕ) → Row
loads_over c memory n at merged =
    loads c n (option_map (λ word. merged at word (reg (after_write_back c) n)) (word_round memory at))

-- a store, if the memory that it leaves is there
abbrev pub stores_as : Option (List ℕ) → Cpu → Storing → Row
stores_as None c storing = Faults Address
stores_as (Some after) c storing = Goes (at_next (after_write_back c)) (Some storing)

abbrev pub stores : Cpu → List ℕ → ℕ → Width → ℕ → Row
stores c memory at width value =
    stores_as (store_at memory at width value) c (record { at = at; width = width; value = value })

-- a store of a word that is made of the one which stands there
abbrev pub stores_made : Option ℕ → Cpu → List ℕ → ℕ → (ℕ → ℕ) → Row
stores_made None c memory at made = Faults Address
stores_made (Some word) c memory at made = stores c memory at Word (made word)

abbrev pub stores_over : Cpu → List ℕ → ℕ → (ℕ → ℕ) → Row
stores_over c memory at made = stores_made (word_round memory at) c memory (word_start at) made

-- what an instruction does, over memory and a processor
unfoldable pub effect_of : Inst → List ℕ → Cpu → Row
effect_of (Sll rd rt sa) memory c = results c rd (left_shift (reg c rt) sa)
effect_of (Srl rd rt sa) memory c = results c rd (right_shift (reg c rt) sa)
effect_of (Sra rd rt sa) memory c = results c rd (signed_shift (reg c rt) sa)
effect_of (Sllv rd rt rs) memory c = results c rd (left_shift (reg c rt) (reg c rs % 32))
effect_of (Srlv rd rt rs) memory c = results c rd (right_shift (reg c rt) (reg c rs % 32))
effect_of (Srav rd rt rs) memory c = results c rd (signed_shift (reg c rt) (reg c rs % 32))
effect_of (Jr rs) memory c = jumps c (reg c rs)
effect_of (Jalr rd rs) memory c = jumps_linked c rd (reg c rs)
effect_of (Syscall n) memory c = Serves n
effect_of (Break n) memory c = Faults Broken
effect_of (Mfhi rd) memory c = results c rd c.hi
effect_of (Mthi rs) memory c = pairs c (reg c rs) c.lo
effect_of (Mflo rd) memory c = results c rd c.lo
effect_of (Mtlo rs) memory c = pairs c c.hi (reg c rs)
effect_of (Mult rs rt) memory c = products c (signed_product (reg c rs) (reg c rt))
effect_of (Multu rs rt) memory c = products c (reg c rs * reg c rt)
effect_of (Div rs rt) memory c =
    pairs c (signed_remainder (reg c rs) (reg c rt)) (signed_quotient (reg c rs) (reg c rt))
effect_of (Divu rs rt) memory c =
    pairs c (remainder (reg c rs) (reg c rt)) (quotient (reg c rs) (reg c rt))
effect_of (Add rd rs rt) memory c =
    sums c rd (fitting_word (as_signed (reg c rs) +ℤ as_signed (reg c rt)))
effect_of (Addu rd rs rt) memory c = results c rd (wrapped (reg c rs + reg c rt))
effect_of (Sub rd rs rt) memory c =
    sums c rd (fitting_word (as_signed (reg c rs) -ℤ as_signed (reg c rt)))
effect_of (Subu rd rs rt) memory c = results c rd (wrapped (reg c rs + (2 ^ 32 - reg c rt)))
effect_of (And rd rs rt) memory c = results c rd (bit_and (reg c rs) (reg c rt))
effect_of (Or rd rs rt) memory c = results c rd (bit_or (reg c rs) (reg c rt))
effect_of (Xor rd rs rt) memory c = results c rd (bit_xor (reg c rs) (reg c rt))
effect_of (Nor rd rs rt) memory c = results c rd (complement (bit_or (reg c rs) (reg c rt)))
effect_of (Slt rd rs rt) memory c = results c rd (one_if (is_less (reg c rs) (reg c rt)))
effect_of (Sltu rd rs rt) memory c = results c rd (one_if (nat_lt (reg c rs) (reg c rt)))
effect_of (Bltz rs imm) memory c = branches c (is_negative (reg c rs)) imm
effect_of (Bgez rs imm) memory c = branches c (not (is_negative (reg c rs))) imm
effect_of (Bltzal rs imm) memory c = branches_linked c (is_negative (reg c rs)) imm
effect_of (Bgezal rs imm) memory c =
    branches_linked c (not (is_negative (reg c rs))) imm
effect_of (J target) memory c = jumps c (jump_target c.pc target)
effect_of (Jal target) memory c = jumps_linked c 31 (jump_target c.pc target)
effect_of (Beq rs rt imm) memory c = branches c (reg c rs == reg c rt) imm
effect_of (Bne rs rt imm) memory c = branches c (not (reg c rs == reg c rt)) imm
effect_of (Blez rs imm) memory c =
    branches c (is_negative (reg c rs) || reg c rs == 0) imm
effect_of (Bgtz rs imm) memory c =
    branches c (not (is_negative (reg c rs) || reg c rs == 0)) imm
effect_of (Addi rt rs imm) memory c =
    sums c rt (fitting_word (as_signed (reg c rs) +ℤ as_signed (sign_extended 16 imm)))
effect_of (Addiu rt rs imm) memory c = results c rt (wrapped (reg c rs + sign_extended 16 imm))
effect_of (Slti rt rs imm) memory c =
    results c rt (one_if (is_less (reg c rs) (sign_extended 16 imm)))
effect_of (Sltiu rt rs imm) memory c =
    results c rt (one_if (nat_lt (reg c rs) (sign_extended 16 imm)))
effect_of (Andi rt rs imm) memory c = results c rt (bit_and (reg c rs) imm)
effect_of (Ori rt rs imm) memory c = results c rt (bit_or (reg c rs) imm)
effect_of (Xori rt rs imm) memory c = results c rt (bit_xor (reg c rs) imm)
effect_of (Lui rt imm) memory c = results c rt (imm * 65536)
effect_of (Lb rt imm rs) memory c =
    loads c rt (option_map (sign_extended 8) (load_at memory (place c rs imm) Byte))
effect_of (Lh rt imm rs) memory c =
    loads c rt (option_map (sign_extended 16) (load_at memory (place c rs imm) Half))
effect_of (Lwl rt imm rs) memory c = loads_over c memory rt (place c rs imm) left_load
effect_of (Lw rt imm rs) memory c = loads c rt (load_at memory (place c rs imm) Word)
effect_of (Lbu rt imm rs) memory c = loads c rt (load_at memory (place c rs imm) Byte)
effect_of (Lhu rt imm rs) memory c = loads c rt (load_at memory (place c rs imm) Half)
effect_of (Lwr rt imm rs) memory c = loads_over c memory rt (place c rs imm) right_load
effect_of (Sb rt imm rs) memory c = stores c memory (place c rs imm) Byte (reg c rt)
effect_of (Sh rt imm rs) memory c = stores c memory (place c rs imm) Half (reg c rt)
effect_of (Swl rt imm rs) memory c =
    stores_over c memory (place c rs imm) (left_store (place c rs imm) (reg c rt))
effect_of (Sw rt imm rs) memory c = stores c memory (place c rs imm) Word (reg c rt)
effect_of (Swr rt imm rs) memory c =
    stores_over c memory (place c rs imm) (right_store (place c rs imm) (reg c rt))

-- a word that is no instruction faults, and so does a branch or a jump in a delay slot
abbrev pub inst_row : Option Inst → List ℕ → Cpu → Row
inst_row None memory c = Faults Reserved
inst_row (Some inst) memory c =
    if c.in_slot && is_jump inst then Faults BranchInSlot else effect_of inst memory c

-- what a word does as an instruction
unfoldable pub word_row : ℕ → List ℕ → Cpu → Row
word_row word memory c = inst_row (inst_of word) memory c

-- an address that is no multiple of 4 or not in RAM holds no instruction
abbrev pub row_of : Option ℕ → List ℕ → Cpu → Row
row_of None memory c = Faults Address
row_of (Some word) memory c = word_row word memory c

-- what the word at pc does
unfoldable pub row : List ℕ → Cpu → Row
row memory c = row_of (load_at memory c.pc Word) memory c
