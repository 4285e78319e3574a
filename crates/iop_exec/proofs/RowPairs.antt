-- The rows of the instructions beside those over the same processor with nothing pending, with the
-- register that each instruction writes and what it brings.
use Rattle.std.proofs.Common.{◌≡◌, ℕ, ◌&&◌, Bool, true, false, cond, Option, Some, None, List, sym, subst}
use Rattle.std.specs.Prelude.{option_map, option_and_then}
use Rattle.iop_base.specs.Places.{load_at}
use Rattle.iop_base.specs.declared.guest_fault.GuestFault.{GuestFault}
use Rattle.iop_base.specs.declared.guest_fault.GuestFault.TheVariants.{BranchInSlot}
use Rattle.iop_base.specs.declared.width.Width.TheVariants.{Word}
use Rattle.iop_isa.specs.declared.instruction.Inst.{Inst}
use Rattle.iop_isa.specs.declared.instruction.Inst.TheVariants.{Sll, Srl, Sra, Sllv, Srlv, Srav, Jr, Jalr, Syscall, Break, Mfhi, Mthi, Mflo, Mtlo, Mult, Multu, Div, Divu, Add, Addu, Sub, Subu, And, Or, Xor, Nor, Slt, Sltu, Bltz, Bgez, Bltzal, Bgezal, J, Jal, Beq, Bne, Blez, Bgtz, Addi, Addiu, Slti, Sltiu, Andi, Ori, Xori, Lui, Lb, Lh, Lwl, Lw, Lbu, Lhu, Lwr, Sb, Sh, Swl, Sw, Swr}
use Rattle.iop_isa.specs.Instructions.{inst_of, is_jump}
use Rattle.iop_exec.specs.declared.cpu.Cpu.{Cpu}
use Rattle.iop_exec.specs.declared.cpu.Pending.{Pending}
use Rattle.iop_exec.specs.declared.position.Position.{Position}
use Rattle.iop_exec.specs.Arithmetic.{left_load, right_load}
use Rattle.iop_exec.specs.LoadDelays.{inst_at, writes, number_for, part_for, brings}
use Rattle.iop_exec.specs.Processors.{position_of, standing_at, next_position, position_after_jump}
use Rattle.iop_exec.specs.Row.{Row, Goes, Serves, Faults, Storing, reg_in, reg, at_next, with_reg, with_pending, after_write_back, results, sums, loads, loads_over, pairs, jumps, jumps_linked, branches, branches_linked, place, word_round, stores_as, stores_made, effect_of, word_row, row_of, row}

-- the processor with a list of registers and nothing pending
abbrev pub holding : List ℕ → Cpu → Cpu
holding regs c = record c { regs = regs; pending = None }

-- on to the next instruction, or to that and then to a target
abbrev pub goes_on : Option ℕ → Position → Position
goes_on None p = next_position p
goes_on (Some target) p = position_after_jump p target

-- the processor where it has gone on
abbrev pub gone_on : Option ℕ → Cpu → Cpu
gone_on to c = standing_at (goes_on to (position_of c)) c

-- R holds of what an instruction writes and brings, of its row where the registers are `now` before
-- its own result, and of its row where they are as they were
pub record RowPairs (c : Cpu) (now : List ℕ) (R : Option ℕ → Option Pending → Row → Row → Type 0)
    : Type 0 where
  pub moves : (to : Option ℕ) (storing : Option Storing)
      → R None None (Goes (gone_on to (holding now c)) storing)
      (Goes (gone_on to (holding c.regs c)) storing)
  pub pairs : (hi lo : ℕ)
      → R None None (Goes (at_next (record (holding now c) { hi = hi; lo = lo })) None)
      (Goes (at_next (record (holding c.regs c) { hi = hi; lo = lo })) None)
  pub writes : (to : Option ℕ) (n value : ℕ)
      → R (Some n) None (Goes (gone_on to (with_reg (holding now c) n value)) None)
      (Goes (gone_on to (with_reg (holding c.regs c) n value)) None)
  pub brings : (n value other : ℕ)
      → R None (number_for n (Some value))
      (Goes (at_next (with_pending (holding now c) n value)) None)
      (Goes (at_next (with_pending (holding c.regs c) n other)) None)
  pub serves : (code : ℕ) → R None None (Serves code) (Serves code)
  pub faults : (written : Option ℕ) (brought : Option Pending) (fault : GuestFault)
      → R written brought (Faults fault) (Faults fault)

module _ {c : Cpu} {now : List ℕ} {R : Option ℕ → Option Pending → Row → Row → Type 0}
    (h : RowPairs c now R) (is : after_write_back c ≡ holding now c) (memory : List ℕ) where
  abbrev was : Cpu
  was = holding c.regs c

  results_pair : (n value : ℕ) → R (Some n) None (results c n value) (results was n value)
  results_pair n value = rw is (h.writes None n value)

  sums_pair : (n : ℕ) (sum : Option ℕ) → R (Some n) None (sums c n sum) (sums was n sum)
  sums_pair n None = h.faults _ _ _
  sums_pair n (Some sum) = results_pair n sum

  loads_pair : (n : ℕ) (number : Option ℕ)
      → R None (number_for n number) (loads c n number) (loads was n number)
  loads_pair n None = h.faults _ _ _
  loads_pair n (Some number) = rw is (h.brings n number number)

  merged_by : (n : ℕ) (word : Option ℕ) (made other : ℕ → ℕ)
      → R None (number_for n (option_map made word)) (loads c n (option_map made word))
      (loads was n (option_map other word))
  merged_by n None made other = h.faults _ _ _
  merged_by n (Some word) made other = rw is (h.brings n (made word) (other word))

  pairs_pair : (hi lo : ℕ) → R None None (pairs c hi lo) (pairs was hi lo)
  pairs_pair hi lo = rw is (h.pairs hi lo)

  jumps_pair : (target : ℕ) → R None None (jumps c target) (jumps was target)
  jumps_pair target = rw is (h.moves (Some target) None)

  branches_pair : (taken : Bool) (imm : ℕ)
      → R None None (branches c taken imm) (branches was taken imm)
  branches_pair taken imm = rw is (h.moves (Some _) None)

  jump_links_pair : (n target : ℕ)
      → R (Some n) None (jumps_linked c n target) (jumps_linked was n target)
  jump_links_pair n target = rw is (h.writes (Some target) n _)

  branch_links_pair : (taken : Bool) (imm : ℕ)
      → R (Some 31) None (branches_linked c taken imm) (branches_linked was taken imm)
  branch_links_pair taken imm = rw is (h.writes (Some _) 31 _)

  stores_pair : (after : Option (List ℕ)) (storing : Storing)
      → R None None (stores_as after c storing) (stores_as after was storing)
  stores_pair None storing = h.faults _ _ _
  stores_pair (Some after) storing = rw is (h.moves None (Some storing))

  parts_pair : (word : Option ℕ) (at : ℕ) (made : ℕ → ℕ)
      → R None None (stores_made word c memory at made) (stores_made word was memory at made)
  parts_pair None at made = h.faults _ _ _
  parts_pair (Some word) at made = stores_pair _ _

  merged_pair : (n at : ℕ) (merged : (at word old : ℕ) → ℕ)
      → R None (part_for n memory at (λ word. merged at word (reg_in now n)))
      (loads_over c memory n at merged) (loads_over was memory n at merged)
  merged_pair n at merged =
      subst (λ (d : Cpu).
      R None (part_for n memory at (λ word. merged at word (reg_in now n)))
      (loads c n (option_map (λ word. merged at word (reg d n)) (word_round memory at)))
      (loads_over was memory n at merged))
      (sym is) (merged_by n (word_round memory at) _ _)

  pub effect_pair : (inst : Inst)
      → R (writes inst) (brings inst memory c.regs now) (effect_of inst memory c)
      (effect_of inst memory was)
  unfolding effect_of
  effect_pair (Sll rd rt sa) = results_pair rd _
  effect_pair (Srl rd rt sa) = results_pair rd _
  effect_pair (Sra rd rt sa) = results_pair rd _
  effect_pair (Sllv rd rt rs) = results_pair rd _
  effect_pair (Srlv rd rt rs) = results_pair rd _
  effect_pair (Srav rd rt rs) = results_pair rd _
  effect_pair (Jr rs) = jumps_pair _
  effect_pair (Jalr rd rs) = jump_links_pair rd _
  effect_pair (Syscall n) = h.serves n
  effect_pair (Break n) = h.faults _ _ _
  effect_pair (Mfhi rd) = results_pair rd _
  effect_pair (Mthi rs) = pairs_pair _ _
  effect_pair (Mflo rd) = results_pair rd _
  effect_pair (Mtlo rs) = pairs_pair _ _
  effect_pair (Mult rs rt) = pairs_pair _ _
  effect_pair (Multu rs rt) = pairs_pair _ _
  effect_pair (Div rs rt) = pairs_pair _ _
  effect_pair (Divu rs rt) = pairs_pair _ _
  effect_pair (Add rd rs rt) = sums_pair rd _
  effect_pair (Addu rd rs rt) = results_pair rd _
  effect_pair (Sub rd rs rt) = sums_pair rd _
  effect_pair (Subu rd rs rt) = results_pair rd _
  effect_pair (And rd rs rt) = results_pair rd _
  effect_pair (Or rd rs rt) = results_pair rd _
  effect_pair (Xor rd rs rt) = results_pair rd _
  effect_pair (Nor rd rs rt) = results_pair rd _
  effect_pair (Slt rd rs rt) = results_pair rd _
  effect_pair (Sltu rd rs rt) = results_pair rd _
  effect_pair (Bltz rs imm) = branches_pair _ imm
  effect_pair (Bgez rs imm) = branches_pair _ imm
  effect_pair (Bltzal rs imm) = branch_links_pair _ imm
  effect_pair (Bgezal rs imm) = branch_links_pair _ imm
  effect_pair (J target) = jumps_pair _
  effect_pair (Jal target) = jump_links_pair 31 _
  effect_pair (Beq rs rt imm) = branches_pair _ imm
  effect_pair (Bne rs rt imm) = branches_pair _ imm
  effect_pair (Blez rs imm) = branches_pair _ imm
  effect_pair (Bgtz rs imm) = branches_pair _ imm
  effect_pair (Addi rt rs imm) = sums_pair rt _
  effect_pair (Addiu rt rs imm) = results_pair rt _
  effect_pair (Slti rt rs imm) = results_pair rt _
  effect_pair (Sltiu rt rs imm) = results_pair rt _
  effect_pair (Andi rt rs imm) = results_pair rt _
  effect_pair (Ori rt rs imm) = results_pair rt _
  effect_pair (Xori rt rs imm) = results_pair rt _
  effect_pair (Lui rt imm) = results_pair rt _
  effect_pair (Lb rt imm rs) = loads_pair rt _
  effect_pair (Lh rt imm rs) = loads_pair rt _
  effect_pair (Lwl rt imm rs) = merged_pair rt (place c rs imm) left_load
  effect_pair (Lw rt imm rs) = loads_pair rt _
  effect_pair (Lbu rt imm rs) = loads_pair rt _
  effect_pair (Lhu rt imm rs) = loads_pair rt _
  effect_pair (Lwr rt imm rs) = merged_pair rt (place c rs imm) right_load
  effect_pair (Sb rt imm rs) = stores_pair _ _
  effect_pair (Sh rt imm rs) = stores_pair _ _
  effect_pair (Swl rt imm rs) = parts_pair (word_round memory (place c rs imm)) _ _
  effect_pair (Sw rt imm rs) = stores_pair _ _
  effect_pair (Swr rt imm rs) = parts_pair (word_round memory (place c rs imm)) _ _

  fault_or : (b : Bool) (written : Option ℕ) (brought : Option Pending) (r s : Row)
      → R written brought r s
      → R written brought (cond b (Faults BranchInSlot) r) (cond b (Faults BranchInSlot) s)
  fault_or true written brought r s pair = h.faults _ _ _
  fault_or false written brought r s pair = pair

  word_pair : (inst : Inst) (word : Option ℕ) → option_and_then inst_of word ≡ Some inst
      → R (writes inst) (brings inst memory c.regs now) (row_of word memory c)
      (row_of word memory was)
  unfolding word_row
  word_pair inst None at = absurd (cc at)
  word_pair inst (Some word) at =
      rw at (fault_or (c.in_slot && is_jump inst) _ _ _ _ (effect_pair inst))

  pub row_pair : (inst : Inst) → inst_at memory c ≡ Some inst
      → R (writes inst) (brings inst memory c.regs now) (row memory c) (row memory was)
  unfolding row
  row_pair inst at = word_pair inst (load_at memory c.pc Word) at
