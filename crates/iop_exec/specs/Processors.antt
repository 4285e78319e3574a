-- The two halves of a processor: its registers, and where it stands, at which instruction and at which
-- one after it (MIPS I: delay slots).
use Rattle.std.specs.Prelude.{◌≡◌, ℕ, ◌+◌, Bool, true, false, if◌then◌else◌}
use Rattle.iop_base.specs.Numbers.{wrapped}
use Rattle.iop_isa.specs.Targets.{branch_target}
use Rattle.iop_exec.specs.declared.cpu.Cpu.{Cpu}
use Rattle.iop_exec.specs.declared.position.Position.{Position}
use Rattle.iop_exec.specs.declared.registers.Registers.{Registers}

abbrev pub position_of : Cpu → Position
position_of c = record { pc = c.pc; next = c.next; in_slot = c.in_slot }

abbrev pub registers_of : Cpu → Registers
registers_of c = record { regs = c.regs; hi = c.hi; lo = c.lo; pending = c.pending }

-- the processor of both
abbrev pub cpu_of : Registers → Position → Cpu
cpu_of r p = record {
  regs = r.regs;
  hi = r.hi;
  lo = r.lo;
  pc = p.pc;
  next = p.next;
  in_slot = p.in_slot;
  pending = r.pending;
}

-- the processor with a position in place of its own
abbrev pub standing_at : Position → Cpu → Cpu
standing_at p c = record c { pc = p.pc; next = p.next; in_slot = p.in_slot }

-- on to the next instruction
abbrev pub next_position : Position → Position
next_position p = record { pc = p.next; next = wrapped (p.next + 4); in_slot = false }

-- a jump: first the next instruction is executed, in the delay slot, then the one at the target
abbrev pub position_after_jump : Position → ℕ → Position
position_after_jump p target = record { pc = p.next; next = target; in_slot = true }

-- a branch has a delay slot, taken or not
abbrev pub position_after_branch : Position → Bool → ℕ → Position
position_after_branch p taken imm = position_after_jump p (if taken then branch_target p.pc imm else wrapped (p.next + 4))

-- outside a delay slot the next instruction is the one behind
abbrev pub IsStraight : Cpu → Type 0
IsStraight c = c.in_slot ≡ false → c.next ≡ wrapped (c.pc + 4)
