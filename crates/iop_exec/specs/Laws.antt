-- What the laws on rows say.
use Rattle.std.specs.Prelude.{◌≡◌, ◌≢◌, ℕ, IfSome, List, length, slice_index}
use Rattle.iop_exec.specs.declared.cpu.Cpu.{Cpu}
use Rattle.iop_exec.specs.Processors.{IsStraight}
use Rattle.iop_exec.specs.Row.{Row, Goes, Serves, Faults, behind_syscall, row}

-- the processor after a row
abbrev pub cpu_after : Cpu → Row → Cpu
cpu_after c (Goes after storing) = after
cpu_after c (Serves code) = behind_syscall c
cpu_after c (Faults fault) = c

-- something holds of the processor after a row, unless the row faults
abbrev pub Leaves : (Cpu → Type 0) → Cpu → Row → Type 0
Leaves Holds c (Goes after storing) = Holds after
Leaves Holds c (Serves code) = Holds (behind_syscall c)
Leaves Holds c (Faults fault) = Unit {0}

-- a row goes to the next instruction, unless it faults
abbrev pub RowsGoToNext : Type 0
RowsGoToNext =
    (memory : List ℕ) (c : Cpu) → Leaves (λ after. after.pc ≡ c.next) c (row memory c)

abbrev pub RowsStayStraight : Type 0
RowsStayStraight =
    (memory : List ℕ) (c : Cpu) → IsStraight c → IsStraight (cpu_after c (row memory c))

-- what holds of a processor at all times
pub record IsSteady (c : Cpu) : Type 0 where
  -- outside a delay slot the next instruction is the one behind
  pub straight : IsStraight c
  pub registers : length c.regs ≡ 32
  -- what is written to register 0 is dropped
  pub zero : slice_index c.regs 0 ≡ 0
  -- what is pending is for another one
  pub pending : IfSome c.pending (λ load. load.reg ≢ 0)

abbrev pub RowsStaySteady : Type 0
RowsStaySteady =
    (memory : List ℕ) (c : Cpu) → IsSteady c → IsSteady (cpu_after c (row memory c))
