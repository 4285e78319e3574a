-- With which registers a thread, a handler or a module begins, read back by the names that the
-- calling convention O32 of MIPS gives them. What they are is this project's own profile.
use Rattle.std.specs.Prelude.{◌≡◌, ◌≢◌, ℕ, ◌+◌, ◌-◌, ◌≤◌, ◌^◌, false, None, length}
use Rattle.iop_base.specs.Numbers.{wrapped}
use Rattle.iop_exec.specs.declared.cpu.Cpu.{Cpu}
use Rattle.iop_exec.specs.Row.{reg}
use Rattle.iop_thread.specs.declared.thread.Thread.{Thread}
use Rattle.iop_thread.specs.declared.thread.TheConstants.{THREAD_RETURN}
use Rattle.iop_thread.specs.States.{first_registers}

-- a processor begins at an address, with these words in the registers of calls and zero in all
-- others
pub record BeginsWith (c : Cpu) (at first second pointer stack back : ℕ) : Type 0 where
  pub pc : c.pc ≡ at
  pub next : c.next ≡ wrapped (at + 4)
  pub in_slot : c.in_slot ≡ false
  pub pending : c.pending ≡ None
  pub hi : c.hi ≡ 0
  pub lo : c.lo ≡ 0
  pub a0 : reg c 4 ≡ first
  pub a1 : reg c 5 ≡ second
  pub gp : reg c 28 ≡ pointer
  pub sp : reg c 29 ≡ stack
  pub ra : reg c 31 ≡ back
  pub others : (n : ℕ) → n ≢ 4 → n ≢ 5 → n ≢ 28 → n ≢ 29 → n ≢ 31 → reg c n ≡ 0
  pub count : length c.regs ≡ 32

-- where the stack of a thread begins that is started: 16 bytes below its end, as a word
abbrev pub stack_top : Thread → ℕ
stack_top t = wrapped (t.stack + t.param.stack_size + (2 ^ 32 - 16))

pub record FirstRegistersAreRead : Type 0 where
  pub started : (t : Thread) (argument : ℕ)
      → BeginsWith (first_registers t argument) t.param.entry argument 0 t.gp (stack_top t)
      THREAD_RETURN
  -- where the stack's end is an address, so is this
  pub below_end : (t : Thread) (argument : ℕ) → 16 ≤ t.stack + t.param.stack_size
      → t.stack + t.param.stack_size ≤ 2 ^ 32
      → reg (first_registers t argument) 29 + 16 ≡ t.stack + t.param.stack_size
