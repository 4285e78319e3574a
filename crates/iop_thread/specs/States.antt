-- The states of a thread, and what its waits and states are called in numbers (ps2sdk: thread.h).
-- The numbers of the waits, and a thread's first registers, are this project's own profile.
use Rattle.std.specs.Prelude.{ℕ, ◌+◌, ◌-◌, ◌^◌, Bool, true, false, Option, Some, None, replicate}
use Rattle.iop_base.specs.Numbers.{wrapped}
use Rattle.iop_exec.specs.declared.cpu.Cpu.{Cpu}
use Rattle.iop_exec.specs.Row.{with_reg}
use Rattle.iop_thread.specs.declared.kind.Kind.TheVariants.{Semaphore, EventFlag, Mailbox, VariablePool, FixedPool}
use Rattle.iop_thread.specs.declared.state.State.{State}
use Rattle.iop_thread.specs.declared.state.State.TheVariants.{Dormant, Running, Ready, Waiting, Suspended, WaitingSuspended}
use Rattle.iop_thread.specs.declared.thread.Thread.{Thread}
use Rattle.iop_thread.specs.declared.thread.TheConstants.{THREAD_RETURN}
use Rattle.iop_thread.specs.declared.wait.Wait.{Wait}
use Rattle.iop_thread.specs.declared.wait.Wait.TheVariants.{Sleep, Delay, Object}

abbrev pub is_dormant : State → Bool
is_dormant Dormant = true
is_dormant other = false

abbrev pub is_running : State → Bool
is_running Running = true
is_running other = false

abbrev pub is_ready : State → Bool
is_ready (Ready registers) = true
is_ready other = false

-- what a thread waits for
abbrev pub wait_in : State → Option Wait
wait_in (Waiting wait registers) = Some wait
wait_in (WaitingSuspended wait registers) = Some wait
wait_in other = None

-- whether a thread that waits so sleeps
abbrev pub sleeps : Option Wait → Bool
sleeps (Some Sleep) = true
sleeps other = false

abbrev pub state_number : State → ℕ
state_number Running = 1
state_number (Ready registers) = 2
state_number (Waiting wait registers) = 4
state_number (Suspended registers) = 8
state_number (WaitingSuspended wait registers) = 0xC
state_number Dormant = 0x10

-- the kind of a wait, and the id of the object that it is for, if it is for one
abbrev pub kind_number : Wait → ℕ
kind_number Sleep = 1
kind_number Delay = 2
kind_number (Object Semaphore id) = 3
kind_number (Object EventFlag id) = 4
kind_number (Object Mailbox id) = 5
kind_number (Object VariablePool id) = 6
kind_number (Object FixedPool id) = 7

abbrev pub object_of : Wait → ℕ
object_of Sleep = 0
object_of Delay = 0
object_of (Object kind id) = id

-- a thread that is suspended, which had these registers if it was running
abbrev pub suspended_state : Cpu → State → State
suspended_state registers Running = Suspended registers
suspended_state registers (Ready own) = Suspended own
suspended_state registers (Waiting wait own) = WaitingSuspended wait own
suspended_state registers other = other

-- the registers with a word answered in `$v0`
abbrev pub with_answer : Cpu → ℕ → Cpu
with_answer registers value = with_reg registers 2 value

-- a processor of which all registers are zero, at an address
abbrev pub zeroed_at : ℕ → Cpu
zeroed_at pc = record {
  regs = replicate 32 0;
  hi = 0;
  lo = 0;
  pc = pc;
  next = wrapped (pc + 4);
  in_slot = false;
  pending = None;
}

-- the registers with which a started thread begins: `$a0` its argument, `$gp`, `$sp` 16 bytes below
-- the stack's end, `$ra` where a thread returns to
abbrev pub first_registers : Thread → (argument : ℕ) → Cpu
first_registers t argument =
    let top = wrapped (t.stack + t.param.stack_size + (2 ^ 32 - 16)) in
    with_reg (with_reg (with_reg (with_reg (zeroed_at t.param.entry) 4 argument) 28 t.gp) 29 top)
    31 THREAD_RETURN
