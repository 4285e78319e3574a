-- How a processor is spelled: this project's own profile.
use Rattle.std.specs.Prelude.{ℕ, ◌+◌, ◌==◌, nat_lt, Bool, true, not, ◌&&◌, ◌||◌, if◌then◌else◌, Option, Some, None, option_map, option_and_then, List, [], ◌∷◌, ◌++◌, take, slice_index}
use Rattle.iop_base.specs.Numbers.{one_if, wrapped}
use Rattle.iop_exec.specs.declared.cpu.Cpu.{Cpu}
use Rattle.iop_exec.specs.declared.cpu.Pending.{Pending}
use Rattle.iop_snapshot.specs.Flags.{flag_of}
use Rattle.iop_snapshot.specs.Forms.{Form, item, seen_as, tested}
use Rattle.iop_snapshot.specs.declared.widths.TheConstants.{CPU}

-- what is pending: register 0 and value 0 where nothing is
abbrev pub pending_register : Option Pending → ℕ
pending_register None = 0
pending_register (Some load) = load.reg

abbrev pub pending_value : Option Pending → ℕ
pending_value None = 0
pending_value (Some load) = load.value

abbrev pub pending_of : (register value : ℕ) → Option (Option Pending)
pending_of register value =
    if register == 0 then if value == 0 then Some None else None
    else if nat_lt register 32 then Some (Some (record { reg = register; value = value }))
    else None

abbrev pub cpu_numbers : Cpu → List ℕ
cpu_numbers c =
    c.regs ++ c.hi ∷ c.lo ∷ c.pc ∷ c.next ∷ one_if c.in_slot ∷ pending_register c.pending
    ∷ pending_value c.pending ∷ []

abbrev pub cpu_with : (numbers : List ℕ) → (in_slot : Bool) → (pending : Option Pending) → Cpu
cpu_with numbers in_slot pending = record {
  regs = take 32 numbers;
  hi = slice_index numbers 32;
  lo = slice_index numbers 33;
  pc = slice_index numbers 34;
  next = slice_index numbers 35;
  in_slot = in_slot;
  pending = pending;
}

abbrev pub cpu_of : List ℕ → Option Cpu
cpu_of numbers =
    option_and_then
    (λ in_slot. option_map (cpu_with numbers in_slot)
    (pending_of (slice_index numbers 37) (slice_index numbers 38)))
    (flag_of (slice_index numbers 36))

-- what is pending is for one of the registers from 1 to 31
abbrev pub is_for_register : Option Pending → Bool
is_for_register None = true
is_for_register (Some load) = not (load.reg == 0) && nat_lt load.reg 32

-- register 0 holds 0, the next instruction is the one behind outside of a delay slot, and what is
-- pending is for one of the other registers
abbrev pub is_steady : Cpu → Bool
is_steady c =
    slice_index c.regs 0 == 0 && (c.in_slot || c.next == wrapped (c.pc + 4))
    && is_for_register c.pending

-- the form of any processor
unfoldable pub cpu_form : Form Cpu
cpu_form = seen_as (item CPU) cpu_of cpu_numbers

-- the form of a steady one, which is what is read
abbrev pub steady_form : Form Cpu
steady_form = tested cpu_form is_steady

-- a processor that does not execute stands in no delay slot
abbrev pub is_kept : Cpu → Bool
is_kept c = is_steady c && not c.in_slot

-- the form of one that is kept
abbrev pub kept_form : Form Cpu
kept_form = tested cpu_form is_kept
