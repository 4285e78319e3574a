-- How what the kernel has beside its tables is spelled: the moment, whether interrupts are on and
-- dispatch is enabled, the thread that runs, and what the handler that is active was begun for.
-- This project's own profile.
use Rattle.std.specs.Prelude.{ℕ, ◌==◌, nat_lt, Bool, true, not, ◌&&◌, ◌||◌, is_some, if◌then◌else◌, Option, Some, None, option_map, option_and_then, List, [], ◌∷◌, slice_index}
use Rattle.iop_base.specs.Numbers.{one_if}
use Rattle.iop_intr.specs.declared.irqs.TheConstants.{IRQ_LINES}
use Rattle.iop_kernel.specs.declared.active_handler.Cause.{Cause}
use Rattle.iop_kernel.specs.declared.active_handler.Cause.TheVariants.{Line, Alarm}
use Rattle.iop_snapshot.specs.Flags.{flag_of}
use Rattle.iop_snapshot.specs.Forms.{Form, item, seen_as, tested}
use Rattle.iop_snapshot.specs.declared.widths.TheConstants.{KERNEL}
use Rattle.iop_saved_kernel.specs.declared.head.KernelHead.{KernelHead}

-- the id of the thread that runs: 0 where none does
abbrev pub running_number : Option ℕ → ℕ
running_number None = 0
running_number (Some id) = id

abbrev pub running_of : ℕ → Option ℕ
running_of id = if id == 0 then None else Some id

-- what a handler was begun for, and the number of its line or alarm: 0 where none is active
abbrev pub cause_kind : Option Cause → ℕ
cause_kind None = 0
cause_kind (Some (Line line)) = 1
cause_kind (Some (Alarm number)) = 2

abbrev pub cause_number : Option Cause → ℕ
cause_number None = 0
cause_number (Some (Line line)) = line
cause_number (Some (Alarm number)) = number

abbrev pub cause_of : (kind number : ℕ) → Option (Option Cause)
cause_of kind number =
    if kind == 0 then if number == 0 then Some None else None
    else if kind == 1 then if nat_lt number IRQ_LINES then Some (Some (Line number)) else None
    else if kind == 2 then Some (Some (Alarm number))
    else None

abbrev pub head_numbers : KernelHead → List ℕ
head_numbers h =
    h.clock ∷ one_if h.interrupts ∷ one_if h.dispatching ∷ running_number h.running
    ∷ cause_kind h.cause ∷ cause_number h.cause ∷ []

abbrev pub head_with : (numbers : List ℕ) → (interrupts dispatching : Bool) → Option Cause
    → KernelHead
head_with numbers interrupts dispatching cause = record {
  clock = slice_index numbers 0;
  interrupts = interrupts;
  dispatching = dispatching;
  running = running_of (slice_index numbers 3);
  cause = cause;
}

abbrev pub head_of : List ℕ → Option KernelHead
head_of numbers =
    option_and_then
    (λ interrupts. option_and_then
    (λ dispatching. option_map (head_with numbers interrupts dispatching)
    (cause_of (slice_index numbers 4) (slice_index numbers 5)))
    (flag_of (slice_index numbers 2)))
    (flag_of (slice_index numbers 1))

-- the form of any head
unfoldable pub head_form : Form KernelHead
head_form = seen_as (item KERNEL) head_of head_numbers

-- no thread has the id 0
abbrev pub has_id : Option ℕ → Bool
has_id None = true
has_id (Some id) = not (id == 0)

-- a handler is begun for one of the lines
abbrev pub is_cause : Option Cause → Bool
is_cause None = true
is_cause (Some (Line line)) = nat_lt line IRQ_LINES
is_cause (Some (Alarm number)) = true

abbrev pub is_head : KernelHead → Bool
is_head h = has_id h.running && is_cause h.cause

-- the form of a head that can be read
abbrev pub read_head : Form KernelHead
read_head = tested head_form is_head

-- whether a thread or a handler executes
abbrev pub executes : KernelHead → Bool
executes h = is_some h.running || is_some h.cause

-- whether a handler has interrupted a thread
abbrev pub has_interrupted : KernelHead → Bool
has_interrupted h = is_some h.running && is_some h.cause
