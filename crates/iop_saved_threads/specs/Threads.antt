-- How a thread is spelled: this project's own profile.
use Rattle.std.specs.Prelude.{◌≡◌, ℕ, ◌==◌, true, Bool, ◌&&◌, ◌||◌, if◌then◌else◌, is_some, IfSome, Option, Some, None, option_map, option_and_then, List, [], ◌∷◌, slice_index}
use Rattle.iop_exec.specs.declared.cpu.Cpu.{Cpu}
use Rattle.iop_ready.specs.Priorities.{priority_of}
use Rattle.iop_thread.specs.States.{state_number, kind_number, object_of, wait_in}
use Rattle.iop_thread.specs.declared.kind.Kind.{Kind}
use Rattle.iop_thread.specs.declared.kind.Kind.TheVariants.{Semaphore, EventFlag, Mailbox, VariablePool, FixedPool}
use Rattle.iop_thread.specs.declared.param.Param.{Param}
use Rattle.iop_thread.specs.declared.state.State.{State}
use Rattle.iop_thread.specs.declared.state.State.TheVariants.{Dormant, Running, Ready, Waiting, Suspended, WaitingSuspended}
use Rattle.iop_thread.specs.declared.thread.Thread.{Thread}
use Rattle.iop_thread.specs.declared.wait.Wait.{Wait}
use Rattle.iop_thread.specs.declared.wait.Wait.TheVariants.{Sleep, Delay, Object}
use Rattle.iop_snapshot.specs.Forms.{Form, item, both, seen_as, tested, present}
use Rattle.iop_snapshot.specs.declared.widths.TheConstants.{THREAD}
use Rattle.iop_saved_threads.specs.Processors.{cpu_form, kept_form}

-- the registers that a thread keeps in its state
abbrev pub cpu_in : State → Option Cpu
cpu_in Dormant = None
cpu_in Running = None
cpu_in (Ready cpu) = Some cpu
cpu_in (Waiting wait cpu) = Some cpu
cpu_in (Suspended cpu) = Some cpu
cpu_in (WaitingSuspended wait cpu) = Some cpu

-- whether it does in the state of this number
abbrev pub keeps_cpu : ℕ → Bool
keeps_cpu state = state == 2 || state == 4 || state == 8 || state == 0xC

-- the number of what a thread waits for, and the id of the object: 0 where it waits for none
abbrev pub wait_number : Option Wait → ℕ
wait_number None = 0
wait_number (Some wait) = kind_number wait

abbrev pub wait_id : Option Wait → ℕ
wait_id None = 0
wait_id (Some wait) = object_of wait

abbrev pub kind_of : ℕ → Option Kind
kind_of n =
    if n == 3 then Some Semaphore
    else if n == 4 then Some EventFlag
    else if n == 5 then Some Mailbox
    else if n == 6 then Some VariablePool
    else if n == 7 then Some FixedPool
    else None

-- what a thread waits for that waits for no object
abbrev pub plain_wait_of : ℕ → Option (Option Wait)
plain_wait_of n =
    if n == 0 then Some None
    else if n == 1 then Some (Some Sleep)
    else if n == 2 then Some (Some Delay)
    else None

abbrev pub wait_by : Option Kind → (number id : ℕ) → Option (Option Wait)
wait_by (Some kind) number id = Some (Some (Object kind id))
wait_by None number id = if id == 0 then plain_wait_of number else None

abbrev pub wait_of : (number id : ℕ) → Option (Option Wait)
wait_of number id = wait_by (kind_of number) number id

-- the state of a number, where one waits and keeps registers so
abbrev pub state_of : (number : ℕ) → Option Wait → Option Cpu → Option State
state_of number None None =
    if number == 1 then Some Running else if number == 0x10 then Some Dormant else None
state_of number None (Some cpu) =
    if number == 2 then Some (Ready cpu) else if number == 8 then Some (Suspended cpu) else None
state_of number (Some wait) None = None
state_of number (Some wait) (Some cpu) =
    if number == 4 then Some (Waiting wait cpu)
    else if number == 0xC then Some (WaitingSuspended wait cpu)
    else None

abbrev pub thread_numbers : Thread → List ℕ
thread_numbers t =
    let wait = wait_in t.state in
    t.id ∷ t.param.attr ∷ t.param.option ∷ t.param.entry ∷ t.stack ∷ t.param.stack_size ∷ t.gp
    ∷ t.param.priority ∷ t.priority ∷ state_number t.state ∷ wait_number wait ∷ wait_id wait
    ∷ t.wakeups ∷ []

-- a thread is seen as its numbers and the registers that it keeps
abbrev pub thread_parts : Thread → List ℕ × Option Cpu
thread_parts t = (thread_numbers t, cpu_in t.state)

abbrev pub param_with : (numbers : List ℕ) → (priority : ℕ) → Param
param_with numbers priority = record {
  attr = slice_index numbers 1;
  option = slice_index numbers 2;
  entry = slice_index numbers 3;
  stack_size = slice_index numbers 5;
  priority = priority;
}

abbrev pub thread_with : (numbers : List ℕ) → (first priority : ℕ) → State → Thread
thread_with numbers first priority state = record {
  id = slice_index numbers 0;
  param = param_with numbers first;
  stack = slice_index numbers 4;
  gp = slice_index numbers 6;
  priority = priority;
  wakeups = slice_index numbers 12;
  state = state;
}

abbrev pub state_in : (numbers : List ℕ) → Option Cpu → Option State
state_in numbers cpu =
    option_and_then (λ wait. state_of (slice_index numbers 9) wait cpu)
    (wait_of (slice_index numbers 10) (slice_index numbers 11))

abbrev pub thread_of : List ℕ × Option Cpu → Option Thread
thread_of parts =
    let numbers = parts.0 in
    option_and_then
    (λ first. option_and_then
    (λ priority. option_map (thread_with numbers first priority) (state_in numbers parts.1))
    (priority_of (slice_index numbers 8)))
    (priority_of (slice_index numbers 7))

-- the registers that are kept have room in their widths
abbrev pub HasRoom : Option Cpu → Type 0
HasRoom cpu = IfSome cpu (λ c. cpu_form.fits c ≡ true)

-- its numbers, and its registers exactly where its state has them
abbrev pub parts_form : Form Cpu → Form (List ℕ × Option Cpu)
parts_form cpu = both (item THREAD) (λ numbers. present (keeps_cpu (slice_index numbers 9)) cpu)

unfoldable pub thread_form : Form Cpu → Form Thread
thread_form cpu = seen_as (parts_form cpu) thread_of thread_parts

-- its priorities are some
abbrev pub has_priorities : Thread → Bool
has_priorities t = is_some (priority_of t.param.priority) && is_some (priority_of t.priority)

-- the form of a thread that is read: the registers that it keeps are those of a processor that does
-- not execute
abbrev pub read_form : Form Thread
read_form = tested (thread_form kept_form) has_priorities
