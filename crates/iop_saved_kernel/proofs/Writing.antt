-- What is written of a kernel of the program is what it holds.
use Rattle.std.proofs.Common.{◌≡◌, ℕ, Bool, true, false, ◌&&◌, Option, Some, None, is_some, List, Result, Ok, Err, refl}
use Rattle.std.proofs.lemmas.Bool.{and_from}
use Rattle.std.specs.Prelude.{OnOk}
use Rattle.iop_exec.specs.declared.cpu.Cpu.{Cpu}
use Rattle.iop_kernel.specs.Standing.{Holds, core}
use Rattle.iop_kernel.specs.System.{Kernel}
use Rattle.iop_kernel.specs.declared.active_handler.ActiveHandler.{ActiveHandler}
use Rattle.iop_kernel.specs.declared.kernel.Kernel.{Kernel as Program}
use Rattle.iop_ready.specs.declared.entry.Entry.{Entry}
use Rattle.iop_saved_threads.specs.Processors.{cpu_form}
use Rattle.iop_saved_threads.specs.Threads.{HasRoom}
use Rattle.iop_snapshot.specs.Forms.{fits_where}
use Rattle.iop_thread.specs.ThreadTable.{ThreadTable}
use Rattle.iop_saved_kernel.specs.Executing.{executing_form, executing_in, head_in, cause_in, kept_for, if_there}
use Rattle.iop_saved_kernel.specs.Heads.{head_form, executes}

-- the kernel with what the program's has, and these threads
abbrev pub kernel_of : {R : Type 0} → Program R → ThreadTable → Kernel
kernel_of p threads = record {
  clock = p.clock;
  interrupts = p.interrupts;
  dispatching = p.dispatching;
  handler = p.handler;
  threads = threads;
  semaphores = p.semaphores;
  event_flags = p.event_flags;
  mailboxes = p.mailboxes;
  variable_pools = p.variable_pools;
  fixed_pools = p.fixed_pools;
  timers = p.timers;
  irqs = p.irqs;
}

-- it is the one that the program holds
pub held_is : {R : Type 0} {stands_for : R → List Entry → Type 0} {p : Program R} {k : Kernel}
    → Holds stands_for p k → k ≡ kernel_of p k.threads
held_is {k = k} h = λ i. record {
  clock = h.clock i;
  interrupts = h.interrupts i;
  dispatching = h.dispatching i;
  handler = h.handler i;
  threads = k.threads;
  semaphores = h.semaphores i;
  event_flags = h.event_flags i;
  mailboxes = h.mailboxes i;
  variable_pools = h.variable_pools i;
  fixed_pools = h.fixed_pools i;
  timers = h.timers i;
  irqs = h.irqs i;
}

-- what holds holds where a call was good
pub where_ok : {T E : Type 0} {P : Type 0} (result : Result T E) → P → OnOk result P
where_ok (Ok x) p = p
where_ok (Err e) p = tt

-- the processors that somebody has have room where their registers do
cpu_fits : (there : Bool) (cpu : Cpu) → HasRoom (if_there there cpu)
    → fits_where there cpu_form (if_there there cpu) ≡ true
cpu_fits true cpu room = room
cpu_fits false cpu room = refl

kept_fits : (running : Option ℕ) (handler : Option ActiveHandler) → HasRoom (kept_for running handler)
    → fits_where (is_some running && is_some (cause_in handler)) cpu_form
    (kept_for running handler)
    ≡ true
kept_fits None handler room = refl
kept_fits (Some id) None room = refl
kept_fits (Some id) (Some handler) room = room

-- and so has all that stands in front of the tables
pub executing_fits : (k : Kernel) (cpu : Cpu) → head_form.fits (head_in k) ≡ true
    → HasRoom (executing_in (core k cpu)).cpu × HasRoom (executing_in (core k cpu)).kept
    → (executing_form head_form cpu_form cpu_form).fits (executing_in (core k cpu)) ≡ true
unfolding executing_form
executing_fits k cpu head room =
    let there = executes (head_in k) in
    and_from (head_form.fits (head_in k)) _ head
    (and_from (fits_where there cpu_form (if_there there cpu)) _ (cpu_fits there cpu room.0)
    (kept_fits k.threads.running k.handler room.1))
