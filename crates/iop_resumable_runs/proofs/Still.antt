-- A kernel whose processor stands in no delay slot stays so, as it can be put back, where a call
-- ends, a module ends or a machine is booted.
use Rattle.std.proofs.Common.{◌≡◌, ℕ, ◌+◌, Bool, true, false, Option, Some, None, IfSome, length, refl, sym, subst}
use Rattle.std.specs.Prelude.{option_map}
use Rattle.iop_exec.specs.declared.cpu.Cpu.{Cpu}
use Rattle.iop_intr.specs.declared.irqs.TheConstants.{IRQ_LINES}
use Rattle.iop_kernel.specs.DeliveryLaws.{at_moment}
use Rattle.iop_kernel.specs.System.{Kernel, Core, is_active, with_threads}
use Rattle.iop_kernel.specs.declared.active_handler.ActiveHandler.{ActiveHandler}
use Rattle.iop_machine.specs.Iop.{Iop, core_of}
use Rattle.iop_machine.specs.Loading.{loads_first, with_kernel, starts_by, boots}
use Rattle.iop_machine.specs.Modules.{modules_of}
use Rattle.iop_kernel.specs.Registers.{nobodys}
use Rattle.iop_machine.specs.Registers.{if_had, keeps_for, forgets, ends_call}
use Rattle.iop_machine.specs.Services.{leaves, goes_on_by, ends_module, returns_by}
use Rattle.iop_modload.specs.Finishing.{finishes}
use Rattle.iop_resumable.specs.Regular.{IsRegular, StandsStill}
use Rattle.iop_resumable.proofs.Steps.{steps_stay_regular}
use Rattle.iop_saved_kernel.specs.Laws.{CanHaveBegun, IsReadableKept}
use Rattle.iop_saved_machine.specs.declared.begun_module.BegunModule.{BegunModule}
use Rattle.iop_thread.specs.Operations as threads
use Rattle.iop_thread.proofs.KeptSteadily.{begun_steady}
use Rattle.iop_resumable_runs.specs.Resumable.{IsResumableCore}
use Rattle.iop_resumable_runs.proofs.Loader.{loads_first_lands}

abbrev pub Still : Core → Type 0
Still c = StandsStill c × (length c.kernel.irqs ≡ IRQ_LINES)

-- nothing is said of dispatches there
pub resumable : (c : Core) → Still c → IsResumableCore c
resumable c (h, lines) = record {
  regular = h.regular;
  cpu = h.cpu.readable;
  slot = λ inside. absurd (cc (h.cpu.outside, inside));
  lines = lines;
}

pub nobodys_readable : IsReadableKept nobodys
nobodys_readable = record {
  readable = record { steady = begun_steady _ _ refl refl; register = tt };
  outside = refl;
}

-- another processor, at another moment
pub still_moved : (c : Core) (moment : ℕ) (cpu : Cpu) → IsRegular c
    → length c.kernel.irqs ≡ IRQ_LINES → IsReadableKept cpu → Still (at_moment c moment cpu)
still_moved c moment cpu h lines readable =
    (record { regular = steps_stay_regular.moves_on c moment cpu h; cpu = readable }, lines)

-- the loader's thread begins, or ends
still_begins : (c : Core) (registers : Cpu) → Still c → IsReadableKept registers
    → Still (with_threads c (threads.begins c.kernel.threads registers))
still_begins c registers (h, lines) readable =
    let regular = steps_stay_regular.begins c registers h.regular readable in
    (record { regular = regular; cpu = h.cpu }, lines)

still_ends : (c : Core) → Still c
    → Still (with_threads c (threads.ends_running c.kernel.threads))
still_ends c (h, lines) =
    (record { regular = steps_stay_regular.ends_running c h.regular; cpu = h.cpu }, lines)

-- registers that nobody has are forgotten
forgets_still : (c : Core) → Still c → Still (forgets c)
forgets_still c (h, lines) = (
  record {
    regular = record {
      objects = λ kind. h.regular.objects kind;
      cause = cause_of c.kernel.threads.running c.kernel.handler h.regular.cause;
      threads = h.regular.threads;
      handler = kept_of c.kernel.threads.running c.kernel.handler h.regular.handler;
    };
    cpu = had_of (is_active c.kernel) h.cpu;
  },
  lines,
)
  where
    cause_of : (running : Option ℕ) (o : Option ActiveHandler)
        → IfSome o (λ handler. CanHaveBegun c.kernel.timers.next handler.cause)
        → IfSome (option_map (keeps_for running) o)
        (λ handler. CanHaveBegun c.kernel.timers.next handler.cause)
    cause_of running None cause = tt
    cause_of None (Some handler) cause = cause
    cause_of (Some id) (Some handler) cause = cause

    kept_of : (running : Option ℕ) (o : Option ActiveHandler)
        → IfSome o (λ handler. IsReadableKept handler.kept)
        → IfSome (option_map (keeps_for running) o) (λ handler. IsReadableKept handler.kept)
    kept_of running None kept = tt
    kept_of None (Some handler) kept = nobodys_readable
    kept_of (Some id) (Some handler) kept = kept

    had_of : (had : Bool) → IsReadableKept c.cpu → IsReadableKept (if_had had c.cpu)
    had_of true readable = readable
    had_of false readable = nobodys_readable

pub ended_still : (s : Iop) → Still (core_of s) → Still (core_of (ends_call s))
ended_still s h =
    let forgotten = forgets_still (core_of s) h in
    still_moved (forgets (core_of s)) (s.kernel.clock + 1) (forgets (core_of s)).cpu
    forgotten.0.regular forgotten.1 forgotten.0.cpu

-- ---- the loader

-- with the kernel that the loading of modules leaves
loaded_still : (s : Iop) (t : Iop) → t.kernel ≡ s.kernel
    → Still (record { kernel = s.kernel; cpu = t.cpu }) → Still (core_of t)
loaded_still s t same h =
    subst (λ (k : Kernel). Still (record { kernel = k; cpu = t.cpu })) (sym same) h

goes_on_still : (s : Iop) (o : Option BegunModule) → Still (core_of s)
    → Still (core_of (goes_on_by s o))
goes_on_still s None h = still_ends (core_of s) h
goes_on_still s (Some begun) h = h

-- a module ends, if one runs
pub returns_still : (s : Iop) (o : Option BegunModule) (value : ℕ) → Still (core_of s)
    → Still (core_of (returns_by s o value).state)
unfolding ends_module
returns_still s None value h = still_ends (core_of s) h
returns_still s (Some m) value h =
    let left = (leaves s
    (finishes s.kernel.clock s.memory s.blocks s.libraries m.number m.place value)).state in
    let now = (loads_first (modules_of left.modules) left).state in
    let lands = loads_first_lands (modules_of left.modules) left in
    goes_on_still now now.begun (loaded_still s now lands.kernel
    (still_moved (core_of s) s.kernel.clock now.cpu h.0.regular h.1 (lands.cpu h.0.cpu)))

-- the loader's thread begins, where a module does, and nobody has the processor's registers
starts_still : (s : Iop) (o : Option BegunModule) → IfSome o (λ m. IsReadableKept s.cpu)
    → Still (record { kernel = s.kernel; cpu = nobodys })
    → Still (record { kernel = (starts_by s o).kernel; cpu = nobodys })
starts_still s None begun h = h
starts_still s (Some m) begun h =
    still_begins (record { kernel = s.kernel; cpu = nobodys }) s.cpu h begun

pub boots_still : (s : Iop) → IsRegular (core_of s) → length s.kernel.irqs ≡ IRQ_LINES
    → Still (core_of (boots s).state)
unfolding boots
boots_still s h lines =
    let left = (loads_first (modules_of s.modules) (with_kernel s)).state in
    let lands = loads_first_lands (modules_of s.modules) (with_kernel s) in
    starts_still left left.begun lands.begun
    (subst (λ (k : Kernel). Still (record { kernel = k; cpu = nobodys })) (sym lands.kernel)
    (still_moved (core_of s) s.kernel.clock nobodys h lines nobodys_readable))
