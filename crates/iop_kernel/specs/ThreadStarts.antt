-- How threads start and end (ps2sdk: thbase.h; the codes are those of its kerr.h). The conditions
-- and the order of the refusals are this project's own profile.
use Rattle.std.specs.Prelude.{ℕ, ◌==◌, ◌||◌, if◌then◌else◌, Option, Some, None, Result, Ok, Err}
use Rattle.iop_base.specs.declared.code.Code.{Code}
use Rattle.iop_base.specs.declared.code.TheConstants.Code.{OK, ILLEGAL_THREAD}
use Rattle.iop_base.specs.declared.guest_fault.GuestFault.TheVariants.{Service}
use Rattle.iop_exec.specs.Row.{reg}
use Rattle.iop_thread.specs.Operations as threads
use Rattle.iop_thread.specs.ThreadTable.{ThreadTable, is_it}
use Rattle.iop_thread.specs.declared.thread.TheConstants.{LOADER}
use Rattle.iop_thread.specs.declared.wait.Wait.{Wait}
use Rattle.iop_kernel.specs.Answering.{leaves_code}
use Rattle.iop_kernel.specs.NamedThreads.{is_nobody_else}
use Rattle.iop_kernel.specs.System.{Core, Left, caller, with_threads, opened, answers, switches, faults}
use Rattle.iop_kernel.specs.Waits.{core_leaves}
use Rattle.iop_kernel.specs.declared.after.After.TheVariants.{ModuleReturned}

-- StartThread
abbrev pub start_thread : Core → (id argument : ℕ) → Left Core
start_thread c id argument =
    if id == 0 || id == LOADER then answers c ILLEGAL_THREAD
    else leaves_code c (threads.starts c.kernel.threads id argument)

-- the loader's thread calls: its module returns a word
abbrev pub returns_module : Core → ℕ → Left Core
returns_module c word = record { state = opened c; after = ModuleReturned word }

-- the thread that calls ends
abbrev pub ended : Core → Core
ended c = with_threads (opened c) (threads.ends_running c.kernel.threads)

-- by the thread that calls; of the loader's thread this is the return of its module, of 0
abbrev pub exits_by : Core → Option ℕ → Left Core
exits_by c None = faults c Service
exits_by c (Some id) = if id == LOADER then returns_module c 0 else switches (ended c)

-- ExitThread
abbrev pub exit_thread : Core → Left Core
exit_thread c = exits_by c (caller c)

-- the module of the loader's thread returns what stands in `$v0`; no other thread can return so
abbrev pub returns_by : Core → Option ℕ → Left Core
returns_by c None = faults c Service
returns_by c (Some id) =
    if id == LOADER then returns_module c (reg c.cpu 2) else faults c Service

abbrev pub return_module : Core → Left Core
return_module c = returns_by c (caller c)

module _ (c : Core) where
  -- by what the end of the thread came to: it waits for no object any more; if it was the one that
  -- ran, interrupts are on and dispatch is enabled
  abbrev pub terminates_by : (id : ℕ) → Result (Option Wait) Code × ThreadTable → Left Core
  terminates_by id (Err code, threads) = answers c code
  terminates_by id (Ok wait, threads) =
      let left = if is_it c.kernel.threads.running id then opened c else c in
      answers (core_leaves (with_threads left threads) id wait) OK

  -- TerminateThread
  abbrev pub terminate_thread : (id : ℕ) → Left Core
  terminate_thread id =
      if is_nobody_else c id || id == LOADER then answers c ILLEGAL_THREAD
      else terminates_by id (threads.terminates c.kernel.threads id)
