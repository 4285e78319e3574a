-- What threads keep can be read back, and so can the processor, after each change.
use Rattle.std.proofs.Common.{◌≡◌, ℕ, All, refl, subst}
use Rattle.iop_exec.specs.declared.cpu.Cpu.{Cpu}
use Rattle.iop_exec.specs.Row.{with_reg}
use Rattle.iop_exec.proofs.RowKeeps.{steadies}
use Rattle.iop_thread.specs.Laws.{Keeps, KeptBy, AnyRegisters, AnyWait}
use Rattle.iop_thread.specs.Operations.{ready_registers}
use Rattle.iop_thread.specs.States.{suspended_state}
use Rattle.iop_thread.specs.ThreadTable.{ThreadTable}
use Rattle.iop_thread.specs.declared.state.State.{State}
use Rattle.iop_thread.specs.declared.state.State.TheVariants.{Dormant, Running, Ready, Waiting, Suspended, WaitingSuspended}
use Rattle.iop_thread.specs.declared.thread.Thread.{Thread}
use Rattle.iop_thread.proofs.EachThread.{Lasts, keeps_each}
use Rattle.iop_thread.proofs.KeptSteadily.{begun_steady}
use Rattle.iop_saved_kernel.specs.Laws.{IsReadableKept}

-- a word is answered
pub answered_kept : (cpu : Cpu) (word : ℕ) → IsReadableKept cpu
    → IsReadableKept (with_reg cpu 2 word)
answered_kept cpu word h = record {
  readable = record {
    steady = steadies.writes cpu 2 word refl h.readable.steady;
    register = h.readable.register;
  };
  outside = h.outside;
}

-- a state that keeps what can be read
abbrev pub Kept : State → Type 0
Kept = KeptBy IsReadableKept AnyRegisters

abbrev pub AreKept : ThreadTable → Type 0
AreKept s = All (λ t. Kept t.state) s.live

kept_in : (t : Thread) (state : State) → t.state ≡ state → Kept t.state → Kept state
kept_in t state is kept = subst Kept is kept

kept_suspended : (registers : Cpu) → IsReadableKept registers → (state : State) → Kept state
    → Kept (suspended_state registers state)
kept_suspended registers given Dormant kept = tt
kept_suspended registers given Running kept = given
kept_suspended registers given (Ready own) kept = kept
kept_suspended registers given (Waiting wait own) kept = kept
kept_suspended registers given (Suspended own) kept = kept
kept_suspended registers given (WaitingSuspended wait own) kept = kept

kept_ready : (registers : Cpu) → IsReadableKept registers → (state : State) → Kept state
    → IsReadableKept (ready_registers state registers)
kept_ready registers given (Ready own) kept = kept
kept_ready registers given other kept = given

kept_lasts : Lasts (λ t. Kept t.state) IsReadableKept AnyWait
kept_lasts = record {
  first = λ id param stack gp. tt;
  starts = λ t argument is. record {
    readable = record { steady = begun_steady _ _ refl refl; register = tt };
    outside = refl;
  };
  readies = λ t registers given is. given;
  runs = λ t is. tt;
  ends = λ t is. tt;
  changes = λ t priority is. is;
  waits = λ s t wait registers runs given may is. (given, tt);
  wakes = λ t wait own answer at is.
      answered_kept own answer (kept_in t (Waiting wait own) at is).0;
  wakes_suspended = λ t wait own answer at is.
      answered_kept own answer (kept_in t (WaitingSuspended wait own) at is).0;
  suspends = λ t registers given is. kept_suspended registers given t.state is;
  resumes = λ t own at is. kept_in t (Suspended own) at is;
  resumes_waiting = λ t wait own at is. kept_in t (WaitingSuspended wait own) at is;
  wakes_more = λ t wakeups other is. is;
  wakes_less = λ t wakeups less is. is;
  goes_on = λ t registers given is. kept_ready registers given t.state is;
}

pub keeps_kept : (s : ThreadTable) → AreKept s → Keeps AreKept IsReadableKept AnyWait s
keeps_kept = keeps_each (λ t. Kept t.state) IsReadableKept AnyWait kept_lasts
