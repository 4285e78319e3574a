-- What holds of the registers that threads keep, and of those with which one waits: at first and
-- after each operation, if it holds of those with which a thread starts, and lasts where a word is
-- answered. So each thread is straight, and each is steady.
use Rattle.std.proofs.Common.{◌≡◌, [], List, ℕ, refl, subst}
use Rattle.std.specs.Prelude.{None, All, length, slice_index}
use Rattle.std.proofs.lemmas.List.Elements.{All-cons, All-nil}
use Rattle.iop_exec.specs.Laws.{IsSteady}
use Rattle.iop_exec.specs.Processors.{IsStraight}
use Rattle.iop_exec.specs.declared.cpu.Cpu.{Cpu}
use Rattle.iop_exec.proofs.RowKeeps.{steadies}
use Rattle.iop_thread.specs.declared.state.State.{State}
use Rattle.iop_thread.specs.declared.state.State.TheVariants.{Dormant, Running, Ready, Waiting, Suspended, WaitingSuspended}
use Rattle.iop_thread.specs.declared.thread.Thread.{Thread}
use Rattle.iop_thread.specs.declared.wait.Wait.{Wait}
use Rattle.iop_thread.specs.Laws.{OperationsKeep, AnyRegisters, KeptBy, OperationsKeepStraight, AreSteady, KeepsSteady, OperationsKeepSteady}
use Rattle.iop_thread.specs.Operations.{ready_registers}
use Rattle.iop_thread.specs.States.{suspended_state, with_answer, zeroed_at, first_registers}
use Rattle.iop_thread.specs.ThreadTable.{ThreadTable}
use Rattle.iop_thread.proofs.EachThread.{Lasts, keeps_each}

module _ (P Waits : Cpu → Type 0) where
  -- it holds of the first registers, and where one is written
  record Starts : Type 0 where
    first : (t : Thread) (argument : ℕ) → P (first_registers t argument)
    answers : (own : Cpu) (answer : ℕ) → P own → P (with_answer own answer)

  -- of what a thread keeps, and of all threads
  abbrev Kept : Thread → Type 0
  Kept t = KeptBy P Waits t.state

  abbrev AreKept : ThreadTable → Type 0
  AreKept s = All Kept s.live

  -- a thread may wait with such registers
  abbrev MayWait : ThreadTable → Wait → Cpu → Type 0
  MayWait s wait registers = Waits registers

  -- a thread of which the state is known keeps such registers
  kept_in : (t : Thread) (state : State) → t.state ≡ state → Kept t → KeptBy P Waits state
  kept_in t state is kept = subst (KeptBy P Waits) is kept

  -- a thread that is suspended keeps its registers, or those with which it ran
  kept_suspended : (registers : Cpu) → P registers → (state : State) → KeptBy P Waits state
      → KeptBy P Waits (suspended_state registers state)
  kept_suspended registers given Dormant kept = tt
  kept_suspended registers given Running kept = given
  kept_suspended registers given (Ready own) kept = kept
  kept_suspended registers given (Waiting wait own) kept = kept
  kept_suspended registers given (Suspended own) kept = kept
  kept_suspended registers given (WaitingSuspended wait own) kept = kept

  -- a thread that is dispatched goes on with its registers, or with the processor's
  kept_ready : (registers : Cpu) → P registers → (state : State) → KeptBy P Waits state
      → P (ready_registers state registers)
  kept_ready registers given (Ready own) kept = kept
  kept_ready registers given other kept = given

  -- it lasts over each change of a thread
  kept_lasts : Starts → Lasts Kept P MayWait
  kept_lasts h = record {
    first = λ id param stack gp. tt;
    starts = λ t argument is. h.first t argument;
    readies = λ t registers given is. given;
    runs = λ t is. tt;
    ends = λ t is. tt;
    changes = λ t priority is. is;
    waits = λ s t wait registers runs given may is. (given, may);
    wakes = λ t wait own answer at is.
        h.answers own answer (kept_in t (Waiting wait own) at is).0;
    wakes_suspended = λ t wait own answer at is.
        h.answers own answer (kept_in t (WaitingSuspended wait own) at is).0;
    suspends = λ t registers given is. kept_suspended registers given t.state is;
    resumes = λ t own at is. kept_in t (Suspended own) at is;
    resumes_waiting = λ t wait own at is. kept_in t (WaitingSuspended wait own) at is;
    wakes_more = λ t wakeups other is. is;
    wakes_less = λ t wakeups less is. is;
    goes_on = λ t registers given is. kept_ready registers given t.state is;
  }

  -- the loader's thread alone is dormant, and each operation leaves threads that are so
  operations_keep : Starts → OperationsKeep AreKept P MayWait
  operations_keep h = record {
    opening = All-cons Kept _ [] tt (All-nil Kept);
    keeps = keeps_each Kept P MayWait (kept_lasts h);
  }

-- outside a delay slot the next instruction is the one behind
pub operations_keep_straight : OperationsKeepStraight
operations_keep_straight = operations_keep IsStraight AnyRegisters (record {
  first = λ t argument outside. refl;
  answers = λ own answer straight. straight;
})

-- a processor that begins is steady, with registers of which the first holds 0
pub begun_steady : (regs : List ℕ) (pc : ℕ) → length regs ≡ 32 → slice_index regs 0 ≡ 0
    → IsSteady (record (zeroed_at pc) { regs = regs })
begun_steady regs pc registers zero =
    record { straight = λ outside. refl; registers = registers; zero = zero; pending = tt }

-- what each thread keeps is steady, and where it waits nothing is pending
pub operations_keep_steady : OperationsKeepSteady
operations_keep_steady = operations_keep IsSteady (λ registers. registers.pending ≡ None) (record {
  first = λ t argument. begun_steady _ _ refl refl;
  answers = λ own answer steady. steadies.writes own 2 answer refl steady;
})

pub keeps_steady : (s : ThreadTable) → AreSteady s → KeepsSteady s
keeps_steady = operations_keep_steady.keeps
