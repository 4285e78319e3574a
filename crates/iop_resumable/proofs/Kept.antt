-- What threads and the handler keep, and the processor, can be read back, and a handler was begun
-- for what one can have been begun for: told of the parts of the kernel that it is about, so that
-- it lasts where others change.
use Rattle.std.proofs.Common.{ℕ, ◌≤◌, nat_lt, Option, Some, None, IfSome, List, [], ◌∷◌, length, arith}
use Rattle.std.specs.List.{list_any}
use Rattle.std.proofs.lemmas.Bool.{cond_both}
use Rattle.iop_base.specs.declared.code.Code.{Code}
use Rattle.iop_exec.specs.declared.cpu.Cpu.{Cpu}
use Rattle.iop_pools.specs.declared.met.Met.{Met}
use Rattle.iop_thread.specs.Operations as threads
use Rattle.iop_thread.specs.ThreadTable.{ThreadTable}
use Rattle.iop_thread.specs.declared.wait.Wait.{Wait}
use Rattle.iop_thread.specs.declared.wait.Wait.TheVariants.{Delay, Object}
use Rattle.iop_time.specs.Timers.{Timers, is_alarm_of, sets_alarm, cancels}
use Rattle.iop_time.specs.declared.clock.TheConstants.{MOST_ALARMS}
use Rattle.iop_kernel.specs.System.{Core, registers_beside, running_registers, answered}
use Rattle.iop_kernel.specs.Waits.{wakes_all, core_leaves, core_requeues}
use Rattle.iop_kernel.specs.declared.active_handler.ActiveHandler.{ActiveHandler}
use Rattle.iop_kernel.specs.declared.active_handler.Cause.{Cause}
use Rattle.iop_kernel.specs.declared.active_handler.Cause.TheVariants.{Line, Alarm}
use Rattle.iop_kernel.proofs.Walk.Meeting.{wakes_met}
use Rattle.iop_saved_kernel.specs.Laws.{IsReadableKept, CanHaveBegun}
use Rattle.iop_resumable.proofs.KeptRegisters.{AreKept, answered_kept, keeps_kept}

pub record Holds (t : ThreadTable) (active : Option ActiveHandler) (next : ℕ) (cpu : Cpu)
    : Type 0 where
  pub threads : AreKept t
  pub handler : IfSome active (λ handler. IsReadableKept handler.kept)
  pub cause : IfSome active (λ handler. CanHaveBegun next handler.cause)
  pub processor : IsReadableKept cpu

abbrev pub HoldsOf : Core → Type 0
HoldsOf c = Holds c.kernel.threads c.kernel.handler c.kernel.timers.next c.cpu

-- a handler was begun for such also where more numbers are given
begun_later : (next more : ℕ) → next ≤ more → (cause : Cause) → CanHaveBegun next cause
    → CanHaveBegun more cause
begun_later next more le (Line line) begun = begun
begun_later next more le (Alarm number) begun = (begun.0, omega (arith, begun.1, le))

active_later : (next more : ℕ) → next ≤ more → (active : Option ActiveHandler)
    → IfSome active (λ handler. CanHaveBegun next handler.cause)
    → IfSome active (λ handler. CanHaveBegun more handler.cause)
active_later next more le None begun = tt
active_later next more le (Some handler) begun = begun_later next more le handler.cause begun

-- other threads stand there
pub with_them : (c : Core) → HoldsOf c → (t : ThreadTable) → AreKept t
    → Holds t c.kernel.handler c.kernel.timers.next c.cpu
with_them c h t kept =
    record { threads = kept; handler = h.handler; cause = h.cause; processor = h.processor }

-- more numbers are given
pub numbered : (c : Core) → HoldsOf c → (more : ℕ) → c.kernel.timers.next ≤ more
    → Holds c.kernel.threads c.kernel.handler more c.cpu
numbered c h more le = record {
  threads = h.threads;
  handler = h.handler;
  cause = active_later c.kernel.timers.next more le c.kernel.handler h.cause;
  processor = h.processor;
}

-- a word is answered
pub answered_holds : (c : Core) (word : ℕ) → HoldsOf c → HoldsOf (answered c word)
answered_holds c word h = record {
  threads = h.threads;
  handler = h.handler;
  cause = h.cause;
  processor = answered_kept c.cpu word h.processor;
}

-- the registers of the thread that runs can be read, also while a handler runs
kept_beside : (o : Option ActiveHandler) (cpu : Cpu)
    → IfSome o (λ handler. IsReadableKept handler.kept) → IsReadableKept cpu
    → IsReadableKept (registers_beside o cpu)
kept_beside None cpu kept readable = readable
kept_beside (Some handler) cpu kept readable = kept

pub running_kept : (c : Core) → HoldsOf c → IsReadableKept (running_registers c)
running_kept c h = kept_beside c.kernel.handler c.cpu h.handler h.processor

-- the waits of several threads end
pub woken_kept : (ids : List ℕ) (t : ThreadTable) (word : ℕ) → AreKept t
    → AreKept (wakes_all t ids word)
woken_kept [] t word kept = kept
woken_kept (id ∷ ids) t word kept =
    woken_kept ids (threads.wakes t id word) word ((keeps_kept t kept).wakes id word)

pub met_kept : (met : List Met) (t : ThreadTable) → AreKept t → AreKept (wakes_met t met)
met_kept [] t kept = kept
met_kept (one ∷ met) t kept =
    met_kept met (threads.wakes t one.thread one.block)
    ((keeps_kept t kept).wakes one.thread one.block)

-- a thread no longer waits for an object, or with another priority
pub leaving_holds : (c : Core) (thread : ℕ) (wait : Option Wait) → HoldsOf c
    → HoldsOf (core_leaves c thread wait)
leaving_holds c thread (Some Delay) h = h
leaving_holds c thread (Some (Object kind id)) h = h
leaving_holds c thread other h = h

pub requeueing_holds : (c : Core) (thread priority : ℕ) (wait : Option Wait) → HoldsOf c
    → HoldsOf (core_requeues c thread priority wait)
requeueing_holds c thread priority (Some (Object kind id)) h = h
requeueing_holds c thread priority other h = h

-- to set an alarm takes no number back, and neither does it to cancel one
pub sets_later : (t : Timers) (moment handler arg gp : ℕ)
    → t.next ≤ (sets_alarm t moment handler arg gp).1.next
sets_later t moment handler arg gp =
    cond_both (list_any (is_alarm_of handler arg) t.alarms) _ _
    (λ (r : Code × Timers). t.next ≤ r.1.next) (λ found. omega arith)
    (λ other. cond_both (nat_lt (length t.alarms) MOST_ALARMS) _ _
    (λ (r : Code × Timers). t.next ≤ r.1.next) (λ room. omega arith) (λ full. omega arith))

pub cancels_later : (t : Timers) (handler arg : ℕ) → t.next ≤ (cancels t handler arg).1.next
cancels_later t handler arg =
    cond_both (list_any (is_alarm_of handler arg) t.alarms) _ _
    (λ (r : Code × Timers). t.next ≤ r.1.next) (λ found. omega arith) (λ other. omega arith)
