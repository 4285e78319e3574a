-- What holds at all times of what executes, beside where threads stand and who waits.
use Rattle.std.proofs.Common.{◌≡◌, Bool, true, ◌&&◌, IfSome, Option, Some, None, refl, arith}
use Rattle.std.proofs.lemmas.Bool.Decides.{nat_tests}
use Rattle.iop_exec.specs.Laws.{IsSteady}
use Rattle.iop_exec.specs.declared.cpu.Cpu.{Cpu}
use Rattle.iop_thread.specs.Laws.{AreSteady}
use Rattle.iop_thread.specs.ThreadTable.{ThreadTable}
use Rattle.iop_thread.proofs.KeptSteadily.{keeps_steady}
use Rattle.iop_kernel.specs.Laws.{IsCore}
use Rattle.iop_kernel.specs.Overdue.{NoneOverdue}
use Rattle.iop_kernel.specs.Placing.{IsPlaced}
use Rattle.iop_kernel.specs.System.{Core, registers_beside, running_registers}
use Rattle.iop_kernel.specs.ThreadStarts.{ended}
use Rattle.iop_kernel.specs.declared.active_handler.ActiveHandler.{ActiveHandler}

-- dispatch is enabled, and interrupts are on once no handler runs
abbrev pub WouldSwitch : (on enabled : Bool) → Option ActiveHandler → Type 0
WouldSwitch on enabled active = (enabled ≡ true) × (active ≡ None → on ≡ true)

-- told of the parts of the kernel that it is about, so that it lasts where others change
pub record HoldsAlone (t : ThreadTable) (on enabled : Bool) (active : Option ActiveHandler)
    (cpu : Cpu) : Type 0 where
  pub awake : t.running ≡ None → WouldSwitch on enabled active
  pub steady : IsSteady cpu
  pub threads : AreSteady t
  pub handler : IfSome active (λ handler. IsSteady handler.kept)

abbrev pub Alone : Core → Type 0
Alone c =
    HoldsAlone c.kernel.threads c.kernel.interrupts c.kernel.dispatching c.kernel.handler c.cpu

-- it is part of what holds at all times
pub alone_of : {c : Core} → IsCore c → Alone c
alone_of h = record {
  awake = λ none. ((h.awake none).dispatching, (h.awake none).interrupts);
  steady = h.steady;
  threads = h.threads;
  handler = h.handler;
}

-- with the rest it is all of it
pub holds_whole : {c : Core} → IsPlaced c.kernel → NoneOverdue c.kernel → Alone c → IsCore c
holds_whole placed overdue h = record {
  placed = placed;
  overdue = overdue;
  awake = λ none. record { dispatching = (h.awake none).0; interrupts = (h.awake none).1 };
  steady = h.steady;
  threads = h.threads;
  handler = h.handler;
}

-- where another thread may run
pub would_switch : (on enabled : Bool) (active : Option ActiveHandler) → (on && enabled) ≡ true
    → WouldSwitch on enabled active
would_switch on enabled active may =
    (grind (arith, nat_tests, may), λ outside. grind (arith, nat_tests, may))

-- other threads stand there
pub with_them : (c : Core) → Alone c → (t : ThreadTable) → AreSteady t
    → (t.running ≡ None → WouldSwitch c.kernel.interrupts c.kernel.dispatching c.kernel.handler)
    → HoldsAlone t c.kernel.interrupts c.kernel.dispatching c.kernel.handler c.cpu
with_them c h t steady awake =
    record { awake = awake; steady = h.steady; threads = steady; handler = h.handler }

-- the thread that runs ends
pub ended_alone : (c : Core) → Alone c → Alone (ended c)
ended_alone c h = record {
  awake = λ none. (refl, λ outside. refl);
  steady = h.steady;
  threads = (keeps_steady c.kernel.threads h.threads).ends_running;
  handler = h.handler;
}

-- the registers of the thread that runs are steady, also while a handler runs
steady_beside : (o : Option ActiveHandler) (cpu : Cpu) → IfSome o (λ handler. IsSteady handler.kept)
    → IsSteady cpu → IsSteady (registers_beside o cpu)
steady_beside None cpu kept steady = steady
steady_beside (Some handler) cpu kept steady = kept

pub running_steady : (c : Core) → Alone c → IsSteady (running_registers c)
running_steady c h = steady_beside c.kernel.handler c.cpu h.handler h.steady
