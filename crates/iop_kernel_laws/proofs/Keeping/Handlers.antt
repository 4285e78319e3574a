-- What the return of a handler keeps of what executes.
use Rattle.std.proofs.Common.{◌≡◌, ℕ, ◌==◌, true, IfSome, Option, Some, None, refl, ap, sym, subst}
use Rattle.std.proofs.lemmas.Bool.{cond_both}
use Rattle.iop_exec.specs.Laws.{IsSteady}
use Rattle.iop_exec.specs.declared.cpu.Cpu.{Cpu}
use Rattle.iop_time.specs.Timers.{Timers}
use Rattle.iop_kernel.specs.Handlers.{alarm_gives, gives_result, handler_returned}
use Rattle.iop_kernel.specs.Laws.{HasReturned}
use Rattle.iop_kernel.specs.System.{Kernel, Core, System}
use Rattle.iop_kernel.specs.declared.active_handler.ActiveHandler.{ActiveHandler}
use Rattle.iop_kernel.specs.declared.active_handler.Cause.{Cause}
use Rattle.iop_kernel.specs.declared.active_handler.Cause.TheVariants.{Line, Alarm}
use Rattle.iop_kernel.proofs.Keeping.Core.{Alone}

-- an alarm that is set again, or goes, takes no number
gives_number : (timers : Timers) (number value : ℕ)
    → (alarm_gives timers number value).next ≡ timers.next
gives_number timers number value =
    cond_both (value == 0) _ _ (λ (t : Timers). t.next ≡ timers.next) (λ zero. refl) (λ other. refl)

-- what a result leaves of the kernel
pub record GivesTo (k left : Kernel) : Type 0 where
  pub is : left ≡ record k { timers = left.timers; irqs = left.irqs }
  pub next : left.timers.next ≡ k.timers.next

-- it changes its line or its alarm alone
pub gives_to : (k : Kernel) (cause : Cause) (value : ℕ) → GivesTo k (gives_result k cause value)
gives_to k (Line line) value = record { is = refl; next = refl }
gives_to k (Alarm number) value =
    record { is = refl; next = gives_number k.timers number value }

-- the kernel after a handler's return, and what was kept
abbrev pub returned_to : Kernel → Cpu → Core
returned_to k kept =
    record { kernel = record k { interrupts = true; handler = None }; cpu = kept }

-- it is as awake as it was, or more so
pub returned_alone : (c : Core) (left : Kernel) (kept : Cpu) → GivesTo c.kernel left → IsSteady kept
    → Alone c → Alone (returned_to left kept)
returned_alone c left kept gives steady h =
    subst (λ (k : Kernel). Alone (returned_to k kept)) (sym gives.is) (record {
      awake = λ none. ((h.awake none).0, λ outside. refl);
      steady = steady;
      threads = h.threads;
      handler = tt;
    })

-- the registers that a handler keeps are steady
pub kept_steady : (o : Option ActiveHandler) (handler : ActiveHandler)
    → IfSome o (λ handler. IsSteady handler.kept) → o ≡ Some handler → IsSteady handler.kept
kept_steady o handler keeps is =
    subst (λ (x : Option ActiveHandler). IfSome x (λ handler. IsSteady handler.kept)) is keeps

-- what has become of the handler that returned
pub returns_handler_follows : (s : System) (handler : ActiveHandler) (value : ℕ)
    → HasReturned s handler (record s { core = handler_returned s.core handler value })
returns_handler_follows s handler value = record {
  none = refl;
  interrupts = refl;
  registers = refl;
  kernel = ap (λ (k : Kernel). record k { interrupts = true; handler = None })
      (gives_to s.core.kernel handler.cause value).is;
}
