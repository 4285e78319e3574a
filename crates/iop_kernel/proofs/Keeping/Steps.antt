-- What holds of the kernel at all times holds at first, and after all that the machine does beside
-- its services.
use Rattle.std.proofs.Common.{◌≡◌, ℕ, Option, None, refl}
use Rattle.std.specs.Prelude.{⊤}
use Rattle.iop_base.specs.declared.code.TheConstants.Code.{OK}
use Rattle.iop_exec.specs.Laws.{IsSteady}
use Rattle.iop_exec.specs.declared.cpu.Cpu.{Cpu}
use Rattle.iop_intr.specs.declared.handler.Handler.{Handler}
use Rattle.iop_thread.specs.Laws.{KeepsSteady}
use Rattle.iop_thread.specs.Waits.{MovesWaits}
use Rattle.iop_thread.specs.declared.kind.Kind.TheVariants as kinds
use Rattle.iop_thread.proofs.KeptSteadily.{keeps_steady, operations_keep_steady, begun_steady}
use Rattle.iop_thread.proofs.Sleepers.{operations_keep_sleepers}
use Rattle.iop_thread.proofs.Strict.{dispatched_is}
use Rattle.iop_thread.proofs.Waits.{moves_waits}
use Rattle.iop_kernel.specs.Handlers.{begins_handler}
use Rattle.iop_kernel.specs.Laws.{IsCore}
use Rattle.iop_kernel.specs.Overdue.{NoneOverdue}
use Rattle.iop_kernel.specs.Placing.{IsPlaced}
use Rattle.iop_kernel.specs.System.{Kernel, Core, beginning, code_word}
use Rattle.iop_kernel.specs.declared.active_handler.Cause.{Cause}
use Rattle.iop_kernel.proofs.Keeping.Core.{Alone, WouldSwitch, alone_of, holds_whole, would_switch, with_them}
use Rattle.iop_kernel.proofs.Overdue.Kernels.{sleepers, with_other_threads, beside_in_time}
use Rattle.iop_kernel.proofs.Placing.Opening.{opening_placed}
use Rattle.iop_kernel.proofs.Placing.Steps.{placed_due, placed_steps}
use Rattle.iop_kernel.proofs.Walk.Steps.{DueComes, Steps}

-- at first there is no object, and the loader's thread does not wait
opening_overdue : NoneOverdue beginning
opening_overdue = record {
  objects = elim [
    | kinds.Semaphore ↦ λ id x is. cc
    | kinds.EventFlag ↦ λ id x is. cc
    | kinds.Mailbox ↦ λ id x is. cc
    | kinds.VariablePool ↦ λ id x is. cc
    | kinds.FixedPool ↦ λ id x is. cc
  ];
  sleepers = operations_keep_sleepers.opening;
}

-- at first, whatever the registers are
pub opening_core : (cpu : Cpu) → IsSteady cpu → IsCore (record { kernel = beginning; cpu = cpu })
opening_core cpu steady = holds_whole opening_placed opening_overdue (record {
  awake = λ none. (refl, λ outside. refl);
  steady = steady;
  threads = operations_keep_steady.opening;
  handler = tt;
})

-- a handler begins with steady registers, and keeps such
begins_alone : (c : Core) (cause : Cause) (handler : Handler) → Alone c
    → Alone (begins_handler c cause handler)
begins_alone c cause handler h = record {
  awake = λ none. ((h.awake none).0, λ outside. absurd (cc outside));
  steady = begun_steady _ _ refl refl;
  threads = h.threads;
  handler = h.steady;
}

module _ {c : Core} (core : IsCore c) where
  abbrev k : Kernel
  k = c.kernel

  abbrev alone : Alone c
  alone = alone_of core

  abbrev steadily : KeepsSteady k.threads
  steadily = keeps_steady k.threads core.threads

  abbrev waits : MovesWaits k.threads
  waits = moves_waits k.threads core.placed.threads

  abbrev placed : Steps (λ d. IsPlaced d.kernel) (λ cpu. ⊤) c
  placed = placed_steps c core.placed

  -- where the same thread runs another is as free to run
  running_on : {running : Option ℕ} → running ≡ k.threads.running → running ≡ None
      → WouldSwitch k.interrupts k.dispatching k.handler
  running_on on none = alone.awake (cc (on, none))

  due_core : DueComes (λ d line. IsCore d) c
  due_core = record {
    begins_alarm = λ alarm taken. holds_whole ((placed_due c core.placed).begins_alarm alarm taken)
        (beside_in_time k core.overdue _ _ _ _ _ _) (begins_alone c _ _ alone);
    wakes = λ delay taken. let word = code_word OK in
        holds_whole ((placed_due c core.placed).wakes delay taken)
        (with_other_threads _ (beside_in_time k core.overdue _ _ _ _ _ _) _
        ((sleepers k core.overdue).wakes delay.thread word))
        (with_them c alone _ (steadily.wakes delay.thread word)
        (running_on (waits.wakes delay.thread word).running));
  }

  pub core_steps : Steps IsCore IsSteady c
  core_steps = record {
    delivers = record {
      begins_line = λ line handler found has.
          holds_whole (placed.delivers.begins_line line handler found has)
          (beside_in_time k core.overdue _ _ _ _ _ _) (begins_alone c _ _ alone);
      due = λ none. due_core;
    };
    dispatches = λ d made. let steady = steadily.dispatches c.cpu d core.steady made in
        let runs = (dispatched_is k.threads c.cpu d core.placed.threads made).runs in
        holds_whole (placed.dispatches d made)
        (with_other_threads k core.overdue d.threads
        ((sleepers k core.overdue).dispatches c.cpu d tt made).0)
        (record {
          awake = λ none. absurd (cc (runs, none));
          steady = steady.1;
          threads = steady.0;
          handler = core.handler;
        });
    begins = λ registers may.
        holds_whole (placed.begins registers tt)
        (with_other_threads k core.overdue _ ((sleepers k core.overdue).begins registers tt))
        (with_them c alone _ (steadily.begins registers may)
        (running_on (waits.begins registers).running));
    ends_running = λ may.
        holds_whole (placed.ends_running may)
        (with_other_threads k core.overdue _ (sleepers k core.overdue).ends_running)
        (with_them c alone _ steadily.ends_running
        (λ none. would_switch k.interrupts k.dispatching k.handler may));
    moves_on = λ moment cpu steady. holds_whole (placed.moves_on moment cpu tt)
        (beside_in_time k core.overdue _ _ _ _ _ _)
        (record {
          awake = alone.awake;
          steady = steady;
          threads = core.threads;
          handler = core.handler;
        });
    raises = λ irqs. holds_whole (placed.raises irqs)
        (beside_in_time k core.overdue _ _ _ _ _ _) alone;
  }
