-- Registers that nobody has stay zero over each step.
use Rattle.std.proofs.Common.{◌≡◌, ℕ, Bool, true, false, ◌||◌, Option, Some, None, IfSome, refl, ap, sym, ◌∙◌, subst, arith}
use Rattle.std.specs.Prelude.{is_some}
use Rattle.std.proofs.lemmas.Bool.Decides.{nat_tests}
use Rattle.iop_base.specs.declared.code.TheConstants.Code.{OK}
use Rattle.iop_exec.specs.Row.{Row, Goes, Serves, Faults, row}
use Rattle.iop_intr.specs.declared.handler.Handler.{Handler}
use Rattle.iop_thread.proofs.Strict.{dispatched_is}
use Rattle.iop_thread.proofs.Waits.{moves_waits}
use Rattle.iop_thread.specs.Operations as threads
use Rattle.iop_thread.specs.Placing as placing
use Rattle.iop_thread.specs.ThreadTable.{ThreadTable}
use Rattle.iop_kernel.specs.Deliveries.{Delivered, delivers, may_deliver}
use Rattle.iop_kernel.specs.Dispatching.{Dispatched, dispatches}
use Rattle.iop_kernel.specs.Handlers.{begins_handler}
use Rattle.iop_kernel.specs.Laws.{IsCore}
use Rattle.iop_kernel.specs.Serving.{services}
use Rattle.iop_kernel.specs.System.{Kernel, Core, Served, in_handler, is_active, with_threads, with_timers, with_irqs, code_word}
use Rattle.iop_kernel.specs.declared.active_handler.ActiveHandler.{ActiveHandler}
use Rattle.iop_kernel.specs.declared.active_handler.Cause.{Cause}
use Rattle.iop_kernel.specs.declared.after.After.{After}
use Rattle.iop_kernel.specs.declared.after.After.TheVariants.{Resume, Switch, ModuleReturned, Fault}
use Rattle.iop_kernel.proofs.Walk.Steps.{delivers_goes, dispatches_goes}
use Rattle.iop_machine.specs.Iop.{Iop, core_of}
use Rattle.iop_machine.specs.Loading.{loads_first, with_kernel, starts_by, boots}
use Rattle.iop_machine.specs.Looking.{takes_events, next_coming}
use Rattle.iop_machine.specs.Modules.{modules_of}
use Rattle.iop_kernel.specs.Registers.{nobodys, IsBare}
use Rattle.iop_machine.specs.Registers.{ends_call}
use Rattle.iop_machine.specs.Services.{calls, calls_by, calling, serves, returns_by}
use Rattle.iop_machine.specs.Stepping.{Turn, takes_turn, performs, waits_by}
use Rattle.iop_machine.specs.World.{World}
use Rattle.iop_saved_machine.specs.declared.begun_module.BegunModule.{BegunModule}
use Rattle.iop_machine.proofs.Forgetting.{forgets_bare}
use Rattle.iop_machine.proofs.LoadingLands.{loads_first_lands}
use Rattle.iop_machine.proofs.Moving.{takes_core}
use Rattle.iop_machine.proofs.Stepping.{IsTurn, stopped, unbooted, delivery, dispatch, execution, waiting}

-- what holds of each handler holds of one, if there is one
if_one : (P : ActiveHandler → Type 0) → ((handler : ActiveHandler) → P handler)
    → (o : Option ActiveHandler) → IfSome o P
if_one P all None = tt
if_one P all (Some handler) = all handler

-- where a thread runs, something executes
active_by : (b : Bool) → (b || true) ≡ true
active_by true = refl
active_by false = refl

-- other threads stand there, of which the same one runs
threads_bare : (c : Core) (t : ThreadTable) → t.running ≡ c.kernel.threads.running → IsBare c
    → IsBare (with_threads c t)
threads_bare c t same h = record {
  processor = λ idle.
      h.processor (ap (λ (r : Option ℕ). in_handler c.kernel || is_some r) (sym same) ∙ idle);
  kept = subst (λ (r : Option ℕ). IfSome c.kernel.handler (λ handler. r ≡ None
      → handler.kept ≡ nobodys)) (sym same) h.kept;
}

-- nobody has the processor's registers
zeroed_bare : (c : Core) → IsBare c → IsBare (record c { cpu = nobodys })
zeroed_bare c h = record { processor = λ idle. refl; kept = h.kept }

-- a handler begins, where none was active
begins_bare : (c : Core) (cause : Cause) (handler : Handler) → IsBare c
    → in_handler c.kernel ≡ false → IsBare (begins_handler c cause handler)
begins_bare c cause handler h outside = record {
  processor = λ idle. absurd (cc idle);
  kept = λ none. h.processor (rw (outside, none) refl);
}

module _ (c : Core) (core : IsCore c) (h : IsBare c) where
  outside : may_deliver c ≡ true → in_handler c.kernel ≡ false
  outside may = grind (arith, nat_tests, may)

  -- whatever is delivered
  delivery_bare : (d : Delivered) → delivers c ≡ Some d → IsBare d.core
  delivery_bare =
      delivers_goes (λ left line. IsBare left) c (λ may. record {
        begins_line = λ line handler found has.
            begins_bare (with_irqs c _) _ handler
            (record { processor = h.processor; kept = h.kept }) (outside may);
        due = λ none. record {
          begins_alarm = λ alarm taken. begins_bare c _ _ h (outside may);
          wakes = λ delay taken.
              threads_bare (with_timers c _) _
              ((moves_waits c.kernel.threads core.placed.threads).wakes delay.thread
              (code_word OK)).running
              (record { processor = h.processor; kept = h.kept });
        };
      })

  -- whatever is dispatched runs
  dispatch_bare : (d : Dispatched) → dispatches c ≡ Some d → IsBare d.core
  dispatch_bare =
      dispatches_goes (λ left line. IsBare left) c (λ may d made.
      let runs = (dispatched_is c.kernel.threads c.cpu d core.placed.threads made).runs in
      record {
        processor = λ idle.
            let active = ap (λ (r : Option ℕ). in_handler c.kernel || is_some r) runs
            ∙ active_by (in_handler c.kernel) in
            absurd (cc (active, idle));
        kept = if_one _ (λ handler none. absurd (cc (runs, none))) c.kernel.handler;
      })

-- a call has ended
ended_bare : (s : Iop) → IsBare (core_of (ends_call s))
ended_bare s =
    let bare = forgets_bare (core_of s) in
    record { processor = bare.processor; kept = bare.kept }

-- by what becomes of the caller
calls_bare : (s : Iop) (d : Served) → IsBare (core_of s) → (after : After)
    → IsBare (core_of (calls_by s d after).state)
calls_bare s d h Resume = ended_bare (serves s d).state
calls_bare s d h Switch = ended_bare (serves s d).state
calls_bare s d h (ModuleReturned value) =
    let now = (serves s d).state in ended_bare (returns_by now now.begun value).state
calls_bare s d h (Fault kind) = h

-- an instruction of what executes
performs_bare : (s : Iop) (r : Row) → is_active s.kernel ≡ true → IsBare (core_of s)
    → IsBare (core_of (performs s r).state)
unfolding calls
performs_bare s (Goes after None) active h =
    record { processor = λ idle. absurd (cc (active, idle)); kept = h.kept }
performs_bare s (Goes after (Some storing)) active h =
    record { processor = λ idle. absurd (cc (active, idle)); kept = h.kept }
performs_bare s (Serves code) active h =
    let d = services (calling s) code in calls_bare s d h d.left.after
performs_bare s (Faults kind) active h = h

-- the clock goes on
waits_bare : (s : Iop) (o : Option ℕ) → IsBare (core_of s) → IsBare (core_of (waits_by s o).state)
waits_bare s None h = h
waits_bare s (Some moment) h = record { processor = h.processor; kept = h.kept }

-- the loader's thread is ready, if a module begins
starts_bare : (s : Iop) (o : Option BegunModule) → placing.IsPlaced s.kernel.threads
    → IsBare (record { kernel = s.kernel; cpu = nobodys })
    → IsBare (record { kernel = (starts_by s o).kernel; cpu = nobodys })
starts_bare s None placed h = h
starts_bare s (Some begun) placed h =
    threads_bare _ (threads.begins s.kernel.threads s.cpu)
    ((moves_waits s.kernel.threads placed).begins s.cpu).running h

-- a machine is booted
boots_bare : (s : Iop) → placing.IsPlaced s.kernel.threads → IsBare (core_of s)
    → IsBare (core_of (boots s).state)
unfolding boots
boots_bare s placed h =
    let left = (loads_first (modules_of s.modules) (with_kernel s)).state in
    let same = sym (loads_first_lands (modules_of s.modules) (with_kernel s)).kernel in
    starts_bare left left.begun
    (subst (λ (k : Kernel). placing.IsPlaced k.threads) same placed)
    (subst (λ (k : Kernel). IsBare (record { kernel = k; cpu = nobodys })) same
    (zeroed_bare (core_of s) h))

-- each turn
pub turn_bare : (w : World) {t : Turn} → IsCore (core_of w.iop) → IsBare (core_of w.iop)
    → IsTurn w t → IsBare (core_of (takes_turn w t).state.iop)
turn_bare w core h turn = by turn (record { processor = h.processor; kept = h.kept })
  where
    v : Iop
    v = takes_events w.iop

    by : {t : Turn} → IsTurn w t → IsBare (core_of v)
        → IsBare (core_of (takes_turn w t).state.iop)
    by (stopped stop over) taken = h
    by (unbooted over new) taken = boots_bare w.iop core.placed.threads h
    by (delivery d goes is) taken =
        delivery_bare (core_of v) (takes_core w.iop core) taken d is
    by (dispatch d goes none is) taken =
        dispatch_bare (core_of v) (takes_core w.iop core) taken d is
    by (execution goes looks) taken =
        performs_bare v (row v.memory.ram v.cpu) looks.active_is taken
    by (waiting goes looks) taken = waits_bare v (next_coming v) taken
