-- Registers that nobody has are forgotten.
use Rattle.std.proofs.Common.{◌≡◌, ℕ, Bool, true, false, ◌||◌, Option, Some, None, IfSome, refl, ap, sym, ◌∙◌, subst}
use Rattle.std.specs.Prelude.{is_some, option_map}
use Rattle.iop_exec.specs.Laws.{IsSteady}
use Rattle.iop_exec.specs.declared.cpu.Cpu.{Cpu}
use Rattle.iop_kernel.specs.Laws.{IsCore}
use Rattle.iop_kernel.specs.Standing as kernel
use Rattle.iop_kernel.specs.Standing.{IsCause}
use Rattle.iop_kernel.specs.System.{Kernel, Core, in_handler, is_active}
use Rattle.iop_kernel.specs.declared.active_handler.ActiveHandler.{ActiveHandler}
use Rattle.iop_kernel.specs.declared.kernel.Kernel.{Kernel as Kernels}
use Rattle.iop_kernel.proofs.Keeping.Core.{holds_whole}
use Rattle.iop_kernel.proofs.Overdue.Kernels.{beside_in_time}
use Rattle.iop_kernel.proofs.Placing.Basics.{beside_placed}
use Rattle.iop_ready.specs.KernelReady.{KernelReady, KernelStands}
use Rattle.iop_thread.proofs.KeptSteadily.{begun_steady}
use Rattle.iop_machine.specs.Iop.{Iop, core_of, with_core}
use Rattle.iop_kernel.specs.Registers.{nobodys, IsBare}
use Rattle.iop_machine.specs.Registers.{if_had, keeps_for, forgets, forgotten, RegistersAreForgotten}
use Rattle.iop_machine.specs.Standing.{Stands}
use Rattle.iop_machine.specs.declared.iop.Iop.{Iop as Program}
use Rattle.iop_machine.proofs.LoadingLemmas.{stands_unhad}

-- ---- what is forgotten

-- where a thread runs, nothing of what a handler keeps
kept_for_one : (id : ℕ) (o : Option ActiveHandler) → option_map (keeps_for (Some id)) o ≡ o
kept_for_one id None = refl
kept_for_one id (Some handler) = refl

-- nor of the processor
had_by_one : (active : Bool) (cpu : Cpu) → if_had (active || true) cpu ≡ cpu
had_by_one true cpu = refl
had_by_one false cpu = refl

forgets_beside : (c : Core) (id : ℕ) → c.kernel.threads.running ≡ Some id → forgets c ≡ c
forgets_beside c id runs =
    ap (λ o. record (forgets c) { kernel = record c.kernel { handler = o } })
    (ap (λ r. option_map (keeps_for r) c.kernel.handler) runs ∙ kept_for_one id c.kernel.handler)
    ∙ ap (λ x. record c { cpu = x })
    (ap (λ (r : Option ℕ). if_had (in_handler c.kernel || is_some r) c.cpu) runs
    ∙ had_by_one (in_handler c.kernel) c.cpu)

pub forgets_none : (s : Iop) (id : ℕ) → s.kernel.threads.running ≡ Some id → forgotten s ≡ s
forgets_none s id runs = ap (with_core s) (forgets_beside (core_of s) id runs)

-- where a handler is active, nothing of the processor
had_by_handler : (active runs : Bool) (cpu : Cpu) → active ≡ true
    → if_had (active || runs) cpu ≡ cpu
had_by_handler true runs cpu is = refl
had_by_handler false runs cpu is = absurd (cc is)

-- what a handler was begun for stays
cause_stays : (running : Option ℕ) (o : Option ActiveHandler)
    → option_map (λ handler. handler.cause) (option_map (keeps_for running) o)
    ≡ option_map (λ handler. handler.cause) o
cause_stays running None = refl
cause_stays None (Some handler) = refl
cause_stays (Some id) (Some handler) = refl

-- where a handler alone is active, what it keeps
pub forgets_kept : (s : Iop) (handler : ActiveHandler) → s.kernel.threads.running ≡ None
    → s.kernel.handler ≡ Some handler
    → forgotten s ≡ record s {
      kernel = record s.kernel { handler = Some (record handler { kept = nobodys }) };
    }
forgets_kept s handler none active =
    ap (λ o. record (forgotten s) { kernel = record s.kernel { handler = o } })
    (ap (λ r. option_map (keeps_for r) s.kernel.handler) none
    ∙ ap (option_map (keeps_for None)) active)
    ∙ ap (λ x. record s {
      kernel = record s.kernel { handler = Some (record handler { kept = nobodys }) };
      cpu = x;
    })
    (ap (λ (o : Option ActiveHandler). if_had (is_some o || is_some s.kernel.threads.running) s.cpu)
    active)

-- where nothing executes, the processor
pub forgets_all : (s : Iop) → s.kernel.threads.running ≡ None → s.kernel.handler ≡ None
    → forgotten s ≡ record s { cpu = nobodys }
forgets_all s none idle =
    ap (λ o. record (forgotten s) { kernel = record s.kernel { handler = o } })
    (ap (option_map (keeps_for s.kernel.threads.running)) idle ∙ sym idle)
    ∙ ap (λ x. record s { cpu = x })
    (ap (λ (o : Option ActiveHandler). if_had (is_some o || is_some s.kernel.threads.running) s.cpu)
    idle ∙ ap (λ (r : Option ℕ). if_had (is_some r) s.cpu) none)

-- ---- what holds of the kernel holds behind it

pub nobodys_steady : IsSteady nobodys
nobodys_steady = begun_steady _ _ refl refl

had_steady : (had : Bool) (cpu : Cpu) → IsSteady cpu → IsSteady (if_had had cpu)
had_steady true cpu h = h
had_steady false cpu h = nobodys_steady

kept_steady : (running : Option ℕ) (o : Option ActiveHandler)
    → IfSome o (λ handler. IsSteady handler.kept)
    → IfSome (option_map (keeps_for running) o) (λ handler. IsSteady handler.kept)
kept_steady running None h = h
kept_steady None (Some handler) h = nobodys_steady
kept_steady (Some id) (Some handler) h = h

none_kept : (running : Option ℕ) (o : Option ActiveHandler)
    → option_map (keeps_for running) o ≡ None → o ≡ None
none_kept running None e = refl
none_kept running (Some handler) e = absurd (cc e)

pub forgets_core : {c : Core} → IsCore c → IsCore (forgets c)
forgets_core {c} h =
    let running = c.kernel.threads.running in
    holds_whole (beside_placed _ _ _ _ _ h.placed) (beside_in_time c.kernel h.overdue _ _ _ _ _ _)
    (record {
      awake = λ none. let awake = h.awake none in (
        awake.dispatching,
        λ outside. awake.interrupts (none_kept running c.kernel.handler outside),
      );
      steady = had_steady (is_active c.kernel) c.cpu h.steady;
      threads = h.threads;
      handler = kept_steady running c.kernel.handler h.handler;
    })

-- nobody has others
bare_processor : (running : Option ℕ) (o : Option ActiveHandler) (cpu : Cpu)
    → (is_some (option_map (keeps_for running) o) || is_some running) ≡ false
    → if_had (is_some o || is_some running) cpu ≡ nobodys
bare_processor None None cpu idle = refl
bare_processor (Some id) None cpu idle = absurd (cc idle)
bare_processor running (Some handler) cpu idle = absurd (cc idle)

bare_kept : (running : Option ℕ) (o : Option ActiveHandler)
    → IfSome (option_map (keeps_for running) o)
    (λ handler. running ≡ None → handler.kept ≡ nobodys)
bare_kept running None = tt
bare_kept None (Some handler) = λ none. refl
bare_kept (Some id) (Some handler) = λ none. absurd (cc none)

pub forgets_bare : (c : Core) → IsBare (forgets c)
forgets_bare c =
    let running = c.kernel.threads.running in
    record {
      processor = bare_processor running c.kernel.handler c.cpu;
      kept = bare_kept running c.kernel.handler;
    }

pub nobodys_forgotten : RegistersAreForgotten
nobodys_forgotten = record {
  bare = forgets_bare;
  thread = forgets_beside;
  handler = λ c active.
      had_by_handler (in_handler c.kernel) (is_some c.kernel.threads.running) c.cpu active;
  cause = λ c. cause_stays c.kernel.threads.running c.kernel.handler;
  kernel = λ c. refl;
}

-- ---- the program's kernel forgets what its handler keeps

pub stands_unkept : (m : Kernels KernelReady) (k : Kernel) (handler : ActiveHandler)
    → kernel.Stands KernelStands m k → m.handler ≡ Some handler
    → let bare = Some (record handler { kept = nobodys }) in
    kernel.Stands KernelStands (record m { handler = bare }) (record k { handler = bare })
stands_unkept m k handler h active = record {
  holds = record {
    clock = h.holds.clock;
    interrupts = h.holds.interrupts;
    dispatching = h.holds.dispatching;
    handler = refl;
    cause = subst (λ (o : Option ActiveHandler). IfSome o (λ x. IsCause x.cause))
        (h.holds.handler ∙ active) h.holds.cause;
    threads = h.holds.threads;
    semaphores = h.holds.semaphores;
    event_flags = h.holds.event_flags;
    mailboxes = h.holds.mailboxes;
    variable_pools = h.holds.variable_pools;
    fixed_pools = h.holds.fixed_pools;
    timers = h.holds.timers;
    irqs = h.holds.irqs;
  };
  placed = beside_placed _ _ _ _ _ h.placed;
}

module _ (m : Program) (s : Iop) (h : Stands m s) (none : s.kernel.threads.running ≡ None) where
  -- where a handler is active, it has forgotten what it kept
  pub stands_without_kept : (handler : ActiveHandler) (kept : Cpu) → kept ≡ nobodys
      → m.kernel.handler ≡ Some handler
      → Stands
      (record m { kernel = record m.kernel { handler = Some (record handler { kept = kept }) } })
      (forgotten s)
  stands_without_kept handler kept zero active =
      let bare = Some (record handler { kept = nobodys }) in
      subst (λ x. Stands
      (record m { kernel = record m.kernel { handler = Some (record handler { kept = x }) } })
      (forgotten s)) (sym zero)
      (subst (Stands (record m { kernel = record m.kernel { handler = bare } }))
      (sym (forgets_kept s handler none (h.kernel.holds.handler ∙ active)))
      (record {
        kernel = stands_unkept m.kernel s.kernel handler h.kernel active;
        rest = ap (λ (x : Iop). record x { kernel = record s.kernel { handler = bare } }) h.rest;
      }))

  -- where nothing executes, the processor has
  pub stands_without_registers : (cpu : Cpu) → cpu ≡ nobodys → m.kernel.handler ≡ None
      → Stands (record m { cpu = cpu }) (forgotten s)
  stands_without_registers cpu zero idle =
      subst (Stands (record m { cpu = cpu }))
      (sym (forgets_all s none (h.kernel.holds.handler ∙ idle))) (stands_unhad m cpu zero s h)
