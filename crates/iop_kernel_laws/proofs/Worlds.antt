-- What the worlds of the tests keep: how many numbers for alarms and delays were taken.
use Rattle.std.proofs.Common.{◌≡◌, ◌+◌, ◌≤◌, ℕ, Bool, true, Option, Some, None, List, refl, sym, ap, ◌∙◌, arith}
use Rattle.iop_base.specs.Output.{Output}
use Rattle.iop_exec.specs.declared.cpu.Cpu.{Cpu}
use Rattle.iop_ready.specs.declared.entry.Entry.{Entry}
use Rattle.iop_registry.specs.declared.registry.Entry.{Entry as Library}
use Rattle.iop_stubs.specs.Stubs.{Memory}
use Rattle.iop_sysmem.specs.BlockMap.{BlockMap}
use Rattle.iop_time.specs.Timers.{Timers}
use Rattle.iop_kernel.specs.Dispatching.{Dispatched, dispatches}
use Rattle.iop_kernel.specs.Serving.{services}
use Rattle.iop_kernel.specs.Standing.{Dispatches, ServesPlaced}
use Rattle.iop_kernel.specs.System.{System, Core, is_active}
use Rattle.iop_kernel.specs.declared.after.After.{After}
use Rattle.iop_kernel.specs.declared.kernel.Kernel.{Kernel as Program}
use Rattle.iop_kernel_laws.proofs.Keeping.Services.{services_keep}
use Rattle.iop_kernel.proofs.Walk.Steps.{dispatches_goes}

-- the number of the next alarm or delay
abbrev next_in : Timers → ℕ
next_in timers = timers.next

module _ {R : Type 0} (stands_for : R → List Entry → Type 0) where
  -- by whether one is made
  next_by : (c : Core) (o : Option Dispatched) → dispatches c ≡ o → (made : Bool) (cpu : Cpu)
      (a b : Output) (p : Program R) → Dispatches stands_for c o made p cpu a b
      → p.timers.next ≡ c.kernel.timers.next
  next_by c None is made cpu a b p left = sym (ap next_in left.1.holds.timers)
  next_by c (Some d) is made cpu a b p left =
      let same = dispatches_goes (λ left line. left.kernel.timers ≡ c.kernel.timers) c
      (λ may did made. refl) d is in
      sym (ap next_in left.1.holds.timers) ∙ ap next_in same

  -- after a dispatch, made or not, the next number is the same
  pub next_dispatched : (c : Core) (made : Bool) (cpu : Cpu) (a b : Output) (p : Program R)
      → Dispatches stands_for c (dispatches c) made p cpu a b
      → p.timers.next ≡ c.kernel.timers.next
  next_dispatched c made cpu a b p left = next_by c (dispatches c) refl made cpu a b p left

  -- after a service it is one more at most
  pub next_served : (s : System) (code : ℕ) (after : After) (cpu : Cpu) (memory : Memory)
      (blocks : BlockMap) (libraries : List Library) (a b : Output) {p : Program R}
      → is_active s.core.kernel ≡ true
      → ServesPlaced stands_for (services s code) after p cpu memory blocks libraries a b
      → p.timers.next ≤ s.core.kernel.timers.next + 1
  next_served s code after cpu memory blocks libraries a b active did =
      omega (
        arith,
        (services_keep s code active).numbers,
        ap next_in did.served.core.kernel.timers,
      )
