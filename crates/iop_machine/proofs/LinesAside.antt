-- Other interrupt lines change nothing of what is to be dispatched.
use Rattle.std.proofs.Common.{◌≡◌, Bool, true, false, if◌then◌else◌, Option, Some, None, List, refl}
use Rattle.std.specs.Prelude.{option_map}
use Rattle.iop_intr.specs.declared.irq_line.IrqLine.{IrqLine}
use Rattle.iop_kernel.proofs.Walk.Steps.{dispatches_goes}
use Rattle.iop_kernel.specs.Dispatching.{Dispatched, dispatched, dispatches}
use Rattle.iop_kernel.specs.System.{Kernel, Core, may_dispatch, with_irqs}
use Rattle.iop_thread.specs.Operations as threads

-- a dispatch with these lines
abbrev pub dispatched_with : List IrqLine → Dispatched → Dispatched
dispatched_with irqs d = record d { core = with_irqs d.core irqs }

-- by whether another thread may run, and what the threads dispatch
dispatched_by : (k : Kernel) (irqs : List IrqLine) (b : Bool) (o : Option threads.Dispatch)
    → (if b then option_map (dispatched (record k { irqs = irqs })) o else None)
    ≡ option_map (dispatched_with irqs) (if b then option_map (dispatched k) o else None)
dispatched_by k irqs true (Some did) = refl
dispatched_by k irqs true None = refl
dispatched_by k irqs false o = refl

-- the interrupt lines change nothing of what is dispatched
pub dispatches_with : (c : Core) (irqs : List IrqLine)
    → dispatches (with_irqs c irqs) ≡ option_map (dispatched_with irqs) (dispatches c)
unfolding dispatches
dispatches_with c irqs =
    dispatched_by c.kernel irqs (may_dispatch c.kernel)
    (threads.dispatches c.kernel.threads c.cpu)

-- a dispatch changes the threads of the kernel alone
pub dispatch_kernel : (c : Core) (d : Dispatched) → dispatches c ≡ Some d
    → d.core.kernel ≡ record c.kernel { threads = d.core.kernel.threads }
dispatch_kernel c =
    dispatches_goes (λ left line. left.kernel ≡ record c.kernel { threads = left.kernel.threads }) c
    (λ may did is. refl)
