-- After a dispatch there is none to be made; and where there is none, the processor and the moment
-- do not matter.
use Rattle.std.proofs.Common.{◌≡◌, ℕ, Some, None}
use Rattle.iop_exec.specs.declared.cpu.Cpu.{Cpu}
use Rattle.iop_thread.proofs.DispatchSettling.{settles, settled_still}
use Rattle.iop_kernel.specs.Dispatching.{Dispatched, dispatched, dispatches}
use Rattle.iop_kernel.specs.System.{Core}
use Rattle.iop_kernel.proofs.Walk.Steps.{dispatches_goes, none_dispatched, none_of_threads}

-- a dispatch is followed by none
pub dispatch_settles : (c : Core) (d : Dispatched) → dispatches c ≡ Some d
    → dispatches d.core ≡ None
dispatch_settles c =
    dispatches_goes (λ left line. dispatches left ≡ None) c (λ may did made.
    none_dispatched (dispatched c.kernel did).core
    (λ still. settles c.kernel.threads c.cpu did.registers did made))

-- where none is to be made, none is at another moment, whatever the registers are
pub settled_later : (c : Core) (clock : ℕ) (cpu : Cpu) → dispatches c ≡ None
    → dispatches (record { kernel = record c.kernel { clock = clock }; cpu = cpu }) ≡ None
settled_later c clock cpu none =
    none_dispatched _
    (λ may. settled_still c.kernel.threads c.cpu cpu (none_of_threads c none may))
