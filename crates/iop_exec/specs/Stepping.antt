-- What the execution of one instruction does, by its row.
use Rattle.std.specs.Prelude.{◌≡◌, ℕ, Some, None, List}
use Rattle.iop_base.specs.Places.{store_at}
use Rattle.iop_base.specs.declared.width.Width.{Width}
use Rattle.iop_exec.specs.declared.cpu.Cpu.{Cpu}
use Rattle.iop_exec.specs.declared.cpu.Event.{Event}
use Rattle.iop_exec.specs.declared.cpu.Event.TheVariants.{Plain, Service, Fault}
use Rattle.iop_exec.specs.Row.{Row, Goes, Serves, Faults, behind_syscall}

module _ {B : Type 0} (bytes : B → List ℕ)
    (stores : B → (at : ℕ) → Width → (value : ℕ) → B → Type 0) where
  -- over the bytes that a bus reads; what else a store does is the bus's matter. `calling` is what
  -- a call of a service makes of the processor
  abbrev DoesWith : (calling : Cpu → Cpu) → Row → Event → Cpu → B → Cpu → B → Type 0
  -- it is done; the bus stays as it is, or takes one store
  DoesWith calling (Goes after None) event cpu bus cpu' bus' =
      (event ≡ Plain) × (cpu' ≡ after) × (bus' ≡ bus)
  DoesWith calling (Goes after (Some s)) event cpu bus cpu' bus' =
      (event ≡ Plain) × (cpu' ≡ after) × stores bus s.at s.width s.value bus'
      × (store_at (bytes bus) s.at s.width s.value ≡ Some (bytes bus'))
  DoesWith calling (Serves code) event cpu bus cpu' bus' =
      (event ≡ Service code) × (cpu' ≡ calling cpu) × (bus' ≡ bus)
  -- a fault changes nothing
  DoesWith calling (Faults fault) event cpu bus cpu' bus' =
      (event ≡ Fault fault) × (cpu' ≡ cpu) × (bus' ≡ bus)

  -- where a service is called, the processor has moved on
  abbrev pub Does : Row → Event → Cpu → B → Cpu → B → Type 0
  Does = DoesWith behind_syscall

  -- where a service is called, the processor still stands at the `syscall`
  abbrev pub DoesUpToCall : Row → Event → Cpu → B → Cpu → B → Type 0
  DoesUpToCall = DoesWith (λ c. c)
