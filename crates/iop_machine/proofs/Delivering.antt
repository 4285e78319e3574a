-- A delivery, if one is to be made, and a dispatch, if one is.
use Rattle.std.proofs.Common.{◌≡◌, ℕ, Bool, true, false, Option, Some, None, refl, ap, sym, ◌∙◌, subst}
use Rattle.std.specs.Prelude.{option_map, is_some}
use Rattle.iop_base.specs.Output.{Output}
use Rattle.iop_base.proofs.Giving.{gives_none}
use Rattle.iop_exec.specs.declared.cpu.Cpu.{Cpu}
use Rattle.iop_kernel.proofs.Order.Nothing.{none_of}
use Rattle.iop_kernel.specs.Deliveries.{Delivered, delivers}
use Rattle.iop_kernel.specs.Standing as kernel
use Rattle.iop_kernel.specs.System.{Core}
use Rattle.iop_kernel.specs.declared.kernel.Kernel.{Kernel as Kernels}
use Rattle.iop_kernel.specs.Dispatching.{Dispatched, dispatches}
use Rattle.iop_ready.specs.KernelReady.{KernelReady, KernelStands}
use Rattle.iop_machine.specs.Advancing.{Delivers, Dispatches}
use Rattle.iop_machine.specs.Iop.{Iop, core_of, with_core}
use Rattle.iop_machine.specs.Looking.{takes_events}
use Rattle.iop_machine.specs.Standing.{Stands, StandsBooted}
use Rattle.iop_machine.specs.World.{booted}
use Rattle.iop_machine.specs.declared.iop.Iop.{Iop as Program}
use Rattle.iop_machine.proofs.LookingLemmas.{delivers_later, taken_irqs, dispatches_taken, takes_dispatched}
use Rattle.iop_machine.proofs.Reaching.{one_step}
use Rattle.iop_machine.proofs.StandingLemmas.{stands_with}
use Rattle.iop_machine.proofs.Stepping.{next_delivers, next_dispatches}
use Rattle.iop_machine.proofs.LinesAside.{dispatched_with}

-- as the program looked for it
pub delivers_nothing : (m : Program) (did : Bool) → did ≡ false
    → ((s : Iop) → Stands m s → did ≡ delivers_later s) → (a : Output) (s : Iop) (budget : ℕ)
    → Stands m s → Delivers StandsBooted false (booted s) budget m a a
delivers_nothing m did is would a s budget h =
    ((refl, h), gives_none a, none_of _ (sym (would s h) ∙ is))

-- the program as it was before the events that are due were taken, and behind it
module _ {m taken : Program} {s : Iop} (h : Stands m s) (behind : Stands taken (takes_events s))
    (now : Kernels KernelReady) (cpu : Cpu) (budget : ℕ) (a b : Output) (over : s.over ≡ None)
    (well : a.failed ≡ false) where
  abbrev after : Program
  after = record taken { kernel = now; cpu = cpu }

  -- something is delivered, by what it is
  delivered_by : (o : Option Delivered) (did : Bool)
      → delivers (core_of (takes_events s)) ≡ o → is_some o ≡ true
      → kernel.Delivers KernelStands (core_of (takes_events s)) o did now cpu a b
      → Delivers StandsBooted did (booted s) budget after a b
  delivered_by None did is some h' = absurd (cc some)
  delivered_by (Some d) did is some k =
      subst (λ x. Delivers StandsBooted x (booted s) budget after a b) (sym k.0) (
        one_step m (refl, h) well (next_delivers s budget over d is)
            (record { state = (refl, stands_with behind now cpu d.core k.1 k.2); gives = k.3 }),
        ap is_some is,
      )

  -- as the kernel's call says it
  pub delivers_something : (did : Bool) → delivers_later s ≡ true
      → (let c = kernel.core (takes_events s).kernel taken.cpu in
      kernel.Delivers KernelStands c (delivers c) did now cpu a b)
      → Delivers StandsBooted did (booted s) budget after a b
  delivers_something did some k =
      let is = ap (λ (x : Iop). kernel.core (takes_events s).kernel x.cpu) (sym behind.rest) in
      delivered_by (delivers (core_of (takes_events s))) did refl some
      (subst (λ (c : Core). kernel.Delivers KernelStands c (delivers c) did now cpu a b) is k)

-- a dispatch, where nothing is to be delivered
module _ {m : Program} {s : Iop} (h : Stands m s) (now : Kernels KernelReady) (cpu : Cpu)
    (budget : ℕ) (a b : Output) where
  -- the program behind the dispatch, before the events that are due are taken
  abbrev new : Program
  new = record m { kernel = now; cpu = cpu }

  -- whether there was one, as the kernel's call says it
  abbrev Did : Core → Option Dispatched → Bool → Type 0
  Did c o did = kernel.Dispatches KernelStands c o did now cpu a b

  -- of the state for which the program stands
  did_of : (did : Bool) → (let c = kernel.core s.kernel m.cpu in Did c (dispatches c) did)
      → Did (core_of s) (dispatches (core_of s)) did
  did_of did k =
      let is = ap (λ (x : Iop). kernel.core s.kernel x.cpu) (sym h.rest) in
      subst (λ (c : Core). Did c (dispatches c) did) is k

  -- the processor and the kernel stand for some state
  sound_by : (o : Option Dispatched) (did : Bool) → Did (core_of s) o did
      → (v : Iop) × Stands new v
  sound_by None did k = (_, stands_with h now cpu (core_of s) k.1 k.2)
  sound_by (Some d) did k = (_, stands_with h now cpu d.core k.1 k.2)

  -- so the program stands for one
  pub dispatch_sound : (did : Bool)
      → (let c = kernel.core s.kernel m.cpu in Did c (dispatches c) did)
      → (v : Iop) × Stands new v
  dispatch_sound did k = sound_by (dispatches (core_of s)) did (did_of did k)

  -- none is to be made
  nothing_by : (o : Option Dispatched) (did : Bool) → dispatches (core_of s) ≡ o
      → Did (core_of s) o did → did ≡ false
      → Dispatches StandsBooted false (booted s) budget new a b
  nothing_by None did is k e = (
    (refl, stands_with h now cpu (core_of s) k.1 k.2),
    k.3,
    dispatches_taken s ∙ ap (option_map (dispatched_with (taken_irqs s))) is,
  )
  nothing_by (Some d) did is k e = absurd (cc (e, k.0))

  pub dispatches_nothing : (did : Bool)
      → (let c = kernel.core s.kernel m.cpu in Did c (dispatches c) did) → did ≡ false
      → Dispatches StandsBooted false (booted s) budget new a b
  dispatches_nothing did k =
      nothing_by (dispatches (core_of s)) did refl (did_of did k)

  module _ (over : s.over ≡ None) (well : a.failed ≡ false)
      (none : delivers (core_of (takes_events s)) ≡ None) (taken : Program)
      (takes : (v : Iop) → Stands new v → Stands taken (takes_events v)) where
    -- a thread is dispatched, and then the events that are due are taken
    dispatched_by : (o : Option Dispatched) (did : Bool) → dispatches (core_of s) ≡ o
        → Did (core_of s) o did → did ≡ true
        → Dispatches StandsBooted true (booted s) budget taken a b
    dispatched_by None did is k e = absurd (cc (e, k.0))
    dispatched_by (Some d) did is k e =
        let some = dispatches_taken s
        ∙ ap (option_map (dispatched_with (taken_irqs s))) is in
        let state = subst (Stands taken) (takes_dispatched s d is)
        (takes (with_core s d.core) (stands_with h now cpu d.core k.1 k.2)) in (
          one_step m (refl, h) well
              (next_dispatches s budget over (dispatched_with (taken_irqs s) d) none some)
              (record { state = (refl, state); gives = k.3 }),
          ap is_some some,
        )

    -- as the kernel's call says it
    pub dispatches_something : (did : Bool)
        → (let c = kernel.core s.kernel m.cpu in Did c (dispatches c) did) → did ≡ true
        → Dispatches StandsBooted true (booted s) budget taken a b
    dispatches_something did k =
        dispatched_by (dispatches (core_of s)) did refl (did_of did k)
