-- How what is said of each state that the program's machine stands for is proved of one, and how
-- transitions that calls took follow one another.
use Rattle.std.proofs.Common.{◌≡◌, ℕ, Bool, Option, None, [], ◌∷◌, refl, ap, sym, ◌∙◌, subst}
use Rattle.iop_base.specs.Output.{Output, Gives}
use Rattle.iop_base.specs.Piece.{Traced}
use Rattle.iop_base.specs.Text.{line_bytes}
use Rattle.iop_base.specs.declared.line.Line.{Line}
use Rattle.iop_base.specs.declared.stop.Stop.{Stop}
use Rattle.iop_base.proofs.Giving.{gives_none, gives_then}
use Rattle.iop_exec.specs.declared.cpu.Cpu.{Cpu}
use Rattle.iop_kernel.specs.Standing as kernel
use Rattle.iop_kernel.specs.System.{Kernel, Core}
use Rattle.iop_kernel.specs.declared.kernel.Kernel.{Kernel as Kernels}
use Rattle.iop_ready.specs.KernelReady.{KernelReady, KernelStands}
use Rattle.iop_machine.specs.Iop.{Iop, Takes, tells, with_core, Transition, silent, and_then, with_state}
use Rattle.iop_machine.specs.Standing.{iop_of, Stands, IsSound, IsSoundMachine, StandsForWorld}
use Rattle.iop_machine.specs.World.{World}
use Rattle.iop_machine.specs.declared.iop.Iop.{Iop as Program}
use Rattle.iop_machine.specs.declared.machine.Machine.{Machine}

-- what holds of the state that it is, for each kernel that its kernel stands for, holds of each
-- that it stands for
pub carried : (m : Program) (P : Iop → Type 0)
    → ((k : Kernel) → kernel.Stands KernelStands m.kernel k → P (iop_of m k))
    → (s : Iop) → Stands m s → P s
carried m P g s h = subst P (sym h.rest) (g s.kernel h.kernel)

-- it stands for the state that it is, with a kernel that its kernel stands for
pub stands_for : (m : Program) (k : Kernel) → kernel.Stands KernelStands m.kernel k
    → Stands m (iop_of m k)
stands_for m k h = record { kernel = h; rest = refl }

-- how the program's last run ended says nothing of the world that it stands for
pub noted : {m : Machine} {w : World} (at_budget : Bool) → StandsForWorld m w
    → StandsForWorld (record m { at_budget = at_budget }) w
noted at_budget h = record { is_new = h.is_new; iop = h.iop }

pub noted_sound : (m : Machine) (at_budget : Bool) → IsSoundMachine m
    → IsSoundMachine (record m { at_budget = at_budget })
noted_sound m at_budget sound = (sound.0, noted at_budget sound.1, sound.2)

-- where the program is not stopped it is not
pub goes_on : {m : Program} {s : Iop} → Stands m s → m.over ≡ None → s.over ≡ None
goes_on h over = ap (λ (x : Iop). x.over) h.rest ∙ over

-- this is the moment of its kernel, as `now` answers
abbrev pub IsMoment : Program → ℕ → Type 0
IsMoment m t = (k : Kernel) → kernel.Stands KernelStands m.kernel k → t ≡ k.clock

-- which is the number that it has
pub moment_is : (m : Program) (t : ℕ) → IsMoment m t → IsSound m → t ≡ m.kernel.clock
moment_is m t moment sound =
    moment sound.0.kernel sound.1.kernel ∙ sound.1.kernel.holds.clock

-- it is stopped
pub stands_stopped : (m : Program) (over : Option Stop) (s : Iop) → Stands m s
    → Stands (record m { over = over }) (record s { over = over })
stands_stopped m over =
    carried m (λ s. Stands (record m { over = over }) (record s { over = over }))
    (λ k h. record { kernel = h; rest = refl })

-- its processor and its kernel change
pub stands_with_core : (m : Program) (cpu : Cpu) (new : Kernels KernelReady) (f : Kernel → Kernel)
    → ((k : Kernel) → kernel.Stands KernelStands m.kernel k → kernel.Stands KernelStands new (f k))
    → (s : Iop) → Stands m s
    → Stands (record m { cpu = cpu; kernel = new }) (record s { cpu = cpu; kernel = f s.kernel })
stands_with_core m cpu new f g = carried m
    (λ s. Stands (record m { cpu = cpu; kernel = new })
    (record s { cpu = cpu; kernel = f s.kernel }))
    (λ k h. record { kernel = g k h; rest = refl })

-- its kernel changes
pub stands_with_kernel : (m : Program) (new : Kernels KernelReady) (f : Kernel → Kernel)
    → ((k : Kernel) → kernel.Stands KernelStands m.kernel k → kernel.Stands KernelStands new (f k))
    → (s : Iop) → Stands m s
    → Stands (record m { kernel = new }) (record s { kernel = f s.kernel })
stands_with_kernel m new f g =
    carried m (λ s. Stands (record m { kernel = new }) (record s { kernel = f s.kernel }))
    (λ k h. record { kernel = g k h; rest = refl })

-- they become those of a core
pub stands_with : {m : Program} {s : Iop} → Stands m s → (now : Kernels KernelReady) (cpu : Cpu)
    (c : Core) → kernel.Stands KernelStands now c.kernel → cpu ≡ c.cpu
    → Stands (record m { kernel = now; cpu = cpu }) (with_core s c)
stands_with {m} {s} h now cpu c k e = record {
  kernel = k;
  rest = ap (λ x. record s { kernel = c.kernel; cpu = x }) (sym e)
      ∙ ap (λ (x : Iop). record x { kernel = c.kernel; cpu = cpu }) h.rest;
}

-- a line of this moment was given
pub tells_takes : (m : Program) (t : ℕ) → IsMoment m t → {a b : Output} (line : Line)
    → Gives a b (Traced (line_bytes t line) ∷ []) → (s : Iop) → Stands m s
    → Takes Stands (tells s line) m a b
tells_takes m t moment {a} {b} line g s h = record {
  state = h;
  gives = subst (λ u. Gives a b (Traced (line_bytes u line) ∷ [])) (moment s.kernel h.kernel) g;
}

-- how transitions that calls took follow one another
module _ {P S : Type 0} {stands_for : P → S → Type 0} {t : Transition S} {now : P} {a b : Output}
    (h : Takes stands_for t now a b) where
  -- the second transition begins in the state that the first one left
  pub takes_then : {c : Output} {later : P} (f : S → Transition S)
      → Takes stands_for (f t.state) later b c → Takes stands_for (and_then t f) later a c
  takes_then f g = record { state = g.state; gives = gives_then h.gives g.gives }

  -- a state is made of the one that was left
  pub takes_with : {Q T : Type 0} (stands : Q → T → Type 0) (f : S → T) (later : Q)
      → (stands_for now t.state → stands later (f t.state))
      → Takes stands (with_state f t) later a b
  takes_with stands f later g = record { state = g h.state; gives = h.gives }

  -- the same transition, by another name
  pub takes_as : {u : Transition S} → t ≡ u → Takes stands_for u now a b
  takes_as e = subst (λ x. Takes stands_for x now a b) e h

-- what gives nothing takes no piece of what follows
pub silent_then : {P S : Type 0} {stands_for : P → S → Type 0} {t : Transition S} {now : P}
    {a b c : Output} → Gives a b [] → Takes stands_for t now b c → Takes stands_for t now a c
silent_then g h = record { state = h.state; gives = gives_then g h.gives }

-- nothing is given
pub silent_takes : {P S : Type 0} {stands_for : P → S → Type 0} {now : P} {s : S} (a : Output)
    → stands_for now s → Takes stands_for (silent s) now a a
silent_takes a h = record { state = h; gives = gives_none a }
