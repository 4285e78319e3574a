-- How a run goes on by a call of the machine.
use Rattle.std.proofs.Common.{◌≡◌, ℕ, ◌+◌, ◌*◌, suc, ◌<◌, Bool, true, false, Option, None, ap, sym, ◌∙◌, arith, subst}
use Rattle.iop_base.specs.Output.{Output}
use Rattle.iop_base.specs.declared.stop.Stop.{Stop}
use Rattle.iop_kernel.specs.declared.kernel.Kernel.{Kernel as Kernels}
use Rattle.iop_ready.specs.KernelReady.{KernelReady}
use Rattle.iop_machine.specs.Advancing.{Reached, Advances, Progresses, IsLess, calls_by}
use Rattle.iop_machine.specs.Iop.{Iop}
use Rattle.iop_machine.specs.Laws.{IsMachine}
use Rattle.iop_machine.specs.Standing.{Stands, StandsBooted, StandsForWorld, IsSoundMachine}
use Rattle.iop_machine.specs.Stepping.{steps, most_between}
use Rattle.iop_machine.specs.Loading.{boots}
use Rattle.iop_machine.specs.Running.{HasTime}
use Rattle.iop_machine.specs.World.{World, booted}
use Rattle.iop_machine.specs.declared.iop.Iop.{Iop as Program}
use Rattle.iop_machine.specs.declared.machine.Machine.{Machine}
use Rattle.iop_machine.specs.declared.progress.Progress.{Progress}
use Rattle.iop_machine.specs.declared.progress.Progress.TheVariants.{Stopped, Advanced}
use Rattle.iop_machine.proofs.Advancing.{progresses_as, then_advances, then_stops}
use Rattle.iop_machine.proofs.CallsLeft.{calls_left, few_turns, is_less}
use Rattle.iop_machine.proofs.KeepingMachine.{steps_keep_machine, steps_clock}
use Rattle.iop_machine.proofs.LoadingLands.{boots_leave}
use Rattle.iop_machine.proofs.StandingLemmas.{noted}

-- what the booted machine does of a run, the whole machine does
pub progresses_booted : (m : Machine) (new : Program) (p : Progress) (budget : ℕ) (a b : Output)
    → m.is_new ≡ false → (w : World) → StandsForWorld m w
    → Progresses StandsBooted p (booted w.iop) budget new a b
    → Progresses StandsForWorld p w budget (record m { iop = new }) a b
progresses_booted m new p budget a b old w h progresses =
    let is : w ≡ booted w.iop = ap (λ x. record { is_new = x; iop = w.iop }) (h.is_new ∙ old) in
    progresses_as StandsBooted StandsForWorld new (record m { iop = new })
    (λ v k. record { is_new = ap (λ (x : World). x.is_new) k.0 ∙ sym old; iop = k.1 })
    w budget a b p
    (subst (λ (x : World). Progresses StandsBooted p x budget new a b) (sym is) progresses)

module _ {w : World} {most i budget : ℕ} {now : Machine} {a b : Output}
    (r : Reached StandsForWorld w most i budget now a b) (machine : IsMachine w) where
  -- the machine that was reached stands for one that can be
  pub reached_machine : IsMachine (steps i w).state
  reached_machine = steps_keep_machine w i machine

  -- what follows what was reached is part of the whole run
  pub then_progresses : (p : Progress) (new : Machine) (c : Output)
      → ((v : World) → StandsForWorld now v → IsMachine v
      → Progresses StandsForWorld p v budget new b c)
      → Progresses StandsForWorld p w most new a c
  then_progresses (Stopped stop) new c f =
      let h = f (steps i w).state r.state reached_machine in (i + h.0, then_stops r h.1)
  then_progresses (Advanced left) new c f =
      let h = f (steps i w).state r.state reached_machine in (i + h.0, then_advances r h.1)

-- what is noted of how a run ended says nothing of the run
pub noted_progresses : (p : Progress) (w : World) (budget : ℕ) (new : Machine) (at_budget : Bool)
    (a b : Output) → Progresses StandsForWorld p w budget new a b
    → Progresses StandsForWorld p w budget (record new { at_budget = at_budget }) a b
noted_progresses p w budget new at_budget a b =
    progresses_as StandsForWorld StandsForWorld new (record new { at_budget = at_budget })
    (λ v k. noted at_budget k) w budget a b p

-- what a run leaves stands for a machine that can be
pub progressed_sound : (p : Progress) (w : World) (most : ℕ) (new : Machine) (a c : Output)
    → IsMachine w → Progresses StandsForWorld p w most new a c → IsSoundMachine new
progressed_sound (Stopped stop) w most new a c machine h =
    (_, h.1.reached.state, steps_keep_machine w h.0 machine)
progressed_sound (Advanced left) w most new a c machine h =
    (_, h.1.state, steps_keep_machine w (suc h.0) machine)

-- there is time for what is left of the budget
pub advances_time : {w : World} {most k left : ℕ} {m new : Machine} {a c : Output} → IsMachine w
    → StandsForWorld m w → Advances StandsForWorld w most k left new a c
    → HasTime m.iop.kernel.clock most → HasTime new.iop.kernel.clock left
advances_time {w} {most} {k} machine old h time =
    let ticks = (steps_clock w (suc k) machine).latest in
    let before = old.iop.kernel.holds.clock in
    omega (arith, time, ticks, h.left_is, before, h.state.iop.kernel.holds.clock)

-- a machine that was booted has fewer turns left
pub boots_less : {m new : Program} {s : Iop} (budget : ℕ) → Stands m s
    → Stands new (boots s).state → (failed : Bool)
    → IsLess (Advanced budget) failed new.over false new.kernel
    (most_between * budget + calls_by None true m.kernel)
boots_less {s = s} budget h g =
    let same = ap calls_left (boots_leave s).kernel in
    let turns = few_turns (boots s).state.over in
    is_less h g budget budget None true (omega (arith, same, turns))

-- where no write failed less is left
pub less_of : (left : ℕ) (over : Option Stop) (is_new : Bool) (k : Kernels KernelReady) {most : ℕ}
    (failed : Bool) → failed ≡ false → IsLess (Advanced left) failed over is_new k most
    → most_between * left + calls_by over is_new k < most
less_of left over is_new k true is less = absurd (cc is)
less_of left over is_new k false is less = less
