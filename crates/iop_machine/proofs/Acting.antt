-- What is done where nothing is to be delivered or dispatched: the clock goes on, the run stops, or
-- instructions are executed.
use Rattle.std.proofs.Common.{◌≡◌, ℕ, suc, ◌+◌, ◌-◌, ◌*◌, ◌<◌, ◌≤◌, Bool, true, false, Option, Some, None, [], length, refl, ap, sym, ◌∙◌, arith, subst}
use Rattle.std.specs.Prelude.{IfSome}
use Rattle.iop_base.specs.Output.{Output, Gives}
use Rattle.iop_base.specs.declared.stop.Stop.TheVariants.{Budget}
use Rattle.iop_base.proofs.Giving.{gives_none}
use Rattle.iop_kernel.specs.Standing.{HasNumber}
use Rattle.iop_kernel.specs.System.{Kernel, is_active}
use Rattle.iop_time.specs.Timers.{Timers}
use Rattle.iop_machine.specs.Advancing.{Advances, Stops, IsSettled, IsLess, calls_by}
use Rattle.iop_machine.specs.Events.{CanCome}
use Rattle.iop_machine.specs.Iop.{Iop, with_state}
use Rattle.iop_machine.specs.Laws.{IsMachine}
use Rattle.iop_machine.specs.Looking.{takes_events, next_coming}
use Rattle.iop_machine.specs.Running.{Runs, HasTime}
use Rattle.iop_machine.specs.Standing.{Stands, StandsBooted}
use Rattle.iop_machine.specs.Stepping.{steps, stop_at, waits_by, most_between}
use Rattle.iop_machine.specs.World.{World, booted}
use Rattle.iop_machine.specs.declared.iop.Iop.{Iop as Program}
use Rattle.iop_machine.specs.declared.progress.Progress.TheVariants.{Advanced}
use Rattle.iop_machine.proofs.Advancing.{then_advances}
use Rattle.iop_machine.proofs.Alike.{advances_alike, advances_more, taken_alike}
use Rattle.iop_machine.proofs.CallsLeft.{calls_left, few_turns, few_left, is_less}
use Rattle.iop_machine.proofs.Coming.{IsComing, coming_later}
use Rattle.iop_machine.proofs.KeepingMachine.{steps_keep_machine, steps_clock}
use Rattle.iop_machine.proofs.LookingLemmas.{taken_kernel, taken_clock, taken_active, taken_later}
use Rattle.iop_machine.proofs.Reaching.{advanced}
use Rattle.iop_machine.proofs.Settling.{same_calls}
use Rattle.iop_machine.proofs.Stepping.{Looks, IsNext, next_waits, stop_budget}

-- what lets the clock go on gives nothing
waits_pieces : (v : Iop) (o : Option ℕ) → (waits_by v o).pieces ≡ []
waits_pieces v None = refl
waits_pieces v (Some moment) = refl

module _ {w : World} {budget k : ℕ} {m : Program} {a b : Output}
    (settled : IsSettled StandsBooted w budget k m a b) where
  -- the state that was reached
  abbrev pub now : Iop
  now = (steps k w).state.iop

  -- the program stands for it
  pub stands_now : Stands m now
  stands_now = settled.reached.state.1

  -- nothing is to be delivered or dispatched in it
  looks_so : (active : Bool) → is_active now.kernel ≡ active → Looks now None None active
  looks_so active is = record {
    delivery_is = settled.delivery;
    dispatch_is = settled.dispatch;
    active_is = taken_active now ∙ is;
  }

  -- it is a machine
  pub machine_now : IsMachine w → IsMachine (booted now)
  machine_now machine = subst IsMachine settled.reached.state.0 (steps_keep_machine w k machine)

  -- as many calls are left
  calls_now : calls_left now.kernel ≡ calls_left w.iop.kernel
  calls_now = same_calls now.kernel w.iop.kernel settled.kernel

  -- where nothing executes the clock goes on, or all is quiet
  module _ (idle : is_active now.kernel ≡ false) {new : Program}
      (waits : Stands new
      (waits_by (takes_events now) (next_coming (takes_events now))).state) where
    -- that is one step
    pub settled_waits : Advances StandsBooted w budget k budget new a b
    settled_waits =
        let next = next_waits now budget settled.over (looks_so false idle) in
        advanced settled.reached budget (omega arith)
        (subst (λ (v : World). IsNext false budget v
        (with_state booted (waits_by (takes_events now) (next_coming (takes_events now)))))
        (sym settled.reached.state.0) next)
        (record {
          state = (refl, waits);
          gives = subst (Gives b b) (sym (waits_pieces (takes_events now) _)) (gives_none b);
        })

    -- by what comes next
    waits_less : (o : Option ℕ) → IfSome o (IsComing now) → CanCome now.events
        → Stands new (waits_by (takes_events now) o).state → {first : Program} → Stands first w.iop
        → (failed : Bool) → IsLess (Advanced budget) failed new.over false new.kernel
        (most_between * budget + calls_by None false first.kernel)
    waits_less None coming come left first =
        let same = calls_now in
        let taken = ap calls_left (taken_kernel now) in
        is_less first left budget budget None false (omega (arith, same, taken))
    waits_less (Some moment) coming come left first =
        let same = calls_now in
        let taken = ap calls_left (taken_kernel now) in
        let turns = few_turns now.over in
        let later = coming.0 in
        let comes = coming.1 come in
        is_less first left budget budget None false
        (omega (arith, same, taken, turns, later, comes))

    -- which leaves fewer calls
    pub settled_waits_less : IsMachine w → {first : Program} → Stands first w.iop
        → (failed : Bool) → IsLess (Advanced budget) failed new.over false new.kernel
        (most_between * budget + calls_by None false first.kernel)
    settled_waits_less machine =
        waits_less (next_coming (takes_events now))
        (coming_later now (machine_now machine).sound.core settled.delivery idle)
        (machine_now machine).events waits

  -- or the run stops, where no instruction is left
  pub settled_stops : is_active now.kernel ≡ true → budget ≡ 0
      → Stops StandsBooted w budget k Budget m a b
  settled_stops active none = record {
    left = budget;
    reached = settled.reached;
    stops = subst (λ (v : World). stop_at v budget ≡ Some Budget) (sym settled.reached.state.0)
        (stop_budget now budget settled.over (looks_so true active) none);
  }

  -- an instruction is executed next, behind the events that are due
  pub settled_runs : is_active now.kernel ≡ true → Runs (takes_events now)
  settled_runs active = record {
    over = settled.over;
    events = taken_later now;
    delivery = settled.delivery;
    dispatch = settled.dispatch;
    active = taken_active now ∙ active;
  }

  -- a burst follows
  pub settled_bursts : {most j rest : ℕ} {new : Program} {c : Output} → most ≤ budget
      → Advances StandsBooted (booted (takes_events now)) most j rest new b c
      → Advances StandsBooted w budget (k + j) (budget - most + rest) new a c
  settled_bursts {most} {j} {rest} {new} {c} le h =
      then_advances settled.reached
      (subst (λ (v : World). Advances StandsBooted v budget j (budget - most + rest) new b c)
      (sym settled.reached.state.0)
      (advances_alike (booted now) (booted (takes_events now)) (taken_alike now settled.over)
      (advances_more budget le h)))

  -- behind the events that are due
  module _ {taken : Program} (behind : Stands taken (takes_events now)) where
    -- it is the same moment
    pub clock_behind : {first : Program} → Stands first w.iop
        → taken.kernel.clock ≡ first.kernel.clock
    clock_behind first =
        sym behind.kernel.holds.clock ∙ taken_clock now
        ∙ ap (λ (x : Kernel). x.clock) settled.kernel ∙ first.kernel.holds.clock

    module _ (machine : IsMachine w) where
      -- the blocks are those of the memory
      pub size_behind : taken.blocks.size ≡ length taken.guest.ram
      size_behind =
          sym (ap (λ (x : Iop). x.blocks.size) behind.rest)
          ∙ (machine_now machine).sound.whole.same_size
          ∙ ap (λ (x : Iop). length x.memory.ram) behind.rest

      -- and a number is left for an alarm or a delay
      pub number_behind : {first : Program} → Stands first w.iop → 0 < budget
          → HasTime first.kernel.clock budget → HasNumber taken.kernel
      number_behind first some time =
          let next = ap (λ (t : Timers). t.next) behind.kernel.holds.timers in
          let timers = ap (λ (x : Kernel). x.timers.next) (taken_kernel now) in
          let clock = ap (λ (x : Kernel). x.clock) settled.kernel in
          let moment = first.kernel.holds.clock in
          let numbers = (machine_now machine).numbers in
          omega (arith, some, time, next, timers, clock, moment, numbers)

-- where fewer instructions are left, less is left in all
pub executing_less : {w : World} {budget k left : ℕ} {new first : Program} {a c : Output}
    → IsMachine w → Stands first w.iop → Advances StandsBooted w budget k left new a c
    → left < budget → (failed : Bool) → IsLess (Advanced left) failed new.over false new.kernel
    (most_between * budget + calls_by None false first.kernel)
executing_less {w} {budget} {k} {left} machine stands h fewer =
    let rises = (steps_clock w (suc k) machine).rises in
    let few = few_left h.state.1 in
    let turns = few_turns (steps (suc k) w).state.iop.over in
    is_less stands h.state.1 left budget None false (omega (arith, rises, few, turns, fewer))
