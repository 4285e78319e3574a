-- What each step keeps of the kernel.
use Rattle.std.proofs.Common.{◌≡◌, ℕ, ◌+◌, ◌-◌, ◌^◌, ◌≤◌, max, true, Option, Some, None, IfSome, refl, ap, sym, ◌∙◌, subst, arith, inl, inr}
use Rattle.iop_base.specs.Numbers.{one_if}
use Rattle.iop_exec.proofs.RowKeeps.{rows_stay_steady}
use Rattle.iop_exec.specs.Laws.{IsSteady, cpu_after}
use Rattle.iop_exec.specs.Row.{Row, Goes, Serves, Faults, behind_syscall, row}
use Rattle.iop_exec.proofs.WritingBack.{pending-after_write_back}
use Rattle.iop_exec.specs.declared.cpu.Cpu.{Cpu}
use Rattle.iop_kernel_laws.proofs.Keeping.Services.{services_keep}
use Rattle.iop_kernel.proofs.Keeping.Steps.{core_steps}
use Rattle.iop_kernel_laws.proofs.Keeping.Outcomes.{returning_opens}
use Rattle.iop_kernel_laws.proofs.Order.First.{deliveries_are_in_order}
use Rattle.iop_kernel.proofs.Order.Strict.{dispatches_are_strict}
use Rattle.iop_kernel.specs.Deliveries.{Delivered}
use Rattle.iop_kernel.specs.DeliveryLaws.{DeliversFirst}
use Rattle.iop_kernel.specs.Laws.{IsCore}
use Rattle.iop_kernel.specs.Serving.{services}
use Rattle.iop_kernel.specs.System.{Kernel, Core, Served, is_active, may_switch}
use Rattle.iop_kernel.specs.declared.after.After.{After}
use Rattle.iop_kernel.specs.declared.after.After.TheVariants.{Resume, Switch, ModuleReturned, Fault}
use Rattle.iop_modload.specs.Finishing.{finishes}
use Rattle.iop_time.specs.Timers.{Timers}
use Rattle.iop_machine.specs.Events.{CanCome}
use Rattle.iop_machine.specs.Iop.{Iop, Transition, with_state, later, core_of}
use Rattle.iop_machine.specs.Loading.{loads_first, with_kernel, starts_by, boots}
use Rattle.iop_machine.specs.Looking.{takes_events, next_coming}
use Rattle.iop_machine.specs.Modules.{modules_of}
use Rattle.iop_machine.specs.Services.{calls, calls_by, serves, calling, leaves, goes_on_by, ends_module, returns_by}
use Rattle.iop_machine.specs.Registers.{forgotten, ends_call}
use Rattle.iop_machine.specs.Stepping.{Turn, takes_turn, is_execution, step, executes, stores_it, performs, waits_by}
use Rattle.iop_machine.specs.World.{World}
use Rattle.iop_saved_machine.specs.declared.begun_module.BegunModule.{BegunModule}
use Rattle.iop_machine.proofs.Coming.{IsComing, coming_later}
use Rattle.iop_machine.proofs.Forgetting.{nobodys_steady, forgets_core}
use Rattle.iop_machine.proofs.LoadingLands.{Lands, loads_first_lands, boots_leave, returns_leave}
use Rattle.iop_machine.proofs.LookingLemmas.{taken_irqs, taken_kernel, taken_clock, taken_active, taken_core}
use Rattle.iop_machine.proofs.Stepping.{IsTurn, stopped, unbooted, delivery, dispatch, execution, waiting, turn_is}

-- what holds of the kernel is kept by what was loaded
landed : (s t : Iop) → Lands s t → IsCore (core_of s) → IsCore (core_of t)
landed s t lands h =
    subst (λ (k : Kernel). IsCore (record { kernel = k; cpu = t.cpu })) (sym lands.kernel)
    ((core_steps h).moves_on s.kernel.clock t.cpu (lands.steady h.steady))

-- another processor, if it is steady
with_cpu : {c : Core} {cpu : Cpu} → IsCore c → IsSteady cpu → IsCore (record c { cpu = cpu })
with_cpu {c} {cpu} h steady = (core_steps h).moves_on c.kernel.clock cpu steady

-- it begins, if it is to
starts_core : (s : Iop) (o : Option BegunModule) → IsCore (core_of s)
    → IsCore (core_of (starts_by s o))
starts_core s None h = h
starts_core s (Some begun) h = (core_steps h).begins s.cpu h.steady

-- a machine is booted
boots_core : (s : Iop) → IsCore (core_of s) → IsCore (core_of (boots s).state)
unfolding boots
boots_core s h =
    let left = (loads_first (modules_of s.modules) (with_kernel s)).state in
    with_cpu (starts_core left left.begun
    (landed (with_kernel s) left (loads_first_lands (modules_of s.modules) (with_kernel s)) h))
    nobodys_steady

-- the loader's thread goes on or ends, where another may run
goes_on_core : (s : Iop) (o : Option BegunModule) → may_switch s.kernel ≡ true → IsCore (core_of s)
    → IsCore (core_of (goes_on_by s o))
goes_on_core s None may h = (core_steps h).ends_running may
goes_on_core s (Some begun) may h = h

-- it returned, by whether a module had begun
returns_core : (s : Iop) (o : Option BegunModule) (value : ℕ) → may_switch s.kernel ≡ true
    → IsCore (core_of s) → IsCore (core_of (returns_by s o value).state)
unfolding ends_module
returns_core s None value may h = goes_on_core s None may h
returns_core s (Some m) value may h =
    let left = (leaves s
    (finishes s.kernel.clock s.memory s.blocks s.libraries m.number m.place value)).state in
    let lands = loads_first_lands (modules_of s.modules) left in
    let now = (loads_first (modules_of s.modules) left).state in
    goes_on_core now now.begun (ap may_switch lands.kernel ∙ may) (landed left now lands h)

-- what holds of the kernel holds at any moment
at_moment : (c : Core) (clock : ℕ) → IsCore c
    → IsCore (record c { kernel = record c.kernel { clock = clock } })
at_moment c clock h = (core_steps h).moves_on clock c.cpu h.steady

-- and with another processor, if that is steady too
pub moves_with : (s : Iop) (cpu : Cpu) → (IsSteady s.cpu → IsSteady cpu) → IsCore (core_of s)
    → IsCore (record (core_of s) { cpu = cpu })
moves_with s cpu moved h = (core_steps h).moves_on s.kernel.clock cpu (moved h.steady)

-- and once the script's events that are due are taken
pub takes_core : (s : Iop) → IsCore (core_of s) → IsCore (core_of (takes_events s))
takes_core s h = subst IsCore (sym (taken_core s)) ((core_steps h).raises (taken_irqs s))

-- each alarm and each delay took an instruction
abbrev pub AreNumbered : Kernel → Type 0
AreNumbered k = k.timers.next ≤ k.clock + 1

-- what a step that takes so many ticks leaves of the kernel: the clock is not put back, and goes on
-- by so many at most, or up to the last moment that comes, where the script's events can come
pub record CoreMoves (comes : Type 0) (ticks : ℕ) (c d : Core) : Type 0 where
  pub core : IsCore d
  pub numbers : AreNumbered c.kernel → AreNumbered d.kernel
  pub rises : c.kernel.clock ≤ d.kernel.clock
  pub latest : comes → max d.kernel.clock (2 ^ 63 - 1) ≤ max c.kernel.clock (2 ^ 63 - 1) + ticks

-- the same of the core of a machine
abbrev pub Moves : Type 0 → ℕ → Iop → Iop → Type 0
Moves comes ticks s t = CoreMoves comes ticks (core_of s) (core_of t)

module _ {comes : Type 0} where
  -- no time is taken and no number
  at_once : (ticks : ℕ) (c d : Core) → IsCore d → d.kernel.clock ≡ c.kernel.clock
      → d.kernel.timers.next ≡ c.kernel.timers.next → CoreMoves comes ticks c d
  at_once ticks c d core clock next = record {
    core = core;
    numbers = λ h. omega (arith, clock, next, h);
    rises = omega (arith, clock);
    latest = λ come. omega (arith, clock);
  }

  -- a transition that takes no time and one number at most, and then one moment
  moves_later : (s : Iop) (t : Transition Iop) → t.state.kernel.clock ≡ s.kernel.clock
      → t.state.kernel.timers.next ≤ s.kernel.timers.next + 1 → IsCore (core_of t.state)
      → Moves comes 1 s (with_state later t).state
  moves_later s t clock numbers core = record {
    core = at_moment (core_of t.state) (t.state.kernel.clock + 1) core;
    numbers = λ h. omega (arith, clock, numbers, h);
    rises = omega (arith, clock);
    latest = λ come. omega (arith, clock);
  }

  -- the same, and then the registers that nobody has are forgotten
  moves_called : (s : Iop) (t : Transition Iop) → t.state.kernel.clock ≡ s.kernel.clock
      → t.state.kernel.timers.next ≤ s.kernel.timers.next + 1 → IsCore (core_of t.state)
      → Moves comes 1 s (with_state ends_call t).state
  moves_called s t clock numbers core =
      moves_later s (with_state forgotten t) clock numbers (forgets_core core)

  -- by what becomes of the caller
  calls_by_move : (s : Iop) (d : Served) → IsCore (core_of s)
      → d.left.state.core.kernel.clock ≡ s.kernel.clock
      → d.left.state.core.kernel.timers.next ≤ s.kernel.timers.next + 1
      → IsCore d.left.state.core → (after : After)
      → ((value : ℕ) → after ≡ ModuleReturned value → may_switch d.left.state.core.kernel ≡ true)
      → Moves comes 1 s (calls_by s d after).state
  calls_by_move s d h clock numbers core Resume opens =
      moves_called s (serves s d) clock numbers core
  calls_by_move s d h clock numbers core Switch opens =
      moves_called s (serves s d) clock numbers core
  calls_by_move s d h clock numbers core (ModuleReturned value) opens =
      let now = (serves s d).state in
      let kernel = (returns_leave now now.begun value).kernel in
      let next = ap (λ (k : Kernel). k.timers.next) kernel in
      moves_called s (returns_by now now.begun value) (ap (λ (k : Kernel). k.clock) kernel ∙ clock)
      (omega (arith, numbers, next)) (returns_core now now.begun value (opens value refl) core)
  calls_by_move s d h clock numbers core (Fault kind) opens =
      at_once 1 (core_of s) (core_of s) h refl refl

  -- an instruction of what executes
  performs_move : (s : Iop) (r : Row) → IsCore (core_of s) → is_active s.kernel ≡ true
      → (IsSteady s.cpu → IsSteady (cpu_after s.cpu r)) → Moves comes 1 s (performs s r).state
  unfolding calls
  performs_move s (Goes after None) h active moved =
      moves_later s (stores_it (record s { cpu = after }) None) refl (omega arith)
      (moves_with s after moved h)
  performs_move s (Goes after (Some storing)) h active moved =
      moves_later s (stores_it (record s { cpu = after }) (Some storing)) refl (omega arith)
      (moves_with s after moved h)
  performs_move s (Serves code) h active moved =
      let kept = services_keep (calling s) code active in
      let d = services (calling s) code in
      calls_by_move s d h kept.clock kept.numbers (kept.core (pending-after_write_back s.cpu)
      (moves_with s (behind_syscall s.cpu) moved h))
      d.left.after (λ value e. returning_opens (calling s) code value e)
  performs_move s (Faults kind) h active moved = at_once 1 (core_of s) (core_of s) h refl refl

  -- what is done behind the script's events that are due is done at this moment
  behind_events : (s : Iop) {ticks : ℕ} {d : Core}
      → CoreMoves comes ticks (core_of (takes_events s)) d → CoreMoves comes ticks (core_of s) d
  behind_events s h = record {
    core = h.core;
    numbers = λ old. h.numbers (subst AreNumbered (sym (taken_kernel s)) old);
    rises = omega (arith, h.rises, taken_clock s);
    latest = λ come. let latest = h.latest come in omega (arith, latest, taken_clock s);
  }

-- the clock goes on to what comes, if something does
waits_move : (s : Iop) (o : Option ℕ) → IfSome o (IsComing s) → IsCore (core_of (takes_events s))
    → Moves (CanCome s.events) 0 (takes_events s) (waits_by (takes_events s) o).state
waits_move s None coming core =
    at_once 0 (core_of (takes_events s)) (core_of (takes_events s)) core refl refl
waits_move s (Some moment) coming core =
    let later = coming.0 in
    record {
      core = at_moment (core_of (takes_events s)) moment core;
      numbers = λ h. omega (arith, later, h);
      rises = omega (arith, later);
      latest = λ come. let comes = coming.1 come in omega (arith, later, comes);
    }

-- a delivery gives no number
delivery_numbers : (c : Core) (d : Delivered) → DeliversFirst c d
    → d.core.kernel.timers.next ≡ c.kernel.timers.next
delivery_numbers c d (inl (line, first)) = ap (λ (timers : Timers). timers.next) first.timers
delivery_numbers c d (inr (inl (alarm, first))) =
    ap (λ (timers : Timers). timers.next) first.taken.1
delivery_numbers c d (inr (inr (delay, first))) = first.taken.1.0

-- what each turn leaves of the kernel
turn_moves : (w : World) {t : Turn} → IsCore (core_of w.iop) → IsTurn w t
    → Moves (CanCome w.iop.events) (one_if (is_execution t)) w.iop (takes_turn w t).state.iop
turn_moves w core (stopped stop over) = at_once 0 (core_of w.iop) (core_of w.iop) core refl refl
turn_moves w core (unbooted over new) =
    let kernel = (boots_leave w.iop).kernel in
    at_once 0 (core_of w.iop) (core_of (boots w.iop).state) (boots_core w.iop core)
    (ap (λ (k : Kernel). k.clock) kernel) (ap (λ (k : Kernel). k.timers.next) kernel)
turn_moves w core (delivery d goes is) =
    let c = core_of (takes_events w.iop) in
    let kept = deliveries_are_in_order.delivered c d (takes_core w.iop core) is in
    behind_events w.iop (at_once 0 c d.core kept.core (ap (λ (k : Kernel). k.clock) kept.kernel)
    (delivery_numbers c d kept.first))
turn_moves w core (dispatch d goes none is) =
    let c = core_of (takes_events w.iop) in
    let kept = dispatches_are_strict.dispatched c d (takes_core w.iop core) is in
    behind_events w.iop (at_once 0 c d.core kept.core kept.clock
    (ap (λ (x : Core). x.kernel.timers.next) kept.switch.left))
turn_moves w core (execution goes looks) =
    let v = takes_events w.iop in
    behind_events w.iop (performs_move v (row v.memory.ram v.cpu) (takes_core w.iop core)
    looks.active_is (rows_stay_steady v.memory.ram v.cpu))
turn_moves w core (waiting goes looks) =
    behind_events w.iop (waits_move w.iop (next_coming (takes_events w.iop))
    (coming_later w.iop core looks.delivery_is (sym (taken_active w.iop) ∙ looks.active_is))
    (takes_core w.iop core))

-- and so each step
pub step_moves : (w : World) → IsCore (core_of w.iop)
    → Moves (CanCome w.iop.events) (one_if (executes w)) w.iop (step w).state.iop
unfolding step executes
step_moves w core = turn_moves w core (turn_is w)
