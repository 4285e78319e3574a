-- None but a step that dispatches lets a thread run that did not, or tells that one was taken.
use Rattle.std.proofs.Common.{◌≡◌, ℕ, zero, suc, true, Option, Some, None, List, [], ◌∷◌, ◌++◌, length, refl, ap, sym, ◌∙◌, subst, arith, inl, inr}
use Rattle.std.specs.Prelude.{◌⊎◌, All}
use Rattle.std.proofs.Math.Nat.{eq-or-lt_of_le}
use Rattle.std.proofs.lemmas.List.Elements.{All-nil, All-append}
use Rattle.std.proofs.lemmas.Option.{same_Some}
use Rattle.iop_base.specs.Numbers.{width_bytes, bytes_of}
use Rattle.iop_base.specs.Piece.{Piece, Traced}
use Rattle.iop_base.specs.Places.{IsRamSize}
use Rattle.iop_base.specs.Text.{line_bytes}
use Rattle.iop_base.specs.declared.line.Line.TheVariants as lines
use Rattle.iop_exec.specs.Row.{Row, Goes, Serves, Faults, row}
use Rattle.iop_kernel_laws.proofs.Keeping.Services.{services_keep}
use Rattle.iop_kernel.proofs.Order.Strict.{dispatches_are_strict}
use Rattle.iop_kernel_laws.proofs.Switching.{dispatches_alone_switch, stores_run_none, same_runs, none_runs}
use Rattle.iop_kernel.specs.Dispatching.{Dispatched}
use Rattle.iop_kernel.specs.Laws.{IsCore}
use Rattle.iop_kernel.specs.Serving.{services}
use Rattle.iop_kernel_laws.specs.SwitchLaws.{IsNoRun, SwitchesNone}
use Rattle.iop_kernel.specs.System.{Kernel, Core, Served, is_active}
use Rattle.iop_kernel.specs.declared.after.After.{After}
use Rattle.iop_kernel.specs.declared.after.After.TheVariants.{Resume, Switch, ModuleReturned, Fault}
use Rattle.iop_modload.specs.Finishing.{finishes}
use Rattle.iop_script.specs.declared.raise.Raise.{Raise}
use Rattle.iop_stubs.specs.Stubs.{access_place}
use Rattle.iop_thread.proofs.Waits.{moves_waits}
use Rattle.iop_thread.specs.Placing.{IsPlaced}
use Rattle.iop_thread.specs.ThreadTable.{ThreadTable}
use Rattle.iop_machine.specs.Iop.{Iop, Transition, core_of}
use Rattle.iop_machine.specs.Loading.{loads_first, with_kernel, starts_by, boots}
use Rattle.iop_machine.specs.Looking.{takes_events}
use Rattle.iop_machine.specs.Modules.{Module, ModulesLeft, modules_of}
use Rattle.iop_machine.specs.Services.{calls, calls_by, serves, calling, leaves, goes_on_by, ends_module, returns_by}
use Rattle.iop_machine.specs.Stepping.{Turn, Dispatches, turn_of, takes_turn, step, steps, performs, waits_by}
use Rattle.iop_machine.specs.SwitchLaws.{running_in, IsTaken, SwitchesByDispatch, RunsSwitchByDispatch, RunsSince, RunningThreadsWereTaken}
use Rattle.iop_machine.specs.World.{World, beginning}
use Rattle.iop_saved_machine.specs.declared.begun_module.BegunModule.{BegunModule}
use Rattle.iop_machine.proofs.Landing.{runs_stay_sound}
use Rattle.iop_machine.proofs.LoadingLands.{loads_first_lands}
use Rattle.iop_machine.proofs.LoadingLines.{finishes_run_none, loads_first_run_none}
use Rattle.iop_machine.proofs.LookingLemmas.{taken_clock, taken_kernel}
use Rattle.iop_machine.proofs.Moving.{takes_core}
use Rattle.iop_machine.proofs.Stepping.{IsTurn, stopped, unbooted, delivery, dispatch, execution, waiting, turn_is}

-- a transition lets none run, and tells of none
abbrev KeepsRunning : Iop → Transition Iop → Type 0
KeepsRunning s t = SwitchesNone s.kernel.threads t.state.kernel.threads t.pieces

-- one and then another
then_none : {a b c : ThreadTable} {xs ys : List Piece} → SwitchesNone a b xs
    → SwitchesNone b c ys → SwitchesNone a c (xs ++ ys)
then_none {a} {b} {c} {xs} {ys} g h = record {
  running = λ id is. g.running id (h.running id is);
  lines = All-append IsNoRun xs ys g.lines h.lines;
}

-- where threads stand there that are the same
same_none : (a b : ThreadTable) (xs : List Piece) → b ≡ a → All IsNoRun xs → SwitchesNone a b xs
same_none a b xs same = same_runs a b xs (ap (λ (t : ThreadTable). t.running) same)

-- what loads modules
loads_first_keeps_running : (modules : List Module) (s : Iop)
    → KeepsRunning s (loads_first modules s)
loads_first_keeps_running modules s =
    same_none _ _ _ (ap (λ (k : Kernel). k.threads) (loads_first_lands modules s).kernel)
    (loads_first_run_none modules s)

-- the loader's thread begins, if it is to
starts_run : (s : Iop) (o : Option BegunModule) → IsPlaced s.kernel.threads
    → SwitchesNone s.kernel.threads (starts_by s o).kernel.threads []
starts_run s None placed = same_none _ _ _ refl (All-nil IsNoRun)
starts_run s (Some begun) placed =
    same_runs s.kernel.threads _ _ ((moves_waits s.kernel.threads placed).begins s.cpu).running
    (All-nil IsNoRun)

boots_run : (s : Iop) → IsPlaced s.kernel.threads → KeepsRunning s (boots s)
unfolding boots
boots_run s placed =
    let v = (loads_first (modules_of s.modules) (with_kernel s)).state in
    let threads = ap (λ (k : Kernel). k.threads)
    (loads_first_lands (modules_of s.modules) (with_kernel s)).kernel in
    let loaded = loads_first_keeps_running (modules_of s.modules) (with_kernel s) in
    let started = starts_run v v.begun (subst IsPlaced (sym threads) placed) in
    record {
      running = λ id is. loaded.running id (started.running id is);
      lines = loaded.lines;
    }

-- it goes on or ends
goes_on_run : (s : Iop) (o : Option BegunModule) → IsPlaced s.kernel.threads
    → SwitchesNone s.kernel.threads (goes_on_by s o).kernel.threads []
goes_on_run s None placed =
    none_runs s.kernel.threads _ _ (moves_waits s.kernel.threads placed).ends_running.running
    (All-nil IsNoRun)
goes_on_run s (Some begun) placed = same_none _ _ _ refl (All-nil IsNoRun)

-- it returned, by whether a module had begun
returns_run : (s : Iop) (o : Option BegunModule) (value : ℕ) → IsPlaced s.kernel.threads
    → KeepsRunning s (returns_by s o value)
unfolding ends_module
returns_run s None value placed = goes_on_run s None placed
returns_run s (Some m) value placed =
    let ended =
    finishes s.kernel.clock s.memory s.blocks s.libraries m.number m.place value in
    let left = (leaves s ended).state in
    let now = (loads_first (modules_of s.modules) left).state in
    let lands = loads_first_lands (modules_of s.modules) left in
    let threads = ap (λ (k : Kernel). k.threads) lands.kernel in
    let loaded = loads_first_keeps_running (modules_of s.modules) left in
    let went = goes_on_run now now.begun (subst IsPlaced (sym threads) placed) in
    record {
      running = λ id is. loaded.running id (went.running id is);
      lines = All-append IsNoRun ended.pieces (loads_first (modules_of s.modules) left).pieces
          (finishes_run_none s m value) loaded.lines;
    }

-- by what becomes of the caller
calls_by_run : (s : Iop) (d : Served) → KeepsRunning s (serves s d)
    → IsPlaced d.left.state.core.kernel.threads → (after : After)
    → KeepsRunning s (calls_by s d after)
calls_by_run s d served placed Resume = served
calls_by_run s d served placed Switch = served
calls_by_run s d served placed (ModuleReturned value) =
    let now = (serves s d).state in then_none served (returns_run now now.begun value placed)
calls_by_run s d served placed (Fault kind) = same_none _ _ _ refl (All-nil IsNoRun)

-- an instruction of what executes
performs_run : (s : Iop) → IsCore (core_of s) → (r : Row) → is_active s.kernel ≡ true
    → KeepsRunning s (performs s r)
unfolding calls
performs_run s core (Goes after None) active = same_none _ _ _ refl (All-nil IsNoRun)
performs_run s core (Goes after (Some storing)) active =
    let place = access_place s.memory storing.at storing.width in
    let bytes = bytes_of (width_bytes storing.width) storing.value in
    same_none _ _ _ refl (stores_run_none s.kernel.clock s.memory place (length bytes))
performs_run s core (Serves code) active =
    let d = services (calling s) code in
    let placed = (services_keep (calling s) code active).placed core.placed in
    calls_by_run s d (dispatches_alone_switch.services (calling s) code core.placed.threads)
    placed.threads d.left.after
performs_run s core (Faults kind) active = same_none _ _ _ refl (All-nil IsNoRun)

-- the clock goes on
waits_run : (s : Iop) (o : Option ℕ) → KeepsRunning s (waits_by s o)
waits_run s None = same_none _ _ _ refl (All-nil IsNoRun)
waits_run s (Some moment) = same_none _ _ _ refl (All-nil IsNoRun)

-- the script's events that are due leave the threads
taken_threads : (s : Iop) → (takes_events s).kernel.threads ≡ s.kernel.threads
taken_threads s = ap (λ (k : Kernel). k.threads) (taken_kernel s)

-- so it is behind them
behind_events : (s : Iop) {t : ThreadTable} {xs : List Piece}
    → SwitchesNone (takes_events s).kernel.threads t xs → SwitchesNone s.kernel.threads t xs
behind_events s {t} {xs} = subst (λ (a : ThreadTable). SwitchesNone a t xs) (taken_threads s)

-- a step that takes this turn dispatches a thread, or lets none run
abbrev Shows : World → Turn → Type 0
Shows w t =
    SwitchesNone w.iop.kernel.threads (takes_turn w t).state.iop.kernel.threads
    (takes_turn w t).pieces
    ⊎ ((d : Dispatched) × (id : ℕ) × (t ≡ Dispatches d)
    × (d.core.kernel.threads.running ≡ Some id)
    × (d.line ≡ Traced (line_bytes w.iop.kernel.clock (lines.Run id))))

turn_shows : (w : World) {t : Turn} → IsCore (core_of w.iop) → IsTurn w t → Shows w t
turn_shows w core (stopped stop over) = inl (same_none _ _ _ refl (All-nil IsNoRun))
turn_shows w core (unbooted over new) = inl (boots_run w.iop core.placed.threads)
turn_shows w core (delivery d goes is) =
    let taken = takes_core w.iop core in
    inl (behind_events w.iop
    (dispatches_alone_switch.deliveries (core_of (takes_events w.iop)) d taken.placed.threads is))
turn_shows w core (dispatch d goes none is) =
    let c = core_of (takes_events w.iop) in
    let switch = (dispatches_are_strict.dispatched c d (takes_core w.iop core) is).switch in
    inr (
      d,
      switch.is.thread.id,
      refl,
      ap (λ (x : Core). x.kernel.threads.running) switch.left ∙ switch.is.runs,
      switch.line ∙ ap (λ n. Traced (line_bytes n (lines.Run switch.is.thread.id)))
          (taken_clock w.iop),
    )
turn_shows w core (execution goes looks) =
    let v = takes_events w.iop in
    inl (behind_events w.iop (performs_run v (takes_core w.iop core) (row v.memory.ram v.cpu)
    looks.active_is))
turn_shows w core (waiting goes looks) =
    inl (behind_events w.iop (waits_run (takes_events w.iop) _))

-- each step is such
module _ (w : World) where
  taken_by : (d : Dispatched) (id : ℕ) → turn_of w ≡ Dispatches d
      → d.core.kernel.threads.running ≡ Some id
      → d.line ≡ Traced (line_bytes w.iop.kernel.clock (lines.Run id)) → IsTaken w id
  unfolding step
  taken_by d id turn runs told =
      let step_is = ap (takes_turn w) turn in
      record {
        dispatched = d;
        turn = turn;
        runs = ap (λ (t : Transition World). running_in t.state) step_is ∙ runs;
        pieces = ap (λ (t : Transition World). t.pieces) step_is ∙ ap (λ x. x ∷ []) told;
      }

  switches_by : Shows w (turn_of w) → SwitchesByDispatch w
  unfolding step
  switches_by (inl none) =
      record { running = λ id is. inl (none.running id is); lines = inl none.lines }
  switches_by (inr (d, id, turn, runs, told)) =
      let taken = taken_by d id turn runs told in
      record {
        running = λ other is.
            let same : id ≡ other = same_Some _ _ (sym taken.runs ∙ is) in
            inr (subst (IsTaken w) same taken);
        lines = inr (id, taken);
      }

  step_switches : IsCore (core_of w.iop) → SwitchesByDispatch w
  step_switches core = switches_by (turn_shows w core (turn_is w))

-- in each state that a run reaches
pub runs_switch_by_dispatch : RunsSwitchByDispatch
runs_switch_by_dispatch = λ size modules events k sized.
    step_switches (steps k (beginning size modules events)).state
    (runs_stay_sound size modules events k sized).core

-- a thread that runs was taken, and has run since
module _ (size : ℕ) (modules : ModulesLeft) (events : List Raise) (sized : IsRamSize size) where
  abbrev first : World
  first = beginning size modules events

  -- it ran before the last step
  since_before : (k id : ℕ) → running_in (steps (suc k) first).state ≡ Some id
      → RunsSince first k id → RunsSince first (suc k) id
  since_before k id is h = record {
    at = h.at;
    before = omega (arith, h.before);
    taken = h.taken;
    since = λ j later within. elim (eq-or-lt_of_le within) [
      | inl same ↦ subst (λ n. running_in (steps n first).state ≡ Some id) (sym same) is
      | inr less ↦ h.since j later (omega (arith, less))
    ];
  }

  -- the last step took it
  since_now : (k id : ℕ) → running_in (steps (suc k) first).state ≡ Some id
      → IsTaken (steps k first).state id → RunsSince first (suc k) id
  since_now k id is taken = record {
    at = k;
    before = omega arith;
    taken = taken;
    since = λ j later within.
        let same : suc k ≡ j = omega (arith, later, within) in
        subst (λ n. running_in (steps n first).state ≡ Some id) same is;
  }

  runs_since : (k id : ℕ) → running_in (steps k first).state ≡ Some id → RunsSince first k id
  unfolding steps
  runs_since zero id is = absurd (cc is)
  runs_since (suc k) id is =
      let h = runs_switch_by_dispatch size modules events k sized in
      elim (h.running id is) [
        | inl ran ↦ since_before k id is (runs_since k id ran)
        | inr taken ↦ since_now k id is taken
      ]

pub running_threads_were_taken : RunningThreadsWereTaken
running_threads_were_taken =
    λ size modules events k id sized. runs_since size modules events sized k id
