-- The module that is begun can run, over each turn.
use Rattle.std.proofs.Common.{◌≡◌, ℕ, ◌≤◌, true, Option, Some, None, [], length, refl, sym, ◌∙◌, subst}
use Rattle.iop_exec.specs.Row.{Row, Goes, Serves, Faults, row}
use Rattle.iop_kernel.specs.Serving.{services}
use Rattle.iop_kernel.specs.System.{System, is_active}
use Rattle.iop_kernel.specs.declared.after.After.{After}
use Rattle.iop_kernel.specs.declared.after.After.TheVariants.{Resume, Switch, ModuleReturned, Fault}
use Rattle.iop_machine.specs.Iop.{Iop, with_system}
use Rattle.iop_machine.specs.Laws.{IsSoundWorld}
use Rattle.iop_machine.specs.Loading.{loads_first, with_kernel, starts_by, boots}
use Rattle.iop_machine.specs.Looking.{takes_events, next_coming}
use Rattle.iop_machine.specs.Modules.{modules_of}
use Rattle.iop_machine.specs.Services.{leaves, goes_on_by, ends_module, returns_by, calls, calls_by, calling}
use Rattle.iop_machine.specs.Stepping.{Turn, takes_turn, performs, waits_by}
use Rattle.iop_machine.specs.World.{World}
use Rattle.iop_machine.proofs.KeepingMachine.{area_blocks}
use Rattle.iop_machine.proofs.Stepping.{IsTurn, stopped, unbooted, delivery, dispatch, execution, waiting}
use Rattle.iop_modload.proofs.FinishingLemmas.{finishing_keeps}
use Rattle.iop_modload.specs.Finishing.{finishes}
use Rattle.iop_resumable.specs.Laws.{IsServing}
use Rattle.iop_saved_machine.specs.declared.begun_module.BegunModule.{BegunModule}
use Rattle.iop_resumable_runs.proofs.Begun.{HasBegun, IsWhole, RunsIn, first_begun}
use Rattle.iop_resumable_runs.proofs.Cores.{serving}
use Rattle.iop_resumable_runs.proofs.Returned.{module_returned, opened_system}

module _ (size : ℕ) where
  -- what the end of a module leaves
  pub ended_begun : (s : Iop) (m : BegunModule) (value : ℕ) → 1 ≤ s.modules.next → IsWhole size s
      → let left = (leaves s
      (finishes s.kernel.clock s.memory s.blocks s.libraries m.number m.place value)).state in
      HasBegun size (loads_first (modules_of left.modules) left).state
  ended_begun s m value some whole =
      let ended = finishing_keeps s.kernel.clock s.memory s.blocks s.libraries whole.blocks m.number
      m.place value in
      first_begun size (leaves s
      (finishes s.kernel.clock s.memory s.blocks s.libraries m.number m.place value)).state some
      (record { blocks = ended.whole; size = ended.size ∙ whole.size })

  -- and what is left where a machine is booted
  pub booted_begun : (s : Iop) → s.memory.live ≡ [] → 1 ≤ s.modules.next → IsWhole size s
      → HasBegun size (loads_first (modules_of s.modules) (with_kernel s)).state
  booted_begun s none some whole =
      let area = area_blocks s whole.blocks none in
      first_begun size (with_kernel s) some
      (record { blocks = area; size = sym area.same_size ∙ whole.blocks.same_size ∙ whole.size })

  starts_run : (s : Iop) (o : Option BegunModule) → RunsIn size s → RunsIn size (starts_by s o)
  starts_run s None h = h
  starts_run s (Some begun) h = h

  goes_on_run : (s : Iop) (o : Option BegunModule) → RunsIn size s → RunsIn size (goes_on_by s o)
  goes_on_run s None h = h
  goes_on_run s (Some begun) h = h

  boots_run : (s : Iop) → s.memory.live ≡ [] → 1 ≤ s.modules.next → IsWhole size s
      → RunsIn size (boots s).state
  unfolding boots
  boots_run s none some whole =
      let left = (loads_first (modules_of s.modules) (with_kernel s)).state in
      starts_run left left.begun (booted_begun s none some whole).runs

  returns_run : (s : Iop) (o : Option BegunModule) (value : ℕ) → 1 ≤ s.modules.next
      → IsWhole size s → RunsIn size s → RunsIn size (returns_by s o value).state
  unfolding ends_module
  returns_run s None value some whole h = h
  returns_run s (Some m) value some whole h =
      let left = (leaves s
      (finishes s.kernel.clock s.memory s.blocks s.libraries m.number m.place value)).state in
      let now = (loads_first (modules_of left.modules) left).state in
      goes_on_run now now.begun (ended_begun s m value some whole).runs

  waits_run : (s : Iop) (o : Option ℕ) → RunsIn size s → RunsIn size (waits_by s o).state
  waits_run s None h = h
  waits_run s (Some moment) h = h

  module _ (s : Iop) (called : IsServing (calling s)) (active : is_active s.kernel ≡ true)
      (some : 1 ≤ s.modules.next) (whole : IsWhole size s) (h : RunsIn size s) where
    -- by what becomes of the caller
    calls_run : (code : ℕ) (after : After) → (services (calling s) code).left.after ≡ after
        → RunsIn size (calls_by s (services (calling s) code) after).state
    calls_run code Resume is = h
    calls_run code Switch is = h
    calls_run code (Fault kind) is = h
    calls_run code (ModuleReturned value) is =
        let returned = module_returned (calling s) code value called.placed active is in
        subst (λ (left : System).
        RunsIn size (returns_by (with_system s left) (with_system s left).begun value).state)
        (sym returned.left)
        (returns_run (with_system s (opened_system (calling s))) s.begun value some
        (record { blocks = whole.blocks; size = whole.size }) h)

    -- an instruction of what executes
    performs_run : (r : Row) → RunsIn size (performs s r).state
    unfolding calls
    performs_run (Goes after None) = h
    performs_run (Goes after (Some storing)) = h
    performs_run (Serves code) = calls_run code _ refl
    performs_run (Faults kind) = h

module _ (w : World) (sound : IsSoundWorld w) (some : 1 ≤ w.iop.modules.next) where
  abbrev v : Iop
  v = takes_events w.iop

  abbrev size : ℕ
  size = length w.iop.memory.ram

  pub turn_run : RunsIn size w.iop → {t : Turn} → IsTurn w t
      → RunsIn size (takes_turn w t).state.iop
  turn_run h (stopped stop over) = h
  turn_run h (unbooted over new) =
      boots_run size w.iop (sound.none_live new) some
      (record { blocks = sound.whole; size = refl })
  turn_run h (delivery d goes is) = h
  turn_run h (dispatch d goes none is) = h
  turn_run h (execution goes looks) =
      performs_run size v (serving w sound) looks.active_is some
      (record { blocks = sound.whole; size = refl }) h (row v.memory.ram v.cpu)
  turn_run h (waiting goes looks) = waits_run size v (next_coming v) h
