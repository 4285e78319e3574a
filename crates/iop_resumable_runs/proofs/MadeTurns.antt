-- Threads and pools stay such as the calls of a guest make them, over each turn.
use Rattle.std.proofs.Common.{◌≡◌, ℕ, ◌+◌, ◌^◌, ◌≤◌, Option, Some, None, length, sym, subst}
use Rattle.iop_exec.specs.Row.{Row, Goes, Serves, Faults, row}
use Rattle.iop_kernel.specs.Serving.{services}
use Rattle.iop_kernel.specs.System.{Core, Served}
use Rattle.iop_kernel.specs.declared.after.After.{After}
use Rattle.iop_kernel.specs.declared.after.After.TheVariants.{Resume, Switch, ModuleReturned, Fault}
use Rattle.iop_machine.specs.Iop.{Iop, core_of}
use Rattle.iop_machine.specs.Laws.{IsSoundWorld}
use Rattle.iop_machine.specs.Loading.{loads_first, with_kernel, starts_by, boots}
use Rattle.iop_machine.specs.Looking.{takes_events, next_coming}
use Rattle.iop_machine.specs.Modules.{modules_of}
use Rattle.iop_machine.specs.Registers.{forgets, ends_call}
use Rattle.iop_machine.specs.Services.{leaves, goes_on_by, ends_module, returns_by, calls, calls_by, calling, serves}
use Rattle.iop_machine.specs.Stepping.{Turn, takes_turn, performs, waits_by}
use Rattle.iop_machine.specs.World.{World}
use Rattle.iop_machine.proofs.Stepping.{IsTurn, stopped, unbooted, delivery, dispatch, execution, waiting}
use Rattle.iop_modload.proofs.Placed.{small}
use Rattle.iop_modload.specs.Finishing.{finishes}
use Rattle.iop_resumable.specs.Laws.{IsServing}
use Rattle.iop_resumable.proofs.MadeKernels.{kernels_stay_made}
use Rattle.iop_saved_checks.specs.Made.{AreMade, pools_are_inside}
use Rattle.iop_saved_machine.specs.declared.begun_module.BegunModule.{BegunModule}
use Rattle.iop_resumable_runs.proofs.Cores.{serving}
use Rattle.iop_resumable_runs.proofs.Loader.{loads_first_lands}

module _ (size : ℕ) where
  abbrev HasMade : Iop → Type 0
  HasMade s = AreMade size s.kernel

  -- registers that nobody has are forgotten
  forgets_made : (c : Core) → AreMade size c.kernel → AreMade size (forgets c).kernel
  unfolding pools_are_inside
  forgets_made c h = record { threads = h.threads; pools = h.pools }

  ended_made : (s : Iop) → HasMade s → HasMade (ends_call s)
  ended_made s h =
      let c = forgets (core_of s) in
      kernels_stay_made.moves_on size c (s.kernel.clock + 1) c.cpu (forgets_made (core_of s) h)

  -- the loader's thread goes on or ends
  goes_on_made : (s : Iop) (o : Option BegunModule) → HasMade s → HasMade (goes_on_by s o)
  goes_on_made s None h = kernels_stay_made.ends_running size (core_of s) h
  goes_on_made s (Some begun) h = h

  -- a module ends, if one runs
  returns_made : (s : Iop) (o : Option BegunModule) (value : ℕ) → HasMade s
      → HasMade (returns_by s o value).state
  unfolding ends_module
  returns_made s None value h = kernels_stay_made.ends_running size (core_of s) h
  returns_made s (Some m) value h =
      let left = (leaves s
      (finishes s.kernel.clock s.memory s.blocks s.libraries m.number m.place value)).state in
      let now = (loads_first (modules_of left.modules) left).state in
      let lands = loads_first_lands (modules_of left.modules) left in
      goes_on_made now now.begun (subst (AreMade size) (sym lands.kernel) h)

  -- the loader's thread begins, where a module does
  starts_made : (s : Iop) (o : Option BegunModule) → HasMade s → HasMade (starts_by s o)
  starts_made s None h = h
  starts_made s (Some m) h = kernels_stay_made.begins size (core_of s) s.cpu h

  -- a machine is booted
  boots_made : (s : Iop) → HasMade s → HasMade (boots s).state
  unfolding boots
  boots_made s h =
      let left = (loads_first (modules_of s.modules) (with_kernel s)).state in
      let lands = loads_first_lands (modules_of s.modules) (with_kernel s) in
      starts_made left left.begun (subst (AreMade size) (sym lands.kernel) h)

  -- by what becomes of the caller
  calls_made : (s : Iop) (d : Served) → HasMade s → HasMade (serves s d).state → (after : After)
      → HasMade (calls_by s d after).state
  calls_made s d h served Resume = ended_made (serves s d).state served
  calls_made s d h served Switch = ended_made (serves s d).state served
  calls_made s d h served (ModuleReturned value) =
      let now = (serves s d).state in
      ended_made (returns_by now now.begun value).state (returns_made now now.begun value served)
  calls_made s d h served (Fault kind) = h

  -- an instruction of what executes
  performs_made : (s : Iop) → IsServing (calling s) → size ≤ 2 ^ 29 → s.blocks.size ≡ size
      → (r : Row) → HasMade s → HasMade (performs s r).state
  unfolding calls
  performs_made s called small same (Goes after None) h =
      kernels_stay_made.moves_on size (core_of s) (s.kernel.clock + 1) after h
  performs_made s called small same (Goes after (Some storing)) h =
      kernels_stay_made.moves_on size (core_of s) (s.kernel.clock + 1) after h
  performs_made s called small same (Serves code) h =
      let d = services (calling s) code in
      let served = kernels_stay_made.services (calling s) code called
      (subst (λ n. n ≤ 2 ^ 29) (sym same) small) (subst (λ n. AreMade n s.kernel) (sym same) h) in
      calls_made s d h (subst (λ n. AreMade n d.left.state.core.kernel) same served) d.left.after
  performs_made s called small same (Faults kind) h = h

  -- the clock goes on
  waits_made : (s : Iop) (o : Option ℕ) → HasMade s → HasMade (waits_by s o).state
  waits_made s None h = h
  waits_made s (Some moment) h = kernels_stay_made.moves_on size (core_of s) moment s.cpu h

module _ (w : World) (sound : IsSoundWorld w)
    (h : AreMade (length w.iop.memory.ram) w.iop.kernel) where
  abbrev v : Iop
  v = takes_events w.iop

  abbrev size : ℕ
  size = length w.iop.memory.ram

  taken : AreMade size v.kernel
  taken = kernels_stay_made.raises size (core_of w.iop) v.kernel.irqs h

  -- each turn, in RAM of as many bytes as there were
  pub turn_made : {t : Turn} → IsTurn w t → AreMade size (takes_turn w t).state.iop.kernel
  turn_made (stopped stop over) = h
  turn_made (unbooted over new) = boots_made size w.iop h
  turn_made (delivery d goes is) = kernels_stay_made.delivers size (core_of v) d taken is
  turn_made (dispatch d goes none is) = kernels_stay_made.dispatches size (core_of v) d taken is
  turn_made (execution goes looks) =
      performs_made size v (serving w sound) (small size sound.whole.sound.sized)
      sound.whole.same_size (row v.memory.ram v.cpu) taken
  turn_made (waiting goes looks) = waits_made size v (next_coming v) taken
