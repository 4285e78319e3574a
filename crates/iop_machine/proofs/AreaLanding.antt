-- The kernel's area stays as it is read while modules are loaded.
use Rattle.std.proofs.Common.{◌≡◌, ℕ, ◌+◌, ◌<◌, ◌≤◌, Option, Some, None, Result, Ok, Err, List, [], ◌∷◌, length, replicate, drop, slice_index, All, refl, sym, ◌∙◌, arith, subst, inr, length-take-le, length-drop, get_or-drop, get_or-take, ext_get_or}
use Rattle.std.proofs.lemmas.List.{length-replicate}
use Rattle.std.proofs.lemmas.List.Elements.{All-head, All-tail}
use Rattle.iop_base.specs.declared.code.Code.{Code}
use Rattle.iop_modload.specs.Laws.{HasBlocks}
use Rattle.iop_modload.specs.declared.loaded.Loaded.{Loaded}
use Rattle.iop_modload.proofs.LoadingLemmas.{loading_keeps}
use Rattle.iop_sysmem.specs.declared.blocks.TheConstants.{KERNEL}
use Rattle.iop_machine.specs.declared.arguments.TheConstants.{ARGUMENTS, ARGUMENTS_LEN}
use Rattle.iop_saved_machine.specs.declared.begun_module.BegunModule.{BegunModule}
use Rattle.iop_machine.specs.AreaLaws.{HasKernel, BootingKeepsKernel}
use Rattle.iop_machine.specs.Iop.{Iop, Transition}
use Rattle.iop_machine.specs.Loading.{with_kernel, loading_of, places, passes, enters_or, loads_first, starts_by, boots}
use Rattle.iop_machine.specs.Modules.{Module, HasRoom, argument_block, modules_of}
use Rattle.iop_machine.specs.Stepping.{Boots}
use Rattle.iop_machine.specs.Storing.{fills, stores_bytes}
use Rattle.iop_machine.specs.World.{beginning}
use Rattle.iop_machine.proofs.AreaHolding.{HoldsArea, area_holds, store_holds}
use Rattle.iop_machine.proofs.AreaReading.{area_is_read}
use Rattle.iop_machine.proofs.ArgumentReading.{length-argument_block, stored}
use Rattle.iop_machine.proofs.KeepingMachine.{area_blocks, begins_sound}
use Rattle.iop_machine.proofs.Stepping.{step_as, turn_boots}

-- bytes that fit the argument block
block_holds : (s : Iop) (bytes : List ℕ) → length bytes ≤ ARGUMENTS_LEN → HoldsArea s.memory.ram
    → HoldsArea (stores_bytes s ARGUMENTS bytes).state.memory.ram
block_holds s bytes short holds =
    let long = holds.long in
    subst HoldsArea (sym (stored s bytes (omega (arith, long)) short))
    (store_holds s.memory.ram ARGUMENTS bytes (omega (arith, long, short)) holds
    (inr (omega arith, omega (arith, short))))

argument_block-short : (m : Module) → HasRoom m → length (argument_block m.words) ≤ ARGUMENTS_LEN
argument_block-short m room =
    let few = room.words in
    let short = room.strings in
    omega (arith, few, short, length-argument_block m.words)

passes_hold : (s : Iop) (m : Module) → HasRoom m → HoldsArea s.memory.ram
    → HoldsArea (passes s (argument_block m.words)).state.memory.ram
passes_hold s m room holds =
    block_holds (fills s ARGUMENTS ARGUMENTS_LEN).state (argument_block m.words)
    (argument_block-short m room)
    (block_holds s (replicate ARGUMENTS_LEN 0)
    (omega (arith, length-replicate {A = ℕ} ARGUMENTS_LEN 0)) holds)

-- memory whose bytes of the kernel's block are as they were
as_before : (old new : List ℕ) → length new ≡ length old
    → ((p : ℕ) → p < KERNEL.size → slice_index new p ≡ slice_index old p) → HoldsArea old
    → HoldsArea new
as_before old new size same holds = record {
  long = omega (arith, holds.long, size);
  same = λ p n fixed.
      let inside = fixed.below in
      let long = holds.long in
      let first = length-take-le n (drop p new) (omega (arith, size, length-drop p new)) in
      let second = length-take-le n (drop p old) (omega (arith, length-drop p old)) in
      ext_get_or 0 _ _ (first ∙ sym second) (λ k lt.
      let below : k < n = omega (arith, lt, first) in
      get_or-take n (drop p new) k 0 below ∙ get_or-drop p new k 0
      ∙ same (p + k) (omega (arith, below))
      ∙ sym (get_or-take n (drop p old) k 0 below ∙ get_or-drop p old k 0))
      ∙ holds.same p n fixed;
}

enters_hold : (next : Iop → Transition Iop) (s : Iop) (m : Module) (r : Result Loaded Code)
    → HasRoom m → HoldsArea s.memory.ram → HoldsArea (next s).state.memory.ram
    → HoldsArea (enters_or next s m r).state.memory.ram
enters_hold next s m (Ok loaded) room holds later = passes_hold s m room holds
enters_hold next s m (Err code) room holds later = later

loads_first_hold : (modules : List Module) (s : Iop) → All HasRoom modules
    → HasBlocks s.memory s.blocks → HoldsArea s.memory.ram
    → HoldsArea (loads_first modules s).state.memory.ram
unfolding loads_first
loads_first_hold [] s room has holds = holds
loads_first_hold (m ∷ rest) s room has holds =
    let loading = loading_of s m in
    let kept = loading_keeps s.kernel.clock s.memory s.blocks s.libraries has m.file in
    let placed = (places s loading).state in
    let still = as_before s.memory.ram placed.memory.ram kept.size kept.kernel holds in
    enters_hold (loads_first rest) placed m loading.answer (All-head HasRoom m rest room) still
    (loads_first_hold rest placed (All-tail HasRoom m rest room) kept.whole still)

-- the loader's thread begins, which leaves memory
starts_hold : (s : Iop) (o : Option BegunModule) → HoldsArea s.memory.ram
    → HoldsArea (starts_by s o).memory.ram
starts_hold s None holds = holds
starts_hold s (Some begun) holds = holds

boots_hold : (s : Iop) → All HasRoom (modules_of s.modules) → HasBlocks s.memory s.blocks
    → s.memory.live ≡ [] → HoldsArea (boots s).state.memory.ram
unfolding boots
boots_hold s room has none =
    let left = (loads_first (modules_of s.modules) (with_kernel s)).state in
    starts_hold left left.begun (loads_first_hold (modules_of s.modules) (with_kernel s) room
    (area_blocks s has none) (area_holds s.memory.ram))

pub booting_keeps_kernel : BootingKeepsKernel
booting_keeps_kernel = λ size modules events sized room.
    let start = beginning size modules events in
    let holds = begins_sound size modules events sized in
    subst (λ (t : Transition _). HasKernel t.state.iop.memory.ram)
    (sym (step_as start Boots (turn_boots start refl refl)))
    (area_is_read (boots_hold start.iop room holds.whole (holds.none_live refl)))
