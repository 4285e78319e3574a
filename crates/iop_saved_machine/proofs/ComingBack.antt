-- A machine that can be put back comes back from its parts.
use Rattle.std.proofs.Common.{◌≡◌, Option, Some, None, List, [], ◌∷◌, length, drop, refl, sym, ap, subst, ◌∙◌, arith}
use Rattle.std.specs.Prelude.{option_map, option_and_then, slice_index_or}
use Rattle.iop_registry.proofs.PuttingBack as registry
use Rattle.iop_saved_kernel.proofs.ComingBack.{cores_back}
use Rattle.iop_saved_kernel.specs.Laws.{core_in_order}
use Rattle.iop_saved_tables.proofs.Opening.{came}
use Rattle.iop_saved_tables.specs.Tables.{with_map, put_block, put_used}
use Rattle.iop_snapshot.proofs.Putting.{puts_each}
use Rattle.iop_snapshot.specs.Putting.{put_all}
use Rattle.iop_stubs.proofs.PuttingBack.{stubs_come_back}
use Rattle.iop_stubs.specs.Restoring.{stub_may_follow, with_last_stub, stubs_put_back}
use Rattle.iop_sysmem.proofs.PuttingBack.{put_back-all}
use Rattle.iop_sysmem.specs.BlockMap.{BlockMap, AreBlocks, no_block}
use Rattle.iop_sysmem.specs.Restoring.{may_follow, with_last, with_all}
use Rattle.iop_sysmem.specs.declared.block.Block.{Block}
use Rattle.iop_sysmem.specs.declared.blocks.TheConstants.{KERNEL}
use Rattle.iop_registry.specs.Restoring as libraries
use Rattle.iop_saved_machine.specs.Back.{parts_of, if_opened, used_back}
use Rattle.iop_saved_machine.specs.Laws.{MachinesComeBack}
use Rattle.iop_saved_machine.specs.Tables.{kernel_alone}
use Rattle.iop_saved_machine.proofs.Whole.{machine_is_back}

-- once the kernel's block has come, the others are put back into the map
pub behind_kernels : (map : BlockMap) (xs : List Block)
    → put_all put_used (came map) xs ≡ option_map came (put_all put_block map xs)
behind_kernels map [] = refl
behind_kernels map (x ∷ xs) = by (put_block map x) (λ next. behind_kernels next xs)
  where
    by : (put : Option BlockMap)
        → ((next : BlockMap) → put_all put_used (came next) xs
        ≡ option_map came (put_all put_block next xs))
        → option_and_then (λ o. put_all put_used o xs) (option_map (with_map (came map)) put)
        ≡ option_map came (option_and_then (λ m. put_all put_block m xs) put)
    by None later = refl
    by (Some next) later = later next

-- the kernel's block and those behind it come back
used_comes : (map : BlockMap) → AreBlocks map → (used : List Block) → used ≡ map.used
    → used_back map.size used ≡ Some map
used_comes map blocks [] is = absurd (omega (arith, ap length is, blocks.some))
used_comes map blocks (first ∷ later) is =
    let kernel : first ≡ KERNEL =
    subst (λ (used : List Block). slice_index_or used 0 no_block ≡ KERNEL) (sym is)
    blocks.kernel in
    let rest : put_all put_block (kernel_alone map.size) later ≡ Some map =
    puts_each may_follow with_last with_all (λ s. refl) (λ s x xs. refl) (kernel_alone map.size)
    later
    ∙ ap (with_all (kernel_alone map.size)) (ap (λ (used : List Block). drop 1 used) is)
    ∙ put_back-all map blocks in
    ap (λ (x : Block). used_back map.size (x ∷ later)) kernel
    ∙ ap (option_and_then if_opened) (behind_kernels (kernel_alone map.size) later)
    ∙ ap (λ (o : Option BlockMap). option_and_then if_opened (option_map came o)) rest

pub machines_back : MachinesComeBack
machines_back m can =
    let s = m.system in
    machine_is_back (parts_of m) (core_in_order s.core) s.blocks s.libraries s.memory
    (cores_back s.core can.core)
    (subst (λ size. used_back size s.blocks.used ≡ Some s.blocks) can.same_size
    (used_comes s.blocks can.blocks s.blocks.used refl))
    (puts_each libraries.may_follow libraries.with_last libraries.with_all (λ s. refl)
    (λ s x xs. refl) [] s.libraries
    ∙ registry.put_back-all s.libraries can.libraries)
    (puts_each stub_may_follow with_last_stub stubs_put_back (λ s. refl) (λ s x xs. refl)
    (record { ram = s.memory.ram; live = [] }) s.memory.live
    ∙ stubs_come_back s.memory can.memory)
