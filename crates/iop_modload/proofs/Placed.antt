-- The place that a module's block takes.
use Rattle.std.proofs.Common.{◌≡◌, inl, inr, ℕ, ◌+◌, ◌%◌, ◌^◌, ◌<◌, ◌≤◌, false, List, length, get_or, subst, arith}
use Rattle.std.specs.List.{All}
use Rattle.std.proofs.lemmas.Bool.{le-ltb}
use Rattle.iop_base.specs.BlockSizes.{block_len}
use Rattle.iop_base.specs.Places.{IsRamSize}
use Rattle.iop_base.specs.declared.blocks.TheConstants.{BLOCK_UNIT}
use Rattle.iop_base.specs.declared.code.TheConstants.Code.{OK}
use Rattle.iop_sysmem.specs.Allocating.{allocating}
use Rattle.iop_sysmem.specs.BlockMap.{BlockMap, AreBlocks, freeing}
use Rattle.iop_sysmem.specs.Placing.{IsLeastFree}
use Rattle.iop_sysmem.specs.declared.blocks.TheConstants.{KERNEL}
use Rattle.iop_sysmem.proofs.Changing.{behind_kernel}
use Rattle.iop_sysmem.proofs.Finding.{allocates}
use Rattle.iop_sysmem.proofs.Freed.{allocated-free, freeing-allocated}
use Rattle.iop_stubs.specs.Stubs.{Memory, meets, remaining_stubs}
use Rattle.iop_stubs.specs.declared.live_stub.Stub.{Stub}
use Rattle.iop_stubs.proofs.Storing.{Apart, before, behind, empty, remaining_apart}
use Rattle.iop_modload.proofs.Blocks.{AreStill, still-allocating}

-- RAM is so small that each place in it is its own address
pub small : (size : ℕ) → IsRamSize size → size ≤ 2 ^ 29
small size (inl e) = omega arith
small size (inr e) = omega arith

-- a block for so many bytes was taken at a base
pub record IsPlaced (memory : Memory) (blocks taken : BlockMap) (len base : ℕ) : Type 0 where
  pub unit : base % BLOCK_UNIT ≡ 0
  pub behind_kernel : KERNEL.size ≤ base
  pub inside : base + len ≤ length memory.ram
  pub least : IsLeastFree blocks (block_len len) base
  pub still : AreStill blocks taken
  pub freed : freeing taken base ≡ (OK, blocks)

pub placed : (memory : Memory) (blocks : BlockMap) (len : ℕ) → AreBlocks blocks
    → blocks.size ≡ length memory.ram → blocks.size ≤ 2 ^ 29 → 0 < len
    → 0 < (allocating blocks 0 len 0).0
    → IsPlaced memory blocks (allocating blocks 0 len 0).1 len (allocating blocks 0 len 0).0
placed memory blocks len are_blocks same_size small some place =
    let base = (allocating blocks 0 len 0).0 in
    let free = allocated-free blocks are_blocks 0 len 0 place in
    let longer : len ≤ block_len len = omega arith in
    let fits : base + len ≤ blocks.size = omega (arith, free.fits) in
    record {
      unit = free.unit;
      behind_kernel = behind_kernel blocks (block_len len) base are_blocks (omega arith) free;
      inside = omega arith;
      least = ((allocates blocks are_blocks 0 len 0).place place).1;
      still = still-allocating blocks are_blocks 0 len 0;
      freed = freeing-allocated blocks are_blocks 0 len 0 small place;
    }

-- the same by what the allocation was called with and answered
pub placed-at : (memory : Memory) (blocks taken : BlockMap) (len size base : ℕ) → size ≡ len
    → base ≡ (allocating blocks 0 size 0).0 → taken ≡ (allocating blocks 0 size 0).1
    → AreBlocks blocks → blocks.size ≡ length memory.ram → blocks.size ≤ 2 ^ 29 → 0 < len → 0 < base
    → IsPlaced memory blocks taken len base
placed-at memory blocks taken len size base same at left are_blocks same_size small some place =
    let here : 0 < (allocating blocks 0 len 0).0 =
    subst (λ (n : ℕ). 0 < (allocating blocks 0 n 0).0) same (omega arith) in
    rw (left, at, same) (placed memory blocks len are_blocks same_size small some here)

-- no stub that a store leaves meets a part of its range
unmet_by : (stub : Stub) (p len part : ℕ) → part ≤ len → 0 < len → Apart stub.at p len
    → meets p part stub ≡ false
unmet_by stub p len part le some (before h) = le-ltb _ _ (omega arith)
unmet_by stub p len part le some (behind h) = le-ltb _ _ (omega arith)
unmet_by stub p len part le some (empty h) = absurd (omega arith)

pub part_unmet : (p len part : ℕ) (live : List Stub) → part ≤ len → 0 < len
    → All (λ stub. meets p part stub ≡ false) (remaining_stubs p len live)
part_unmet p len part live le some = λ k d below.
    unmet_by (get_or (remaining_stubs p len live) k d) p len part le some
    (remaining_apart p len live k d below)
