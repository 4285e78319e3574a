-- What the laws on loading and finishing say.
use Rattle.std.specs.Prelude.{◌≡◌, ◌⊎◌, ℕ, ◌<◌, List, [], length, slice_index, All, Contains}
use Rattle.iop_base.specs.Piece.{Piece}
use Rattle.iop_registry.specs.declared.registry.Entry.{Entry}
use Rattle.iop_sysmem.specs.BlockMap.{BlockMap, AreBlocks}
use Rattle.iop_sysmem.specs.declared.blocks.TheConstants.{KERNEL}
use Rattle.iop_stubs.specs.Stubs.{Memory, stub_line}
use Rattle.iop_stubs.specs.Binding.{IsSound}
use Rattle.iop_stubs.specs.declared.live_stub.Stub.{Stub}
use Rattle.iop_modload.specs.Loading.{loads}
use Rattle.iop_modload.specs.Finishing.{finishes}
use Rattle.iop_modload.specs.declared.image_place.ImagePlace.{ImagePlace}

-- a stub lives, or the line of its end at moment `t` is one of these
abbrev pub IsLiveOrTold : (t : ℕ) → Memory → List Piece → Stub → Type 0
IsLiveOrTold t memory pieces stub = Contains memory.live stub ⊎ Contains pieces (stub_line t stub)

-- sound memory, and its blocks
pub record HasBlocks (memory : Memory) (blocks : BlockMap) : Type 0 where
  pub sound : IsSound memory
  pub are_blocks : AreBlocks blocks
  pub same_size : blocks.size ≡ length memory.ram

-- what is kept at moment `t` from old memory to new, with these blocks, where these stubs were bound
-- and these lines given
pub record Keeps (t : ℕ) (old new : Memory) (blocks : BlockMap) (bound : List Stub)
    (pieces : List Piece) : Type 0 where
  pub whole : HasBlocks new blocks
  pub size : length new.ram ≡ length old.ram
  -- the bytes of the kernel's block are as they were
  pub kernel : (p : ℕ) → p < KERNEL.size → slice_index new.ram p ≡ slice_index old.ram p
  -- no stub lives but those that did, and those that were bound
  pub others : All (λ stub. Contains old.live stub ⊎ Contains bound stub) new.live
  -- each of these lives, or is told to have ended
  pub were_live : All (IsLiveOrTold t new pieces) old.live
  pub were_bound : All (IsLiveOrTold t new pieces) bound

abbrev pub LoadingKeepsMemory : Type 0
LoadingKeepsMemory =
    (t : ℕ) (memory : Memory) (blocks : BlockMap) (libraries : List Entry) (file : List ℕ)
    → HasBlocks memory blocks
    → let l = loads t memory blocks libraries file in
    Keeps t memory l.memory l.blocks l.bound l.pieces

abbrev pub FinishingKeepsMemory : Type 0
FinishingKeepsMemory =
    (t : ℕ) (memory : Memory) (blocks : BlockMap) (libraries : List Entry) (k : ℕ)
    (place : ImagePlace) (value : ℕ)
    → HasBlocks memory blocks
    → let l = finishes t memory blocks libraries k place value in
    Keeps t memory l.memory l.blocks [] l.pieces
