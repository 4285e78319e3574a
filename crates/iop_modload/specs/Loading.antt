-- How a module comes into memory (ps2sdk: modload.h; the codes are those of its kerr.h). That the image
-- goes to the first free place, and the order of the refusals, are this project's own profile.
use Rattle.std.specs.Prelude.{◌≡◌, ◌⊎◌, ℕ, zero, suc, ◌+◌, ◌<◌, ◌≤◌, Some, Result, Ok, Err, List, [], slice_index, take, drop}
use Rattle.iop_base.specs.BlockSizes.{block_len}
use Rattle.iop_base.specs.Piece.{Piece}
use Rattle.iop_base.specs.declared.code.Code.{Code}
use Rattle.iop_base.specs.declared.code.TheConstants.Code.{NO_MEMORY}
use Rattle.irx_elf.specs.Parts.{Parts}
use Rattle.iop_registry.specs.declared.registry.Entry.{Entry}
use Rattle.iop_sysmem.specs.Allocating.{allocating}
use Rattle.iop_sysmem.specs.BlockMap.{BlockMap}
use Rattle.iop_sysmem.specs.Placing.{IsLeastFree}
use Rattle.iop_stubs.specs.Stubs.{Memory, after_store, remaining_stubs, stub_lines}
use Rattle.iop_stubs.specs.declared.live_stub.Stub.{Stub}
use Rattle.iop_linker.specs.Linking.{linking, linked_memory, code_of}
use Rattle.iop_linker.specs.declared.link_fault.LinkFault.{LinkFault}
use Rattle.iop_modload.specs.Modules.{image_at, module_of_file}
use Rattle.iop_modload.specs.declared.loaded.Loaded.{Loaded}

-- what the loading of a module comes to
pub record Loads : Type 0 where
  -- where it stands, or the code with which it is refused
  pub answer : Result Loaded Code
  -- the memory and the blocks that are left
  pub memory : Memory
  pub blocks : BlockMap
  -- the lines that are given
  pub pieces : List Piece
  -- the stubs that were bound
  pub bound : List Stub

-- the module stands at a base
abbrev pub loaded_at : Parts → (base : ℕ) → Loaded
loaded_at parts base = record {
  place = record { base = base; len = parts.length };
  entry = parts.info.entry;
  gp = parts.info.gp;
}

-- moment `t`, at which a module is loaded among these blocks and libraries
module _ (t : ℕ) (memory : Memory) (blocks : BlockMap) (libraries : List Entry) where
  -- it is refused before its image is copied: nothing changes
  abbrev pub refused : Code → Loads
  refused code = record {
    answer = Err code;
    memory = memory;
    blocks = blocks;
    pieces = [];
    bound = [];
  }

  -- memory in which the image was copied to a base
  abbrev pub with_image : Parts → (base : ℕ) → Memory
  with_image parts base = after_store memory (Some base) (image_at parts base)

  -- its text was linked, or it is refused and its block is free again
  abbrev pub links_it : Parts → (base : ℕ) → BlockMap → Result (List Stub) LinkFault → Loads
  links_it parts base taken (Ok stubs) = record {
    answer = Ok (loaded_at parts base);
    memory = linked_memory (with_image parts base) stubs;
    blocks = taken;
    pieces = stub_lines t base parts.length memory.live;
    bound = stubs;
  }
  links_it parts base taken (Err fault) = record {
    answer = Err (code_of fault);
    memory = with_image parts base;
    blocks = blocks;
    pieces = stub_lines t base parts.length memory.live;
    bound = [];
  }

  -- by the place of its block, 0 where there is none, and the blocks with it
  abbrev pub loads_at : Parts → ℕ × BlockMap → Loads
  loads_at parts (zero, taken) = refused NO_MEMORY
  loads_at parts (suc n, taken) =
      links_it parts (suc n) taken
      (linking (with_image parts (suc n)) libraries (suc n) parts.info.text_size)

  -- by what its file says
  abbrev pub loads_parts : Result Parts Code → Loads
  loads_parts (Err code) = refused code
  loads_parts (Ok parts) = loads_at parts (allocating blocks 0 parts.length 0)

  -- the loading of a module from the bytes of its file
  unfoldable pub loads : List ℕ → Loads
  loads file = loads_parts (module_of_file file)

-- what a module leaves whose text is refused: its relocated image in the least place that was free for its
-- block, and all other memory as it was; the live stubs that had a byte in the image are told and no
-- longer live
pub record LeavesImage (t : ℕ) (old new : Memory) (blocks : BlockMap) (parts : Parts)
    (pieces : List Piece) : Type 0 where
  pub base : ℕ
  pub least : IsLeastFree blocks (block_len parts.length) base
  pub image : take parts.length (drop base new.ram) ≡ image_at parts base
  pub others : (p : ℕ) → (p < base) ⊎ (base + parts.length ≤ p)
      → slice_index new.ram p ≡ slice_index old.ram p
  pub live : new.live ≡ remaining_stubs base parts.length old.live
  pub lines : pieces ≡ stub_lines t base parts.length old.live

-- what a refused module leaves of memory: all of it, where its file is refused or no place is free for its
-- block; else its image
abbrev pub LeavesRefused : (t : ℕ) (file : List ℕ) (old new : Memory) → BlockMap → List Piece
    → Type 0
LeavesRefused t file old new blocks pieces =
    ((new ≡ old) × (pieces ≡ []))
    ⊎ ((parts : Parts) × (module_of_file file ≡ Ok parts)
    × LeavesImage t old new blocks parts pieces)
