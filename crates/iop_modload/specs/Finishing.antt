-- What becomes of a module after its return (ps2sdk: the results of a module's entry). That a module is
-- removed only where its block still stands, and what a removal does, is this project's own profile.
use Rattle.std.specs.Prelude.{ℕ, ◌==◌, Bool, ◌&&◌, not, if◌then◌else◌, Some, List, [], ◌∷◌, replicate}
use Rattle.std.specs.List.{list_any}
use Rattle.iop_base.specs.BlockSizes.{block_len}
use Rattle.iop_base.specs.Keeping.{kept_of}
use Rattle.iop_base.specs.Piece.{Piece, Traced}
use Rattle.iop_base.specs.Text.{line_bytes}
use Rattle.iop_base.specs.declared.kept.Kept.{Kept}
use Rattle.iop_base.specs.declared.kept.Kept.TheVariants.{Resident, Removed, Removable}
use Rattle.iop_base.specs.declared.line.Line.TheVariants.{Returned}
use Rattle.iop_registry.specs.Entries.{drop_range}
use Rattle.iop_registry.specs.declared.registry.Entry.{Entry}
use Rattle.iop_sysmem.specs.BlockMap.{BlockMap, freeing}
use Rattle.iop_stubs.specs.Stubs.{Memory, after_store, stub_lines}
use Rattle.iop_modload.specs.declared.image_place.ImagePlace.{ImagePlace}

-- what the return of a module leaves
pub record Leaves : Type 0 where
  pub memory : Memory
  pub blocks : BlockMap
  pub libraries : List Entry
  -- the lines that are given
  pub pieces : List Piece

-- whether a used block has this start and this size, and is not the kernel's
abbrev pub has_block : BlockMap → (start size : ℕ) → Bool
has_block blocks start size =
    not (start == 0) && list_any (λ block. block.start == start && block.size == size) blocks.used

-- moment `t`, at which a module returned among these blocks and libraries
module _ (t : ℕ) (memory : Memory) (blocks : BlockMap) (libraries : List Entry) where
  abbrev pub stays : Leaves
  stays = record { memory = memory; blocks = blocks; libraries = libraries; pieces = [] }

  -- a block is filled with zeros and freed, and the libraries whose tables lie in it are taken out
  abbrev pub removes : (base size : ℕ) → Leaves
  removes base size = record {
    memory = after_store memory (Some base) (replicate size 0);
    blocks = (freeing blocks base).1;
    libraries = drop_range libraries base size;
    pieces = stub_lines t base size memory.live;
  }

  -- a module that is not kept is removed, if its block still stands
  abbrev pub keeps : ImagePlace → Kept → Leaves
  keeps place Resident = stays
  keeps place Removable = stays
  keeps place Removed =
      if has_block blocks place.base (block_len place.len)
      then removes place.base (block_len place.len)
      else stays

  -- module `k`, whose image stands there, returned a value
  unfoldable pub finishes : (k : ℕ) → ImagePlace → (value : ℕ) → Leaves
  finishes k place value =
      let kept = kept_of value in
      let after = keeps place kept in
      record after { pieces = Traced (line_bytes t (Returned k value kept)) ∷ after.pieces }
