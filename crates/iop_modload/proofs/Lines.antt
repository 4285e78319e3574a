-- Each line of a loading, and each behind the first of a module's end, tells of a stub.
use Rattle.std.proofs.Common.{ℕ, zero, suc, Result, Ok, Err, List, get_or}
use Rattle.std.specs.Prelude.{All}
use Rattle.std.proofs.lemmas.Bool.{cond_both}
use Rattle.std.proofs.lemmas.List.Elements.{All-nil, All-cons, All-map}
use Rattle.iop_base.specs.BlockSizes.{block_len}
use Rattle.iop_base.specs.Keeping.{kept_of}
use Rattle.iop_base.specs.Piece.{Piece, Traced}
use Rattle.iop_base.specs.Text.{line_bytes}
use Rattle.iop_base.specs.declared.code.Code.{Code}
use Rattle.iop_base.specs.declared.kept.Kept.{Kept}
use Rattle.iop_base.specs.declared.kept.Kept.TheVariants.{Resident, Removed, Removable}
use Rattle.iop_base.specs.declared.line.Line.TheVariants.{Returned}
use Rattle.irx_elf.specs.Parts.{Parts}
use Rattle.iop_registry.specs.declared.registry.Entry.{Entry}
use Rattle.iop_sysmem.specs.Allocating.{allocating}
use Rattle.iop_sysmem.specs.BlockMap.{BlockMap}
use Rattle.iop_stubs.specs.Stubs.{Memory, met_stubs, stub_line, stub_lines}
use Rattle.iop_stubs.specs.declared.live_stub.Stub.{Stub}
use Rattle.iop_linker.specs.declared.link_fault.LinkFault.{LinkFault}
use Rattle.iop_modload.specs.Finishing.{Leaves, has_block, keeps, finishes}
use Rattle.iop_modload.specs.Loading.{links_it, loads_at, loads_parts, loads}
use Rattle.iop_modload.specs.Modules.{module_of_file}
use Rattle.iop_modload.specs.declared.image_place.ImagePlace.{ImagePlace}

-- what holds of the line of each stub
module _ (t : ℕ) (memory : Memory) (blocks : BlockMap) (libraries : List Entry)
    (P : Piece → Type 0) (tells : (stub : Stub) → P (stub_line t stub)) where
  -- holds of the lines of a store
  stubs_tell : (place len : ℕ) → All P (stub_lines t place len memory.live)
  stubs_tell place len =
      let met = met_stubs place len memory.live in
      All-map P _ met (λ k d below. tells (get_or met k d))

  links_tell : (parts : Parts) (base : ℕ) (taken : BlockMap) (r : Result (List Stub) LinkFault)
      → All P (links_it t memory blocks libraries parts base taken r).pieces
  links_tell parts base taken (Ok stubs) = stubs_tell base parts.length
  links_tell parts base taken (Err fault) = stubs_tell base parts.length

  at_tells : (parts : Parts) (r : ℕ × BlockMap)
      → All P (loads_at t memory blocks libraries parts r).pieces
  at_tells parts (zero, taken) = All-nil P
  at_tells parts (suc n, taken) = links_tell parts (suc n) taken _

  parts_tell : (r : Result Parts Code)
      → All P (loads_parts t memory blocks libraries r).pieces
  parts_tell (Err code) = All-nil P
  parts_tell (Ok parts) = at_tells parts (allocating blocks 0 parts.length 0)

  -- of those of a loading
  pub loads_tell : (file : List ℕ) → All P (loads t memory blocks libraries file).pieces
  unfolding loads
  loads_tell file = parts_tell (module_of_file file)

  keeps_tell : (m : ImagePlace) (kept : Kept) → All P (keeps t memory blocks libraries m kept).pieces
  keeps_tell m Resident = All-nil P
  keeps_tell m Removable = All-nil P
  keeps_tell m Removed =
      let size = block_len m.len in
      cond_both (has_block blocks m.base size) _ _ (λ (left : Leaves). All P left.pieces)
      (λ found. stubs_tell m.base size) (λ gone. All-nil P)

  -- and of those of the end of a module, if it holds of the line of its return
  pub finishes_tell : (k : ℕ) (m : ImagePlace) (value : ℕ)
      → P (Traced (line_bytes t (Returned k value (kept_of value))))
      → All P (finishes t memory blocks libraries k m value).pieces
  unfolding finishes
  finishes_tell k m value returned =
      All-cons P _ (keeps t memory blocks libraries m (kept_of value)).pieces returned
      (keeps_tell m (kept_of value))
