-- What a finishing keeps.
use Rattle.std.proofs.Common.{◌≡◌, inl, inr, ℕ, Bool, true, false, if◌then◌else◌, Some, List, [], ◌∷◌, replicate, refl, ◌∙◌, subst, arith}
use Rattle.std.proofs.lemmas.List.{length-replicate}
use Rattle.std.proofs.lemmas.List.Elements.{All-weaker}
use Rattle.iop_base.specs.BlockSizes.{block_len}
use Rattle.iop_base.specs.Keeping.{kept_of}
use Rattle.iop_base.specs.Piece.{Piece, Traced}
use Rattle.iop_base.specs.Text.{line_bytes}
use Rattle.iop_base.specs.declared.kept.Kept.{Kept}
use Rattle.iop_base.specs.declared.kept.Kept.TheVariants.{Resident, Removed, Removable}
use Rattle.iop_base.specs.declared.line.Line.TheVariants.{Returned}
use Rattle.iop_registry.specs.declared.registry.Entry.{Entry}
use Rattle.iop_sysmem.specs.BlockMap.{BlockMap, freeing}
use Rattle.iop_stubs.specs.Stubs.{Memory, after_store, stub_line, stub_lines}
use Rattle.iop_stubs.specs.declared.live_stub.Stub.{Stub}
use Rattle.iop_modload.specs.Finishing.{Leaves, has_block, stays, removes, keeps, finishes}
use Rattle.iop_modload.specs.Laws.{IsLiveOrTold, HasBlocks, Keeps}
use Rattle.iop_modload.specs.declared.image_place.ImagePlace.{ImagePlace}
use Rattle.iop_modload.proofs.Blocks.{still-freeing}
use Rattle.iop_modload.proofs.Keeping.{in_tail, keeps-nothing, keeps-store}
use Rattle.iop_modload.proofs.Standing.{StandsAt, tells-has_block, stands-behind, stands-inside}

-- the same with one line more before the others
keeps-line : (t : ℕ) (old new : Memory) (blocks : BlockMap) (bound : List Stub)
    (piece : Piece) (pieces : List Piece) → Keeps t old new blocks bound pieces
    → Keeps t old new blocks bound (piece ∷ pieces)
keeps-line t old new blocks bound piece pieces h =
    let More : Stub → Type 0 = IsLiveOrTold t new (piece ∷ pieces) in
    let more : (stub : Stub) → IsLiveOrTold t new pieces stub → More stub = λ stub o.
    elim o as (λ _. More stub) [
      | inl x ↦ inl x
      | inr x ↦ inr (in_tail piece (stub_line t stub) pieces x)
    ] in
    record {
      whole = h.whole;
      size = h.size;
      kernel = h.kernel;
      others = h.others;
      were_live = All-weaker (IsLiveOrTold t new pieces) More more old.live h.were_live;
      were_bound = All-weaker (IsLiveOrTold t new pieces) More more bound h.were_bound;
    }

module _ (t : ℕ) (memory : Memory) (blocks : BlockMap) (libraries : List Entry)
    (h : HasBlocks memory blocks) where
  abbrev KeepsBy : Leaves → Type 0
  KeepsBy l = Keeps t memory l.memory l.blocks [] l.pieces

  removes-keeps : (base size : ℕ) → StandsAt blocks base size
      → KeepsBy (removes t memory blocks libraries base size)
  removes-keeps base size stands =
      let long = length-replicate size 0 in
      let still = still-freeing blocks h.are_blocks base in
      let inside = stands-inside blocks base size h.are_blocks stands in
      subst (λ (n : ℕ). Keeps t memory (after_store memory (Some base) (replicate size 0))
      (freeing blocks base).1 [] (stub_lines t base n memory.live)) long
      (keeps-store t memory (freeing blocks base).1 base (replicate size 0)
      (record {
        sound = h.sound;
        are_blocks = still.are_blocks;
        same_size = still.size ∙ h.same_size;
      }) (stands-behind blocks base size h.are_blocks stands)
      (omega (arith, long, inside, h.same_size)))

  keeps_by : (base size : ℕ) (b : Bool) → has_block blocks base size ≡ b
      → KeepsBy (if b then removes t memory blocks libraries base size
      else stays t memory blocks libraries)
  keeps_by base size true e =
      removes-keeps base size ((tells-has_block blocks base size).0 e)
  keeps_by base size false e = keeps-nothing t memory blocks h

  pub keeps-keeps : (m : ImagePlace) (kept : Kept) → KeepsBy (keeps t memory blocks libraries m kept)
  keeps-keeps m Resident = keeps-nothing t memory blocks h
  keeps-keeps m Removable = keeps-nothing t memory blocks h
  keeps-keeps m Removed =
      keeps_by m.base (block_len m.len) (has_block blocks m.base (block_len m.len)) refl

  pub finishing_keeps : (k : ℕ) (m : ImagePlace) (value : ℕ)
      → KeepsBy (finishes t memory blocks libraries k m value)
  unfolding finishes
  finishing_keeps k m value =
      let after = keeps t memory blocks libraries m (kept_of value) in
      keeps-line t memory after.memory after.blocks [] (Traced (line_bytes t
      (Returned k value (kept_of value)))) after.pieces (keeps-keeps m (kept_of value))
