-- What holds after a pool of either kind is made on a block of memory.
use Rattle.std.proofs.Common.{◌≡◌, ℕ, ◌==◌, Bool, true, false, Option, Some, None, Result, Ok, Err, List, refl}
use Rattle.std.proofs.lemmas.Bool.{cond_both}
use Rattle.iop_base.specs.Piece.{Piece}
use Rattle.iop_base.specs.declared.code.Code.{Code}
use Rattle.iop_objects.specs.Objects.{has_room}
use Rattle.iop_pools.specs.Pools.{Pools}
use Rattle.iop_sysmem.specs.Allocating.{allocating}
use Rattle.iop_sysmem.specs.BlockMap.{BlockMap}
use Rattle.iop_kernel.specs.PoolServices.{block_at, takes_memory, makes_on, makes_pool}
use Rattle.iop_kernel.specs.Stacks.{owner_of, with_blocks}
use Rattle.iop_kernel.specs.System.{Core, Left, System}
use Rattle.iop_kernel.specs.declared.after.After.{After}
use Rattle.iop_kernel.specs.declared.pool_services.TheConstants.{FROM_BELOW}
use Rattle.iop_kernel.proofs.Walk.Moves.{EachMoves, OwnerEnds}
use Rattle.iop_kernel.proofs.Walk.Threads.{only}

module _ {P : System → List Piece → Type 0} {Q : After → System → List Piece → Type 0}
    {Asks : Type 0} {s : System} (e : EachMoves P Q Asks s) (makes : (base : ℕ) → Left Core) where
  -- it is made so on each block
  abbrev pub Makes : (bytes : ℕ) → Type 0
  Makes bytes =
      (base : ℕ) (left : BlockMap) → (base == 0) ≡ false
      → allocating s.blocks FROM_BELOW bytes 0 ≡ (base, left)
      → OwnerEnds Q s (with_blocks left (makes base))

  abbrev Goes : Option ℕ × BlockMap → Type 0
  Goes taken = OwnerEnds Q s (makes_on (owner_of s) makes taken)

  block_goes : (bytes : ℕ) → Makes bytes → (r : ℕ × BlockMap)
      → allocating s.blocks FROM_BELOW bytes 0 ≡ r → Goes (block_at s.blocks r)
  block_goes bytes made (base, left) is =
      cond_both (base == 0) (None, s.blocks) (Some base, left) Goes (λ none. only e _)
      (λ some. made base left some is)

  made_goes : (bytes : ℕ) → Makes bytes → (room : Bool) → Goes (takes_memory s.blocks room bytes)
  made_goes bytes made true =
      block_goes bytes made (allocating s.blocks FROM_BELOW bytes 0) refl
  made_goes bytes made false = only e _

  -- by how many bytes it has
  pub makes_goes : {W : Type 0} (pools : Pools W) (r : Result ℕ Code)
      → ((bytes : ℕ) → r ≡ Ok bytes → Makes bytes)
      → OwnerEnds Q s (makes_pool (owner_of s) makes pools r)
  makes_goes pools (Err code) made = only e _
  makes_goes pools (Ok bytes) made = made_goes bytes (made bytes refl) (has_room pools)
