-- What an allocation and a freeing leave are blocks.
use Rattle.std.proofs.Common.{◌≡◌, ℕ, zero, suc, ◌+◌, ◌-◌, ◌<◌, ◌≤◌, nat_lt, Option, Some, None, List, length, refl, sym, subst, arith}
use Rattle.std.specs.Prelude.{IfSome, option_and_then}
use Rattle.std.specs.List.{insert, remove, prefix_len}
use Rattle.std.proofs.lemmas.Bool.{ltb-true, ltb-false}
use Rattle.std.proofs.lemmas.List.Edits.{get_or-insert_at, get_or-insert_below, get_or-insert_above, length-insert, get_or-remove_below, get_or-remove_above, length-remove}
use Rattle.std.proofs.lemmas.List.Quantifiers.{position-Some}
use Rattle.std.proofs.lemmas.List.Sums.{prefix_len-le-length, prefix_len_passes, prefix_len_stops}
use Rattle.iop_base.specs.BlockSizes.{block_len}
use Rattle.iop_base.specs.Places.{phys}
use Rattle.iop_sysmem.specs.BlockMap.{BlockMap, block_at, no_block, block_of, IsBlockSize, AreBlocks, with_block, unless_kernel, index_at, freeing_of, freeing}
use Rattle.iop_sysmem.specs.Placing.{IsFree}
use Rattle.iop_sysmem.specs.Allocating.{allocating}
use Rattle.iop_sysmem.specs.declared.block.Block.{Block}
use Rattle.iop_sysmem.proofs.Changing.{blocks_without, CanStand, IsWith, blocks_with, with_index, taken_is_free}
use Rattle.iop_sysmem.proofs.Finding.{allocates}

-- the blocks of a memory of the same size
pub record AreStill (old new : BlockMap) : Type 0 where
  pub are_blocks : AreBlocks new
  pub size : new.size ≡ old.size

module _ (map : BlockMap) (blocks : AreBlocks map) where
  module _ (place len : ℕ) (free : IsFree map len place) (sized : IsBlockSize len) where
    abbrev index : ℕ
    index = prefix_len (λ x. nat_lt x.start place) map.used

    abbrev with_it : BlockMap
    with_it = record map { used = insert map.used index (block_at place len) }

    inside : index ≤ length map.used
    inside = prefix_len-le-length (λ x. nat_lt x.start place) map.used

    stands : CanStand map index place len
    stands = record {
      free = free;
      size = sized;
      in_list = inside;
      before = λ k lt. ltb-true _ _
          (prefix_len_passes (λ x. nat_lt x.start place) map.used k no_block lt);
      next = λ lt. ltb-false _ _
          (prefix_len_stops (λ x. nat_lt x.start place) map.used no_block lt);
    }

    is_with : IsWith map with_it index place len
    is_with = record {
      same_size = refl;
      longer = length-insert map.used index (block_at place len) inside;
      at = get_or-insert_at map.used index (block_at place len) no_block inside;
      below = λ k lt.
          get_or-insert_below map.used index (block_at place len) no_block k lt inside;
      above = λ k lt.
          let before : k - 1 + 1 ≡ k = omega arith in
          subst (λ (n : ℕ). block_of with_it n ≡ block_of map (k - 1)) before
          (get_or-insert_above map.used index (block_at place len) no_block (k - 1) (omega arith)
          inside);
    }

    AreBlocks-with_block : AreBlocks (with_block map place len)
    AreBlocks-with_block =
        subst (λ (used : List Block). AreBlocks (record map { used = used }))
        (sym (with_index map blocks index place len stands))
        (blocks_with map with_it blocks index place len stands is_with)

  -- without the block of an index that is not the kernel's
  still-freeing_of : (o : Option ℕ) → IfSome o (λ i. i < length map.used)
      → AreStill map (freeing_of map (unless_kernel o)).1
  still-freeing_of None below = record { are_blocks = blocks; size = refl }
  still-freeing_of (Some zero) below = record { are_blocks = blocks; size = refl }
  still-freeing_of (Some (suc i)) below = record {
    are_blocks = blocks_without map (record map { used = remove map.used (suc i) }) blocks (suc i)
        (record {
          same_size = refl;
          shorter = length-remove map.used (suc i) below;
          some = omega arith;
          in_list = below;
          below = λ k lt. get_or-remove_below map.used (suc i) no_block k lt below;
          above = λ k le. get_or-remove_above map.used (suc i) no_block k le below;
        });
    size = refl;
  }

  index_below : (place : ℕ) (o : Option ℕ) → index_at map place ≡ o
      → IfSome o (λ i. i < length map.used)
  index_below place None e = tt
  index_below place (Some i) e = (position-Some _ map.used i no_block e).0

  named_below : (o : Option ℕ)
      → IfSome (option_and_then (index_at map) o) (λ i. i < length map.used)
  named_below None = tt
  named_below (Some place) = index_below place (index_at map place) refl

  pub still-freeing : (at : ℕ) → AreStill map (freeing map at).1
  still-freeing at =
      still-freeing_of (option_and_then (index_at map) (phys map.size at))
      (named_below (phys map.size at))

  module _ (mode size at : ℕ) where
    still_by : (place : ℕ) → (allocating map mode size at).0 ≡ place
        → AreStill map (allocating map mode size at).1
    still_by zero e =
        let same = ((allocates map blocks mode size at).none e).0 in
        subst (AreStill map) (sym same) (record { are_blocks = blocks; size = refl })
    still_by (suc n) e =
        let some : 0 < (allocating map mode size at).0 = omega arith in
        let taken = (allocates map blocks mode size at).place some in
        let place = (allocating map mode size at).0 in
        let free = taken_is_free map mode (block_len size) at place taken.1 in
        let sized : IsBlockSize (block_len size) =
        (omega arith, let h : 0 < size = taken.0 in omega arith) in
        subst (AreStill map) (sym taken.2) (record {
          are_blocks = AreBlocks-with_block place (block_len size) free sized;
          size = refl;
        })

    pub still-allocating : AreStill map (allocating map mode size at).1
    still-allocating = still_by (allocating map mode size at).0 refl
