-- What allocations and frees leave are blocks again.
use Rattle.std.proofs.Common.{◌≡◌, ◌+◌, ◌-◌, ◌<◌, ℕ, zero, suc, nat_lt, Option, Some, None, List, length, refl, sym, subst, arith}
use Rattle.std.specs.Prelude.{option_and_then}
use Rattle.std.specs.List.{insert, prefix_len}
use Rattle.std.proofs.lemmas.Bool.{ltb-true, ltb-false}
use Rattle.std.proofs.lemmas.List.Sums.{prefix_len-le-length, prefix_len_passes, prefix_len_stops}
use Rattle.std.proofs.lemmas.List.Edits.{length-insert, get_or-insert_at, get_or-insert_below, get_or-insert_above, length-remove, get_or-remove_below, get_or-remove_above}
use Rattle.std.proofs.lemmas.List.Quantifiers.{position-Some}
use Rattle.iop_base.specs.BlockSizes.{block_len}
use Rattle.iop_base.specs.Places.{phys}
use Rattle.iop_sysmem.specs.BlockMap.{BlockMap, block_at, no_block, block_of, IsBlockSize, AreBlocks, with_block, index_at, unless_kernel, without_block, freeing_of, freeing}
use Rattle.iop_sysmem.specs.Placing.{IsFree, Allocates}
use Rattle.iop_sysmem.specs.Allocating.{allocating}
use Rattle.iop_sysmem.specs.declared.block.Block.{Block}
use Rattle.iop_sysmem.proofs.Changing.{CanStand, IsWith, blocks_with, with_index, IsWithout, blocks_without, taken_is_free}
use Rattle.iop_sysmem.proofs.Finding.{allocates}

module _ (map : BlockMap) (blocks : AreBlocks map) (place len : ℕ) (free : IsFree map len place)
    (size : IsBlockSize len) where
  -- how many blocks are in front of the place
  abbrev index : ℕ
  index = prefix_len (λ x. nat_lt x.start place) map.used

  stands : CanStand map index place len
  stands = record {
    free = free;
    size = size;
    in_list = prefix_len-le-length _ map.used;
    before = λ k h. ltb-true _ _ (prefix_len_passes _ map.used k no_block h);
    next = λ h. ltb-false _ _ (prefix_len_stops _ map.used no_block h);
  }

  abbrev IsNew : List Block → Type 0
  IsNew used = IsWith map (record map { used = used }) index place len

  is_with : IsNew (insert map.used index (block_at place len))
  is_with =
      let in_list = stands.in_list in
      record {
        same_size = refl;
        longer = length-insert map.used index (block_at place len) in_list;
        at = get_or-insert_at map.used index (block_at place len) no_block in_list;
        below = λ k h.
            get_or-insert_below map.used index (block_at place len) no_block k h in_list;
        above = λ k h. above k h;
      }
    where
      above : (k : ℕ) → index < k →
          block_of (record map { used = insert map.used index (block_at place len) }) k
          ≡ block_of map (k - 1)
      above k h =
          let here : k - 1 + 1 ≡ k = omega arith in
          subst (λ (n : ℕ).
          block_of (record map { used = insert map.used index (block_at place len) }) n
          ≡ block_of map (k - 1)) here
          (get_or-insert_above map.used index (block_at place len) no_block (k - 1) (omega arith)
          stands.in_list)

  -- a free range made a block
  pub with_block-blocks : AreBlocks (with_block map place len)
  with_block-blocks =
      blocks_with map _ blocks index place len stands
      (subst IsNew (sym (with_index map blocks index place len stands)) is_with)

module _ (map : BlockMap) (blocks : AreBlocks map) where
  without : (i : ℕ) → 0 < i → i < length map.used → IsWithout map (without_block map i) i
  without i some in_list = record {
    same_size = refl;
    shorter = length-remove map.used i in_list;
    some = some;
    in_list = in_list;
    below = λ k h. get_or-remove_below map.used i no_block k h in_list;
    above = λ k h. get_or-remove_above map.used i no_block k h in_list;
  }

  -- a block freed that is not the kernel's
  pub without_block-blocks : (i : ℕ) → 0 < i → i < length map.used → AreBlocks (without_block map i)
  without_block-blocks i some in_list = blocks_without map _ blocks i (without i some in_list)

  index_in_list : (place : Option ℕ) (i : ℕ) → option_and_then (index_at map) place ≡ Some i →
      i < length map.used
  index_in_list None i e = absurd (cc)
  index_in_list (Some place) i e = (position-Some _ map.used i no_block e).0

  freed_at : (index : Option ℕ) → ((i : ℕ) → index ≡ Some i → i < length map.used) →
      AreBlocks (freeing_of map (unless_kernel index)).1
  freed_at None in_list = blocks
  freed_at (Some zero) in_list = blocks
  freed_at (Some (suc i)) in_list =
      without_block-blocks (suc i) (omega arith) (in_list (suc i) refl)

  pub freeing-blocks : (at : ℕ) → AreBlocks (freeing map at).1
  freeing-blocks at = freed_at _ (index_in_list (phys map.size at))

  pub allocating-blocks : (mode size at : ℕ) → AreBlocks (allocating map mode size at).1
  allocating-blocks mode size at = by _ refl
    where
      does : Allocates map (allocating map mode size at).1 mode size at (allocating map mode size at).0
      does = allocates map blocks mode size at

      by : (place : ℕ) → (allocating map mode size at).0 ≡ place →
          AreBlocks (allocating map mode size at).1
      by zero e = subst AreBlocks (sym (does.none e).0) blocks
      by (suc place) e =
          let taken = does.place (omega arith) in
          subst AreBlocks (sym taken.2) (with_block-blocks map blocks _ (block_len size)
          (taken_is_free map mode (block_len size) at _ taken.1)
          (omega arith, let some = taken.0 in omega arith))
