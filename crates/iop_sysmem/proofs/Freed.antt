-- To free what was allocated gives the blocks back.
use Rattle.std.proofs.Common.{◌≡◌, ◌+◌, ◌/◌, ◌%◌, ◌^◌, ◌<◌, ◌≤◌, ◌==◌, nat_lt, ℕ, zero, suc, Bool, true, false, Some, List, [], ◌∷◌, length, slice_index_or, refl, sym, ◌∙◌, ap, subst, arith}
use mathlib.Core.Logic.{inl, inr}
use Rattle.std.specs.List.{position_or_len, remove}
use Rattle.std.proofs.lemmas.Bool.Decides.{nat_tests}
use Rattle.std.proofs.lemmas.Grind.{common_steps}
use Rattle.iop_base.specs.BlockSizes.{block_len}
use Rattle.iop_base.specs.Places.{phys}
use Rattle.iop_base.specs.declared.code.TheConstants.Code.{OK}
use Rattle.iop_sysmem.specs.BlockMap.{BlockMap, block_at, no_block, block_of, AreBlocks, insert_block, with_block, index_at, freeing}
use Rattle.iop_sysmem.specs.Placing.{AreApart, IsFree}
use Rattle.iop_sysmem.specs.Allocating.{allocating}
use Rattle.iop_sysmem.specs.declared.block.Block.{Block}
use Rattle.iop_sysmem.proofs.Changing.{taken_is_free, behind_kernel}
use Rattle.iop_sysmem.proofs.Finding.{allocates}

module _ (place len : ℕ) where
  abbrev starts_here : Block → Bool
  starts_here x = x.start == place

  abbrev with_it : List Block → List Block
  with_it xs = insert_block (block_at place len) xs

  abbrev index_in : List Block → ℕ
  index_in xs = position_or_len starts_here (with_it xs)

  -- the block that was put into the list is found there, and without it the list is as it was
  record IsTaken (xs : List Block) : Type 0 where
    found : index_in xs < length (with_it xs)
    rest : remove (with_it xs) (index_in xs) ≡ xs

  abbrev NoneStarts : List Block → Type 0
  NoneStarts xs = (k : ℕ) → k < length xs → (slice_index_or xs k no_block).start ≡ place → ⊥

  taken_behind : (x : Block) (xs : List Block) → (x.start ≡ place → ⊥) → IsTaken xs →
      (b : Bool) → nat_lt place x.start ≡ b → IsTaken (x ∷ xs)
  taken_behind x xs other taken true e = record {
    found = grind (arith, nat_tests, common_steps);
    rest = grind (arith, nat_tests, common_steps);
  }
  taken_behind x xs other taken false e =
      let here : starts_here x ≡ false = grind (arith, nat_tests) in
      let next : 1 + index_in xs ≡ suc (index_in xs) = omega arith in
      record {
        found = rw (e, here) (let found = taken.found in omega arith);
        rest = rw (e, here) (rw next (ap (λ ys. x ∷ ys) taken.rest));
      }

  taken_out : (xs : List Block) → NoneStarts xs → IsTaken xs
  taken_out [] none = record {
    found = grind (arith, nat_tests, common_steps);
    rest = grind (arith, nat_tests, common_steps);
  }
  taken_out (x ∷ xs) none =
      taken_behind x xs (none 0 (omega arith)) (taken_out xs (λ k h. none (suc k) (omega arith)))
      _ refl

  behind_first : (xs : List Block) → 0 < length xs →
      (slice_index_or xs 0 no_block).start < place → 0 < index_in xs
  behind_first [] some before = absurd (omega arith)
  behind_first (x ∷ xs) some before =
      let behind : nat_lt place x.start ≡ false = grind (arith, nat_tests) in
      let other : starts_here x ≡ false = grind (arith, nat_tests) in
      rw (behind, other) (omega arith)

module _ (map : BlockMap) (blocks : AreBlocks map) (len place : ℕ) (some : 0 < len)
    (free : IsFree map len place) where
  none_starts : NoneStarts place len map.used
  none_starts k h e = meets (free.apart k h)
    where
      meets : AreApart (block_of map k) (block_at place len) → ⊥
      meets (inl before) = let size = blocks.sizes k h in omega arith
      meets (inr behind) = omega arith

  is_place : map.size ≤ 2 ^ 29 → phys map.size place ≡ Some place
  is_place small =
      let fits = free.fits in
      let segment : place / 0x20000000 ≡ 0 = omega arith in
      let same : place % 0x20000000 ≡ place = omega arith in
      let inside : nat_lt place map.size ≡ true = grind (arith, nat_tests) in
      rw (segment, same, inside) refl

  -- the kernel's block is in front of it
  not_first : 0 < index_in place len map.used
  not_first =
      let kernel : (block_of map 0).start ≡ 0 = ap (λ x. x.start) blocks.kernel in
      let behind = behind_kernel map len place blocks some free in
      behind_first place len map.used blocks.some (omega arith)

  index_is : index_at (with_block map place len) place ≡ Some (index_in place len map.used)
  index_is =
      let found : nat_lt (index_in place len map.used) (length (with_it place len map.used)) ≡ true =
      let found = (taken_out place len map.used none_starts).found in grind (arith, nat_tests) in
      rw found refl

  pub freeing-with_block : map.size ≤ 2 ^ 29 → freeing (with_block map place len) place ≡ (OK, map)
  freeing-with_block small = at_index (index_in place len map.used) refl
    where
      at_index : (i : ℕ) → index_in place len map.used ≡ i →
          freeing (with_block map place len) place ≡ (OK, map)
      at_index zero e = let kernel = not_first in absurd (omega arith)
      at_index (suc i) e =
          let rest : remove (with_it place len map.used) (suc i) ≡ map.used =
          subst (λ (n : ℕ). remove (with_it place len map.used) n ≡ map.used) e
          (taken_out place len map.used none_starts).rest in
          let index = index_is ∙ ap Some e in
          rw (is_place small, index) (ap (λ used. (OK, record map { used = used })) rest)

-- what an allocation takes is free, is freed, and is then as it was
module _ (map : BlockMap) (blocks : AreBlocks map) (mode size at : ℕ) where
  abbrev place : ℕ
  place = (allocating map mode size at).0

  pub allocated-free : 0 < place → IsFree map (block_len size) place
  allocated-free some =
      taken_is_free map mode (block_len size) at place
      ((allocates map blocks mode size at).place some).1

  pub freeing-allocated : map.size ≤ 2 ^ 29 → 0 < place →
      freeing (allocating map mode size at).1 place ≡ (OK, map)
  freeing-allocated small some =
      let taken = (allocates map blocks mode size at).place some in
      subst (λ (m : BlockMap). freeing m place ≡ (OK, map)) (sym taken.2)
      (freeing-with_block map blocks (block_len size) place (let h = taken.0 in omega arith)
      (allocated-free some) small)
