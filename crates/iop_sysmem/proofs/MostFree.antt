-- The greatest number of bytes that are free at one place.
use Rattle.std.proofs.Common.{◌≡◌, ◌/◌, ◌<◌, ◌≤◌, ℕ, zero, suc, Bool, true, MatchOption, Option, Some, None, is_some, length, refl, arith}
use mathlib.Core.Logic.{inl, inr}
use Rattle.std.specs.Prelude.{unwrap_or}
use Rattle.std.proofs.lemmas.Bool.{some_since}
use Rattle.iop_base.specs.BlockSizes.{block_len}
use Rattle.iop_sysmem.specs.BlockMap.{BlockMap, block_at, block_of, AreBlocks}
use Rattle.iop_sysmem.specs.Placing.{AreApart, IsFree, HasNoFree, IsLeastFree, IsMostFree}
use Rattle.iop_sysmem.specs.Allocating.{place_for, most_free}
use Rattle.iop_sysmem.proofs.Multiples.{Passes, greatest_found}
use Rattle.iop_sysmem.proofs.Finding.{least_free}
use Rattle.iop_sysmem.proofs.Changing.{behind_kernel}

module _ (map : BlockMap) (blocks : AreBlocks map) where
  no_byte_free : IsFree map 0 0
  no_byte_free = record {
    unit = refl;
    fits = omega arith;
    apart = λ i h. inr (omega arith);
  }

  -- what is free at a place is free there in whole units
  block_len_free : (len place : ℕ) → IsFree map len place → IsFree map (block_len len) place
  block_len_free len place free = record {
    unit = free.unit;
    fits =
        let unit = free.unit in let fits = free.fits in let sized = blocks.sized in omega arith;
    apart = λ i h. apart i h (free.apart i h);
  }
    where
      apart : (i : ℕ) → i < length map.used → AreApart (block_of map i) (block_at place len) →
          AreApart (block_of map i) (block_at place (block_len len))
      apart i h (inl before) = inl before
      apart i h (inr behind) =
          inr (let unit = free.unit in let start = blocks.starts i h in omega arith)

  abbrev has_place : ℕ → Bool
  has_place len = is_some (place_for map 0 len 0)

  abbrev HasPlace : ℕ → Type 0
  HasPlace len = Passes has_place 0 (map.size / 256) len

  has_place_of_free : (len place : ℕ) → 0 < len → IsFree map len place → HasPlace (block_len len)
  has_place_of_free len place some free =
      let whole = block_len_free len place free in
      record {
        unit = omega arith;
        low = omega arith;
        high =
            let fits = whole.fits in let sized = blocks.sized in
            let kernel = behind_kernel map (block_len len) place blocks (omega arith) whole in
            omega arith;
        pass =
            some_since (place_for map 0 (block_len len) 0) _ _
            (least_free map blocks (block_len len) (omega arith)) (λ none. none place whole);
      }

  free_of_has_place : (len : ℕ) → HasPlace len → (place : ℕ) × IsFree map len place
  free_of_has_place zero has = (0, no_byte_free)
  free_of_has_place (suc len) has =
      of_found _ (least_free map blocks (suc len) (omega arith)) has.pass
    where
      of_found : (o : Option ℕ) →
          MatchOption o (HasNoFree map (suc len)) (IsLeastFree map (suc len)) →
          is_some o ≡ true → (place : ℕ) × IsFree map (suc len) place
      of_found None none e = absurd (cc)
      of_found (Some place) least e = (place, least.0)

  most_of : (o : Option ℕ) →
      MatchOption o ((x : ℕ) → HasPlace x → ⊥)
      (λ x. HasPlace x × ((y : ℕ) → HasPlace y → y ≤ x)) → IsMostFree map (unwrap_or o 0)
  most_of None none = record {
    place = 0;
    free = no_byte_free;
    most = λ other at free. no_more other at free;
  }
    where
      no_more : (other at : ℕ) → IsFree map other at → other ≤ 0
      no_more zero at free = omega arith
      no_more (suc n) at free =
          absurd (none _ (has_place_of_free (suc n) at (omega arith) free))
  most_of (Some len) greatest = record {
    place = (free_of_has_place len greatest.0).0;
    free = (free_of_has_place len greatest.0).1;
    most = λ other at free. no_more other at free;
  }
    where
      no_more : (other at : ℕ) → IsFree map other at → other ≤ len
      no_more zero at free = omega arith
      no_more (suc n) at free =
          let below = greatest.1 _ (has_place_of_free (suc n) at (omega arith) free) in omega arith

pub most_free-most : (map : BlockMap) → AreBlocks map → IsMostFree map (most_free map)
unfolding most_free
most_free-most map blocks =
    most_of map blocks _ (greatest_found (has_place map blocks) (map.size / 256))

-- no other number is
pub most_free-is : (map : BlockMap) → AreBlocks map → (most : ℕ) → IsMostFree map most →
    most ≡ most_free map
most_free-is map blocks most is =
    let found = most_free-most map blocks in
    let up = is.most _ _ found.free in
    let down = found.most _ _ is.free in
    omega arith
