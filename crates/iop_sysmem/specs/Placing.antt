-- Which places are free, and which of them an allocation takes, said without a search. That each mode
-- takes the place that it does is this project's own profile.
use Rattle.std.specs.Prelude.{ℕ, zero, suc, ◌≡◌, ◌+◌, ◌%◌, ◌<◌, ◌≤◌, ◌⊎◌, Some, length}
use Rattle.iop_base.specs.BlockSizes.{block_len}
use Rattle.iop_base.specs.Places.{phys}
use Rattle.iop_base.specs.declared.blocks.TheConstants.{BLOCK_UNIT}
use Rattle.iop_sysmem.specs.BlockMap.{BlockMap, block_at, block_of, end_of, with_block}
use Rattle.iop_sysmem.specs.declared.block.Block.{Block}

-- one block ends before the other begins
abbrev pub AreApart : Block → Block → Type 0
AreApart x y = (end_of x ≤ y.start) ⊎ (end_of y ≤ x.start)

-- so many bytes are free at a place, where a block of them can stand
pub record IsFree (map : BlockMap) (len place : ℕ) : Type 0 where
  pub unit : place % BLOCK_UNIT ≡ 0
  pub fits : place + len ≤ map.size
  pub apart : (i : ℕ) → i < length map.used → AreApart (block_of map i) (block_at place len)

abbrev pub HasNoFree : BlockMap → ℕ → Type 0
HasNoFree map len = (place : ℕ) → IsFree map len place → ⊥

abbrev pub IsLeastFree : BlockMap → ℕ → ℕ → Type 0
IsLeastFree map len place =
    IsFree map len place × ((other : ℕ) → IsFree map len other → place ≤ other)

abbrev pub IsGreatestFree : BlockMap → ℕ → ℕ → Type 0
IsGreatestFree map len place =
    IsFree map len place × ((other : ℕ) → IsFree map len other → other ≤ place)

-- the address names this place, which is free
abbrev pub IsNamedFree : BlockMap → ℕ → ℕ → ℕ → Type 0
IsNamedFree map len at place = (phys map.size at ≡ Some place) × IsFree map len place

-- the place that a mode takes: the least free one, the greatest, or the one that the address names
abbrev pub ModeTakes : BlockMap → ℕ → ℕ → ℕ → ℕ → Type 0
ModeTakes map zero len at place = IsLeastFree map len place
ModeTakes map (suc zero) len at place = IsGreatestFree map len place
ModeTakes map (suc (suc zero)) len at place = IsNamedFree map len at place
ModeTakes map (suc (suc (suc mode))) len at place = ⊥

abbrev pub ModeTakesNone : BlockMap → ℕ → ℕ → ℕ → Type 0
ModeTakesNone map mode len at = (place : ℕ) → ModeTakes map mode len at place → ⊥

-- what an allocation answers and leaves: 0 and no change exactly where the size is 0 or the mode
-- takes no place
pub record Allocates (old new : BlockMap) (mode size at answer : ℕ) : Type 0 where
  pub place : 0 < answer →
      (0 < size) × ModeTakes old mode (block_len size) at answer
      × (new ≡ with_block old answer (block_len size))
  pub none : answer ≡ 0 → (new ≡ old) × (0 < size → ModeTakesNone old mode (block_len size) at)

-- the greatest number of bytes that are free at one place
pub record IsMostFree (map : BlockMap) (len : ℕ) : Type 0 where
  pub place : ℕ
  pub free : IsFree map len place
  pub most : (other at : ℕ) → IsFree map other at → other ≤ len
