-- A walk over the used ranges in their order, and the gaps between them.
use Rattle.std.proofs.Common.{zero, suc, max, take, [], ◌∷◌, slice_index_or, ◌≡◌, ◌+◌, ◌-◌, ◌%◌, ◌<◌, ◌≤◌, ℕ, Bool, true, false, nat_lt, MatchOption, Option, Some, None, List, length, refl, ◌∙◌, sym, subst, arith}
use mathlib.Core.Logic.{inl, inr}
use Rattle.std.proofs.lemmas.Bool.{ltb-true, ltb-false}
use Rattle.std.specs.Ordering.{ord_max, nat_cmp}
use Rattle.std.proofs.lemmas.Bool.Decides.{nat_tests}
use Rattle.iop_sysmem.specs.BlockMap.{BlockMap, block_at, no_block, block_of, end_of, AreBlocks, used_bytes}
use Rattle.iop_sysmem.specs.Placing.{AreApart, IsFree, IsLeastFree, IsMostFree}
use Rattle.iop_sysmem.specs.declared.block.Block.{Block}

-- the first i blocks end at or before the start, and the others begin there or later
pub record Walk (map : BlockMap) (i start : ℕ) : Type 0 where
  pub blocks : AreBlocks map
  pub unit : start % 256 ≡ 0
  pub within : start ≤ map.size
  pub behind : (k : ℕ) → k < i → k < length map.used → end_of (block_of map k) ≤ start
  pub before : (k : ℕ) → i ≤ k → k < length map.used → start ≤ (block_of map k).start

pub begins : (map : BlockMap) → AreBlocks map → Walk map 0 0
begins map blocks = record {
  blocks = blocks;
  unit = refl;
  within = omega arith;
  behind = λ k h g. absurd (omega arith);
  before = λ k h g. omega arith;
}

module _ (map : BlockMap) (i start : ℕ) (walk : Walk map i start) where
  behind_next : (k : ℕ) (b : Bool) → nat_lt k i ≡ b → k < i + 1 → i < length map.used →
      k < length map.used → end_of (block_of map k) ≤ end_of (block_of map i)
  behind_next k true e h in_list g =
      let before = walk.blocks.order k i (ltb-true _ _ e) in_list in omega arith
  behind_next k false e h in_list g =
      let same : k ≡ i = let le = ltb-false k i e in omega arith in
      subst (λ (n : ℕ). end_of (block_of map n) ≤ end_of (block_of map i)) (sym same) (omega arith)

  pub moves : i < length map.used → Walk map (i + 1) (end_of (block_of map i))
  moves in_list = record {
    blocks = walk.blocks;
    unit =
        let s = walk.blocks.starts i in_list in
        let z = (walk.blocks.sizes i in_list).0 in omega arith;
    within = walk.blocks.inside i in_list;
    behind = λ k h g. behind_next k (nat_lt k i) refl h in_list g;
    before = λ k h g. walk.blocks.order i k (omega arith) g;
  }

  -- the gap in front of a block, or of the end of RAM
  pub record Gap (high : ℕ) : Type 0 where
    pub high_unit : high % 256 ≡ 0
    pub high_within : high ≤ map.size
    pub order : start ≤ high
    pub later : (k : ℕ) → i ≤ k → k < length map.used → high ≤ (block_of map k).start

  later_than : (k : ℕ) (b : Bool) → nat_lt i k ≡ b → i ≤ k → k < length map.used →
      (block_of map i).start ≤ (block_of map k).start
  later_than k true e h g = let o = walk.blocks.order i k (ltb-true _ _ e) g in omega arith
  later_than k false e h g =
      let same : i ≡ k = let le = ltb-false i k e in omega arith in
      subst (λ (n : ℕ). (block_of map i).start ≤ (block_of map n).start) same (omega arith)

  pub gap_here : i < length map.used → Gap (block_of map i).start
  gap_here in_list = record {
    high_unit = walk.blocks.starts i in_list;
    high_within = let e = walk.blocks.inside i in_list in omega arith;
    order = walk.before i (omega arith) in_list;
    later = λ k h g. later_than k (nat_lt i k) refl h g;
  }

  pub gap_last : length map.used ≤ i → Gap map.size
  gap_last over = record {
    high_unit = walk.blocks.sized;
    high_within = omega arith;
    order = walk.within;
    later = λ k h g. absurd (omega arith);
  }

  module _ (high : ℕ) (gap : Gap high) where
    apart_in : (len place k : ℕ) (b : Bool) → nat_lt k i ≡ b → start ≤ place → place + len ≤ high →
        k < length map.used → AreApart (block_of map k) (block_at place len)
    apart_in len place k true e low fits g =
        inl (let o = walk.behind k (ltb-true _ _ e) g in omega arith)
    apart_in len place k false e low fits g =
        inr (let o = gap.later k (ltb-false _ _ e) g in omega arith)

    pub free_in : (len place : ℕ) → place % 256 ≡ 0 → start ≤ place → place + len ≤ high →
        IsFree map len place
    free_in len place unit low fits = record {
      unit = unit;
      fits = let o = gap.high_within in omega arith;
      apart = λ k g. apart_in len place k (nat_lt k i) refl low fits g;
    }

module _ (map : BlockMap) (i start : ℕ) (walk : Walk map i start) (len : ℕ) where
  past_front : (q : ℕ) → IsFree map len q → i < length map.used → start ≤ q →
      (block_of map i).start < start + len → AreApart (block_of map i) (block_at q len) →
      end_of (block_of map i) ≤ q
  past_front q free in_list low short (inl h) = h
  past_front q free in_list low short (inr h) = absurd (omega arith)

  -- where the gap is too short, free places are behind the block
  pub past : i < length map.used → ((block_of map i).start - start < len) →
      ((q : ℕ) → IsFree map len q → start ≤ q) → (q : ℕ) → IsFree map len q →
      end_of (block_of map i) ≤ q
  past in_list short low q free =
      let o = walk.before i (omega arith) in_list in
      past_front q free in_list (low q free) (omega arith) (free.apart i in_list)

  pub end_is_short : i < length map.used → end_of (block_of map i) ≤ map.size
  end_is_short in_list = walk.blocks.inside i in_list

  -- the first gap that is long enough gives the least free place
  pub least : i < length map.used → len ≤ (block_of map i).start - start →
      ((q : ℕ) → IsFree map len q → start ≤ q) → IsLeastFree map len start
  least in_list fits low =
      let gap = gap_here map i start walk in_list in
      let order = gap.order in (
        free_in map i start walk (block_of map i).start gap len start walk.unit (omega arith)
            (omega arith),
        low,
      )

  pub least_last : length map.used ≤ i → len ≤ map.size - start →
      ((q : ℕ) → IsFree map len q → start ≤ q) → IsLeastFree map len start
  least_last over fits low =
      let order = walk.within in (
        free_in map i start walk map.size (gap_last map i start walk over) len start walk.unit
            (omega arith) (omega arith),
        low,
      )

-- memory as the fields hold it
pub same_map : (map : BlockMap) (size : ℕ) (used items : List Block) → items ≡ used →
    ◌≡◌ {A = BlockMap} (record { size = size; used = used }) map →
    ◌≡◌ {A = BlockMap} (record { size = size; used = items }) map
same_map map size used items e view =
    subst (λ (xs : List Block). ◌≡◌ {A = BlockMap} (record { size = size; used = xs }) map) (sym e)
    view

-- the greatest free place in front of the start
abbrev pub IsGreatestBefore : BlockMap → ℕ → ℕ → Option ℕ → Type 0
IsGreatestBefore map len start last =
    MatchOption last ((q : ℕ) → IsFree map len q → start ≤ q)
    (λ p. IsFree map len p × ((q : ℕ) → IsFree map len q → q < start → q ≤ p))

-- the most bytes that are free at one place in front of the start
abbrev pub IsMostBefore : BlockMap → ℕ → ℕ → Type 0
IsMostBefore map start most =
    ((place : ℕ) × IsFree map most place)
    × ((len q : ℕ) → IsFree map len q → q < start → len ≤ most)

module _ (map : BlockMap) (i start : ℕ) (walk : Walk map i start) (len : ℕ) where
  -- the last place of a gap is the greatest free one so far
  pub greatest_here : (last : Option ℕ) → len % 256 ≡ 0 → i < length map.used →
      len ≤ (block_of map i).start - start →
      IsGreatestBefore map len (end_of (block_of map i)) (Some ((block_of map i).start - len))
  greatest_here last unit in_list fits =
      let gap = gap_here map i start walk in_list in
      let order = gap.order in
      let high = gap.high_unit in
      let within = gap.high_within in (
        free_in map i start walk (block_of map i).start gap len ((block_of map i).start - len)
            (omega arith) (omega arith) (omega arith),
        λ q free low. in_front q (free.apart i in_list) low,
      )
    where
      in_front : (q : ℕ) → AreApart (block_of map i) (block_at q len) →
          q < end_of (block_of map i) → q ≤ (block_of map i).start - len
      in_front q (inl h) low = absurd (omega arith)
      in_front q (inr h) low = omega arith

module _ (map : BlockMap) (i start : ℕ) (walk : Walk map i start) (len : ℕ) where
  passed : (last : Option ℕ) → IsGreatestBefore map len start last →
      (block_of map i).start < start + len → i < length map.used →
      IsGreatestBefore map len (end_of (block_of map i)) last
  passed None none short in_list =
      past map i start walk len in_list (let o = walk.before i (omega arith) in_list in omega arith)
      none
  passed (Some p) best short in_list =
      (best.0, λ q free low. in_gap q free (free.apart i in_list) (nat_lt q start) refl low)
    where
      in_gap : (q : ℕ) → IsFree map len q → AreApart (block_of map i) (block_at q len) →
          (b : Bool) → nat_lt q start ≡ b → q < end_of (block_of map i) → q ≤ p
      in_gap q free apart true e low = best.1 q free (ltb-true _ _ e)
      in_gap q free (inl h) false e low = absurd (omega arith)
      in_gap q free (inr h) false e low = let l = ltb-false q start e in absurd (omega arith)

  pub passed_short : (last : Option ℕ) → IsGreatestBefore map len start last →
      (block_of map i).start - start < len → i < length map.used →
      IsGreatestBefore map len (end_of (block_of map i)) last
  passed_short last best short in_list =
      passed last best (let o = walk.before i (omega arith) in_list in omega arith) in_list

module _ (map : BlockMap) (i start : ℕ) (walk : Walk map i start) (most : ℕ)
    (best : IsMostBefore map start most) where
  -- the gap in front of high, and whatever is free below behind it
  more_in : (high behind : ℕ) → Gap map i start walk high →
      ((len q : ℕ) → IsFree map len q → start ≤ q → q < behind → q + len ≤ high) → (b : Bool) →
      nat_lt most (high - start) ≡ b → (n : ℕ) → n ≡ max most (high - start) →
      IsMostBefore map behind n
  more_in high behind gap fits true e n is =
      let l = ltb-true most (high - start) e in
      let order = gap.order in
      let same : n ≡ high - start = omega arith in
      subst (λ (m : ℕ). IsMostBefore map behind m) (sym same) (
        (
          start,
          free_in map i start walk high gap (high - start) start walk.unit (omega arith)
              (omega arith),
        ),
        λ len q free low. bound len q free low (nat_lt q start) refl,
      )
    where
      bound : (len q : ℕ) → IsFree map len q → q < behind → (d : Bool) → nat_lt q start ≡ d →
          len ≤ high - start
      bound len q free low true f =
          let h = best.1 len q free (ltb-true _ _ f) in
          let l = ltb-true most (high - start) e in omega arith
      bound len q free low false f =
          let h = fits len q free (ltb-false _ _ f) low in
          let g = ltb-false q start f in omega arith
  more_in high behind gap fits false e n is =
      let l = ltb-false most (high - start) e in
      let same : n ≡ most = omega arith in
      subst (λ (m : ℕ). IsMostBefore map behind m) (sym same)
      (best.0, λ len q free low. bound len q free low (nat_lt q start) refl)
    where
      bound : (len q : ℕ) → IsFree map len q → q < behind → (d : Bool) → nat_lt q start ≡ d →
          len ≤ most
      bound len q free low true f = best.1 len q free (ltb-true _ _ f)
      bound len q free low false f =
          let h = fits len q free (ltb-false _ _ f) low in
          let g = ltb-false q start f in let l = ltb-false most (high - start) e in omega arith

  in_front : (x : Block) (len q : ℕ) → AreApart x (block_at q len) → q < end_of x →
      q + len ≤ x.start
  in_front x len q (inl h) low = absurd (omega arith)
  in_front x len q (inr h) low = h

  pub more_here : i < length map.used → (n : ℕ) → n ≡ max most ((block_of map i).start - start) →
      IsMostBefore map (end_of (block_of map i)) n
  more_here in_list n is =
      more_in (block_of map i).start (end_of (block_of map i)) (gap_here map i start walk in_list)
      (λ len q free low high. in_front (block_of map i) len q (free.apart i in_list) high)
      (nat_lt most ((block_of map i).start - start)) refl n is

  pub more_last : length map.used ≤ i → (n : ℕ) → n ≡ max most (map.size - start) → IsMostFree map n
  more_last over n is =
      let all =
      more_in map.size (map.size + 1) (gap_last map i start walk over)
      (λ len q free low high. free.fits) (nat_lt most (map.size - start)) refl n is in
      record {
        place = all.0.0;
        free = all.0.1;
        most =
            λ other at free. all.1 other at free (let f = free.fits in omega arith);
      }

used_to_suc : (xs : List Block) (i : ℕ) → i < length xs →
    used_bytes (take (suc i) xs) ≡ used_bytes (take i xs) + (slice_index_or xs i no_block).size
used_to_suc [] i h = absurd (omega arith)
used_to_suc (x ∷ xs) zero h = grind (arith)
used_to_suc (x ∷ xs) (suc i) h = grind (arith, used_to_suc xs i (omega arith))

pub used_to : (xs : List Block) (i : ℕ) → i < length xs →
    used_bytes (take (i + 1) xs) ≡ used_bytes (take i xs) + (slice_index_or xs i no_block).size
used_to xs i h =
    let next : suc i ≡ i + 1 = omega arith in
    subst (λ (n : ℕ). used_bytes (take n xs)
    ≡ used_bytes (take i xs) + (slice_index_or xs i no_block).size) next (used_to_suc xs i h)

pub max_is : (a b n : ℕ) → n ≡ ord_max nat_cmp a b → n ≡ max a b
max_is a b n e = e ∙ grind (arith, nat_tests)
