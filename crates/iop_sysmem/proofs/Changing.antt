-- What one block more, or one less, leaves of the blocks.
use Rattle.std.proofs.Common.{◌≡◌, ◌+◌, ◌-◌, ◌*◌, ◌%◌, ◌<◌, ◌≤◌, ℕ, zero, suc, Bool, true, false, nat_lt, List, [], ◌∷◌, length, slice_index_or, refl, sym, ap, subst, arith}
use mathlib.Core.Logic.{inl, inr}
use Rattle.std.proofs.lemmas.Bool.{ltb-true, ltb-false}
use Rattle.std.specs.List.{insert}
use Rattle.iop_base.specs.BlockSizes.{block_len}
use Rattle.iop_base.specs.declared.blocks.TheConstants.{BLOCK_UNIT}
use Rattle.iop_sysmem.specs.BlockMap.{BlockMap, block_at, no_block, block_of, end_of, IsBlockSize, AreBlocks, insert_block}
use Rattle.iop_sysmem.specs.Placing.{AreApart, IsFree, ModeTakes}
use Rattle.iop_sysmem.specs.declared.block.Block.{Block}
use Rattle.iop_sysmem.specs.declared.blocks.TheConstants.{KERNEL}

-- each block takes a unit at least, so that the start of the k-th is at least k units
pub start_at_least : (map : BlockMap) → AreBlocks map → (k : ℕ) → k < length map.used →
    256 * k ≤ (block_of map k).start
start_at_least map blocks zero h = omega arith
start_at_least map blocks (suc k) h =
    let before = start_at_least map blocks k (omega arith) in
    let order = blocks.order k (suc k) (omega arith) h in
    let size = blocks.sizes k (omega arith) in
    omega arith

pub insert_block-is : (xs : List Block) (block : Block) (i : ℕ) → i ≤ length xs →
    ((k : ℕ) → k < i → (slice_index_or xs k no_block).start < block.start) →
    (i < length xs → block.start < (slice_index_or xs i no_block).start) →
    insert_block block xs ≡ insert xs i block
insert_block-is [] block zero h before behind = refl
insert_block-is [] block (suc i) h before behind = absurd (omega arith)
insert_block-is (x ∷ xs) block zero h before behind = grind (arith, behind (omega arith))
insert_block-is (x ∷ xs) block (suc i) h before behind =
    grind (
      arith,
      before 0 (omega arith),
      insert_block-is xs block i (omega arith) (λ k g. before (suc k) (omega arith))
          (λ g. behind (omega arith)),
    )

-- the map lacks the block of this index, which is not the kernel's
pub record IsWithout (old new : BlockMap) (i : ℕ) : Type 0 where
  pub same_size : new.size ≡ old.size
  pub shorter : length new.used + 1 ≡ length old.used
  pub some : 0 < i
  pub in_list : i < length old.used
  pub below : (k : ℕ) → k < i → block_of new k ≡ block_of old k
  pub above : (k : ℕ) → i ≤ k → block_of new k ≡ block_of old (k + 1)

module _ (old new : BlockMap) (blocks : AreBlocks old) (i : ℕ) (is : IsWithout old new i) where
  -- the index that a block had
  abbrev was : ℕ → Bool → ℕ
  was k true = k
  was k false = k + 1

  is_was : (k : ℕ) (b : Bool) → nat_lt k i ≡ b → block_of new k ≡ block_of old (was k b)
  is_was k true e = is.below k (ltb-true _ _ e)
  is_was k false e = is.above k (ltb-false _ _ e)

  was_in : (k : ℕ) (b : Bool) → k < length new.used → was k b < length old.used
  was_in k true h = omega arith
  was_in k false h = omega arith

  was_less : (j k : ℕ) (b d : Bool) → nat_lt j i ≡ b → nat_lt k i ≡ d → j < k → was j b < was k d
  was_less j k true true e f h = h
  was_less j k true false e f h = omega arith
  was_less j k false true e f h =
      let l = ltb-true k i f in let g = ltb-false j i e in absurd (omega arith)
  was_less j k false false e f h = omega arith

  of_old : (P : Block → Type 0) → ((n : ℕ) → n < length old.used → P (block_of old n)) → (k : ℕ) →
      k < length new.used → P (block_of new k)
  of_old P all k h =
      subst P (sym (is_was k (nat_lt k i) refl)) (all (was k (nat_lt k i))
      (was_in k (nat_lt k i) h))

  pub blocks_without : AreBlocks new
  blocks_without = record {
    some = omega arith;
    kernel = subst (λ (x : Block). x ≡ KERNEL) (sym (is.below 0 is.some)) blocks.kernel;
    starts = of_old (λ x. x.start % BLOCK_UNIT ≡ 0) blocks.starts;
    sizes = of_old (λ x. IsBlockSize x.size) blocks.sizes;
    order = λ j k less h.
        subst (λ (x : Block). end_of x ≤ (block_of new k).start) (sym (is_was j (nat_lt j i) refl))
        (subst (λ (x : Block). end_of (block_of old (was j (nat_lt j i))) ≤ x.start)
        (sym (is_was k (nat_lt k i) refl))
        (blocks.order _ _ (was_less j k _ _ refl refl less) (was_in k (nat_lt k i) h)));
    inside =
        subst (λ (n : ℕ). (k : ℕ) → k < length new.used → end_of (block_of new k) ≤ n)
        (sym is.same_size) (of_old (λ x. end_of x ≤ old.size) blocks.inside);
    sized = subst (λ (n : ℕ). n % BLOCK_UNIT ≡ 0) (sym is.same_size) blocks.sized;
  }

-- a free place that has the blocks before an index in front of it, and the others not
pub record CanStand (map : BlockMap) (i place len : ℕ) : Type 0 where
  pub free : IsFree map len place
  pub size : IsBlockSize len
  pub in_list : i ≤ length map.used
  pub before : (k : ℕ) → k < i → (block_of map k).start < place
  pub next : i < length map.used → place ≤ (block_of map i).start

-- the place is between them
module _ (map : BlockMap) (blocks : AreBlocks map) (i place len : ℕ)
    (stands : CanStand map i place len) where
  in_front : (k : ℕ) → AreApart (block_of map k) (block_at place len) →
      (block_of map k).start < place → end_of (block_of map k) ≤ place
  in_front k (inl h) less = h
  in_front k (inr h) less = absurd (omega arith)

  pub front : (k : ℕ) → k < i → end_of (block_of map k) ≤ place
  front k h = in_front k (stands.free.apart k (omega arith)) (stands.before k h)

  not_in_front : (k : ℕ) → 0 < (block_of map k).size →
      AreApart (block_of map k) (block_at place len) → place ≤ (block_of map k).start →
      place + len ≤ (block_of map k).start
  not_in_front k some (inl h) le = absurd (omega arith)
  not_in_front k some (inr h) le = h

  later : (k : ℕ) (b : Bool) → nat_lt i k ≡ b → i ≤ k → k < length map.used →
      place ≤ (block_of map k).start
  later k true e h g =
      let o = blocks.order i k (ltb-true _ _ e) g in
      let n = stands.next (omega arith) in omega arith
  later k false e h g =
      let same : i ≡ k = let l = ltb-false i k e in omega arith in
      subst (λ (n : ℕ). place ≤ (block_of map n).start) same (stands.next (omega arith))

  pub behind : (k : ℕ) → i ≤ k → k < length map.used → place + len ≤ (block_of map k).start
  behind k h g =
      not_in_front k (blocks.sizes k g).1 (stands.free.apart k g) (later k (nat_lt i k) refl h g)

  -- the kernel's block is in front of every stands.free place
  pub some_before : 0 < i
  some_before = positive i refl
    where
      positive : (n : ℕ) → n ≡ i → 0 < i
      positive zero e =
          let fits : place + len ≤ (block_of map 0).start = behind 0 (omega arith) blocks.some in
          let kernel : (block_of map 0).start ≡ 0 = ap (λ (x : Block). x.start) blocks.kernel in
          absurd (omega arith)
      positive (suc n) e = omega arith

  units_in_front : 256 * i ≤ place
  units_in_front = count i refl
    where
      count : (n : ℕ) → n ≡ i → 256 * n ≤ place
      count zero e = omega arith
      count (suc n) e =
          let start = start_at_least map blocks n (omega arith) in
          let size = blocks.sizes n (omega arith) in
          let order = front n (omega arith) in
          omega arith

  units_behind : (k : ℕ) → i + k < length map.used →
      256 * (i + k + 1) ≤ (block_of map (i + k)).start
  units_behind zero h =
      let same : i + 0 ≡ i = omega arith in
      subst (λ (n : ℕ). 256 * (n + 1) ≤ (block_of map n).start) (sym same)
      (let o = behind i (omega arith) (omega arith) in let f = units_in_front in omega arith)
  units_behind (suc k) h =
      let before = units_behind k (omega arith) in
      let order = blocks.order (i + k) (i + suc k) (omega arith) h in
      let size = blocks.sizes (i + k) (omega arith) in
      omega arith

  -- there is room for one block more
  pub room : 256 * (length map.used + 1) ≤ map.size
  room = count (length map.used - i) refl
    where
      count : (n : ℕ) → n ≡ length map.used - i → 256 * (length map.used + 1) ≤ map.size
      count zero e = let f = units_in_front in let g = stands.free.fits in omega arith
      count (suc n) e =
          let last : i + n + 1 ≡ length map.used = omega arith in
          let start = units_behind n (omega arith) in
          let size = blocks.sizes (i + n) (omega arith) in
          let inside = blocks.inside (i + n) (omega arith) in
          omega arith

  -- the ranges with the new one at its index
  pub with_index : insert_block (block_at place len) map.used
      ≡ insert map.used i (block_at place len)
  with_index =
      insert_block-is map.used (block_at place len) i stands.in_list stands.before
      (λ g. strictly g (behind i (omega arith) g))
    where
      strictly : i < length map.used → place + len ≤ (block_of map i).start →
          place < (block_of map i).start
      strictly g h = omega arith

-- the map has one block more, at this index
pub record IsWith (old new : BlockMap) (i place len : ℕ) : Type 0 where
  pub same_size : new.size ≡ old.size
  pub longer : length new.used ≡ length old.used + 1
  pub at : block_of new i ≡ block_at place len
  pub below : (k : ℕ) → k < i → block_of new k ≡ block_of old k
  pub above : (k : ℕ) → i < k → block_of new k ≡ block_of old (k - 1)

module _ (old new : BlockMap) (blocks : AreBlocks old) (i place len : ℕ)
    (stands : CanStand old i place len) (is : IsWith old new i place len) where
  each : (P : Block → Type 0) → P (block_at place len) →
      ((n : ℕ) → n < length old.used → P (block_of old n)) → (k : ℕ) (b d : Bool) → nat_lt k i ≡ b →
      nat_lt i k ≡ d → k < length new.used → P (block_of new k)
  each P here all k true d e f h =
      let l = ltb-true k i e in subst P (sym (is.below k (ltb-true _ _ e))) (all k (omega arith))
  each P here all k false true e f h =
      let l = ltb-true i k f in
      subst P (sym (is.above k (ltb-true _ _ f))) (all (k - 1) (omega arith))
  each P here all k false false e f h =
      let same : k ≡ i = let l = ltb-false k i e in let g = ltb-false i k f in omega arith in
      subst (λ (n : ℕ). P (block_of new n)) (sym same) (subst P (sym is.at) here)

  all_of : (P : Block → Type 0) → P (block_at place len) →
      ((n : ℕ) → n < length old.used → P (block_of old n)) → (k : ℕ) → k < length new.used →
      P (block_of new k)
  all_of P here all k h = each P here all k (nat_lt k i) (nat_lt i k) refl refl h

  -- what the later of two ranges is, where the earlier is in front of the new one, is the new one,
  -- or is behind old blocks i place len stands it
  later_of_front : (j k : ℕ) (b d : Bool) → nat_lt k i ≡ b → nat_lt i k ≡ d → j < k → j < i →
      k < length new.used → end_of (block_of old j) ≤ (block_of new k).start
  later_of_front j k true d e f less early h =
      let l = ltb-true k i e in
      subst (λ (x : Block). end_of (block_of old j) ≤ x.start) (sym (is.below k l))
      (blocks.order j k less (omega arith))
  later_of_front j k false true e f less early h =
      let l = ltb-true i k f in
      subst (λ (x : Block). end_of (block_of old j) ≤ x.start) (sym (is.above k l))
      (blocks.order j (k - 1) (omega arith) (omega arith))
  later_of_front j k false false e f less early h =
      let same : k ≡ i = let l = ltb-false k i e in let g = ltb-false i k f in omega arith in
      subst (λ (n : ℕ). end_of (block_of old j) ≤ (block_of new n).start) (sym same)
      (subst (λ (x : Block). end_of (block_of old j) ≤ x.start) (sym is.at)
      (front old blocks i place len stands j early))

  in_order : (j k : ℕ) (b d : Bool) → nat_lt j i ≡ b → nat_lt i j ≡ d → j < k →
      k < length new.used → end_of (block_of new j) ≤ (block_of new k).start
  in_order j k true d e f less h =
      let l = ltb-true j i e in
      subst (λ (x : Block). end_of x ≤ (block_of new k).start) (sym (is.below j l))
      (later_of_front j k (nat_lt k i) (nat_lt i k) refl refl less l h)
  in_order j k false true e f less h =
      let l = ltb-true i j f in
      subst (λ (x : Block). end_of x ≤ (block_of new k).start) (sym (is.above j l))
      (subst (λ (x : Block). end_of (block_of old (j - 1)) ≤ x.start)
      (sym (is.above k (omega arith))) (blocks.order (j - 1) (k - 1) (omega arith)
      (omega arith)))
  in_order j k false false e f less h =
      let same : j ≡ i = let l = ltb-false j i e in let g = ltb-false i j f in omega arith in
      subst (λ (n : ℕ). end_of (block_of new n) ≤ (block_of new k).start) (sym same)
      (subst (λ (x : Block). end_of x ≤ (block_of new k).start) (sym is.at)
      (subst (λ (x : Block). place + len ≤ x.start) (sym (is.above k (omega arith)))
      (behind old blocks i place len stands (k - 1) (omega arith) (omega arith))))

  pub blocks_with : AreBlocks new
  blocks_with = record {
    some = omega arith;
    kernel =
        subst (λ (x : Block). x ≡ KERNEL) (sym
        (is.below 0 (some_before old blocks i place len stands))) blocks.kernel;
    starts = all_of (λ x. x.start % BLOCK_UNIT ≡ 0) stands.free.unit blocks.starts;
    sizes = all_of (λ x. IsBlockSize x.size) stands.size blocks.sizes;
    order = λ j k less h. in_order j k (nat_lt j i) (nat_lt i j) refl refl less h;
    inside =
        subst (λ (n : ℕ). (k : ℕ) → k < length new.used → end_of (block_of new k) ≤ n)
        (sym is.same_size) (all_of (λ x. end_of x ≤ old.size) stands.free.fits blocks.inside);
    sized = subst (λ (n : ℕ). n % BLOCK_UNIT ≡ 0) (sym is.same_size) blocks.sized;
  }

-- the place that a mode takes is free
pub taken_is_free : (map : BlockMap) (mode len at place : ℕ) → ModeTakes map mode len at place →
    IsFree map len place
taken_is_free map zero len at place h = h.0
taken_is_free map (suc zero) len at place h = h.0
taken_is_free map (suc (suc zero)) len at place h = h.1
taken_is_free map (suc (suc (suc mode))) len at place h = absurd h

-- what has a byte is free behind the kernel's block alone
pub behind_kernel : (map : BlockMap) (len place : ℕ) → AreBlocks map → 0 < len →
    IsFree map len place → KERNEL.size ≤ place
behind_kernel map len place blocks some free = behind (free.apart 0 blocks.some)
  where
    behind : AreApart (block_of map 0) (block_at place len) → KERNEL.size ≤ place
    behind (inl h) = subst (λ (x : Block). end_of x ≤ place) blocks.kernel h
    behind (inr h) =
        let e : (block_of map 0).start ≡ 0 = ap (λ (x : Block). x.start) blocks.kernel in
        absurd (omega arith)

pub is_positive : (map : BlockMap) (mode size at place : ℕ) → AreBlocks map → 0 < size →
    ModeTakes map mode (block_len size) at place → place ≡ 0 → ⊥
is_positive map mode size at place blocks some h e =
    let free = taken_is_free map mode (block_len size) at place h in
    let kernel = behind_kernel map (block_len size) place blocks (omega arith) free in
    omega arith
