-- A block put behind all others leaves blocks, and there is room for it. All of them put back in
-- their order are the blocks that they were.
use Rattle.std.proofs.Common.{◌≡◌, ◌+◌, ◌-◌, ◌*◌, ◌%◌, ◌==◌, ◌<◌, ◌≤◌, ℕ, nat_le, nat_lt, if◌then◌else◌, Bool, true, false, Option, Some, None, List, [], ◌∷◌, ◌++◌, length, drop, slice_index_or, append-nil, refl, sym, ap, ◌∙◌, subst, arith}
use Rattle.std.proofs.lemmas.Bool.Decides.{nat_tests}
use Rattle.std.proofs.lemmas.Bool.{and_parts, and_from, leb-true, le-leb, ltb-true, lt-ltb, eqb-true, eq-eqb}
use Rattle.std.proofs.lemmas.Grind.{length_at_push}
use Rattle.std.proofs.lemmas.List.{get_or_append_left, length-append}
use Rattle.std.proofs.Math.Seq.{get_or-append_seam, append_snoc}
use Rattle.iop_base.specs.declared.blocks.TheConstants.{BLOCK_UNIT}
use Rattle.iop_sysmem.specs.BlockMap.{BlockMap, no_block, block_of, end_of, IsBlockSize, AreBlocks}
use Rattle.iop_sysmem.specs.Restoring.{last_end, may_follow, with_last, with_all}
use Rattle.iop_sysmem.specs.Laws.{BlocksArePutBack}
use Rattle.iop_sysmem.specs.declared.block.Block.{Block}
use Rattle.iop_sysmem.specs.declared.blocks.TheConstants.{KERNEL}
use Rattle.iop_sysmem.proofs.Changing.{start_at_least}

-- what the test of a block says
pub record Follows (map : BlockMap) (block : Block) : Type 0 where
  pub behind : last_end map ≤ block.start
  pub start : block.start % BLOCK_UNIT ≡ 0
  pub some : 0 < block.size
  pub units : block.size % BLOCK_UNIT ≡ 0
  pub inside : end_of block ≤ map.size

follows : (map : BlockMap) (block : Block) → may_follow map block ≡ true → Follows map block
follows map block may =
    let inside = and_parts _ (nat_le (end_of block) map.size) may in
    let units = and_parts _ (block.size % BLOCK_UNIT == 0) inside.0 in
    let some = and_parts _ (nat_lt 0 block.size) units.0 in
    let start = and_parts _ (block.start % BLOCK_UNIT == 0) some.0 in
    record {
      behind = leb-true _ _ start.0;
      start = eqb-true _ _ start.1;
      some = ltb-true _ _ some.1;
      units = eqb-true _ _ units.1;
      inside = leb-true _ _ inside.1;
    }

-- what the call answers, which sees the blocks as a map
pub asked : {map seen : BlockMap} {answer : Bool} (block : Block) → map ≡ seen
    → answer ≡ may_follow seen block → answer ≡ true → may_follow map block ≡ true
asked block same is may = ap (λ (m : BlockMap). may_follow m block) same ∙ sym is ∙ may

may : (map : BlockMap) (block : Block) → Follows map block → may_follow map block ≡ true
may map block f =
    and_from _ _ (and_from _ _ (and_from _ _ (and_from _ _ (le-leb _ _ f.behind)
    (eq-eqb _ _ f.start)) (lt-ltb _ _ f.some)) (eq-eqb _ _ f.units)) (le-leb _ _ f.inside)

module _ (map : BlockMap) (block : Block) (blocks : AreBlocks map) (f : Follows map block) where
  abbrev n : ℕ
  n = length map.used

  abbrev new : BlockMap
  new = with_last map block

  longer : length new.used ≡ n + 1
  longer = omega (arith, (length_at_push map.used block).1)

  -- each block is an old one or the last
  old : (k : ℕ) → k < n → block_of new k ≡ block_of map k
  old k below = get_or_append_left map.used (block ∷ []) no_block k below

  last : block_of new n ≡ block
  last = get_or-append_seam map.used block [] no_block

  -- what holds of each old one and of the last holds of all
  each : (P : Block → Type 0) → ((k : ℕ) → k < n → P (block_of map k)) → P block
      → (k : ℕ) → k < length new.used → P (block_of new k)
  each P olds own k below = by (nat_lt k n) refl
    where
      by : (b : Bool) → nat_lt k n ≡ b → P (block_of new k)
      by true is =
          let less : k < n = grind (arith, nat_tests, is) in
          subst P (sym (old k less)) (olds k less)
      by false is =
          let same : n ≡ k = grind (arith, nat_tests, is, longer, below) in
          subst (λ (m : ℕ). P (block_of new m)) same (subst P (sym last) own)

  -- every old one ends where the last one ends, or before
  ends : (k : ℕ) → k < n → end_of (block_of map k) ≤ last_end map
  ends k below = by (k == n - 1) refl
    where
      by : (b : Bool) → (k == n - 1) ≡ b → end_of (block_of map k) ≤ last_end map
      by true is =
          let same : n - 1 ≡ k = grind (arith, nat_tests, is) in
          subst (λ (m : ℕ). end_of (block_of map k) ≤ end_of (block_of map m)) (sym same)
          (omega arith)
      by false is =
          let less : k < n - 1 = grind (arith, nat_tests, is, below) in
          let order = blocks.order k (n - 1) less (omega (arith, below)) in
          omega (arith, order)

  order : (i j : ℕ) → i < j → j < length new.used
      → end_of (block_of new i) ≤ (block_of new j).start
  order i j less below =
      let is_old : i < n = omega (arith, less, below, longer) in
      subst (λ (x : Block). end_of x ≤ (block_of new j).start) (sym (old i is_old))
      (by (nat_lt j n) refl is_old)
    where
      by : (b : Bool) → nat_lt j n ≡ b → i < n
          → end_of (block_of map i) ≤ (block_of new j).start
      by true is is_old =
          let before : j < n = grind (arith, nat_tests, is) in
          subst (λ (x : Block). end_of (block_of map i) ≤ x.start) (sym (old j before))
          (blocks.order i j less before)
      by false is is_old =
          let same : n ≡ j = grind (arith, nat_tests, is, longer, below) in
          let e = ends i is_old in
          subst (λ (m : ℕ). end_of (block_of map i) ≤ (block_of new m).start) same
          (subst (λ (x : Block). end_of (block_of map i) ≤ x.start) (sym last)
          (omega (arith, e, f.behind)))

  pub last-blocks : AreBlocks new
  last-blocks = record {
    some = omega (arith, longer);
    kernel = subst (λ (x : Block). x ≡ KERNEL) (sym (old 0 blocks.some)) blocks.kernel;
    starts = each (λ x. x.start % BLOCK_UNIT ≡ 0) blocks.starts f.start;
    sizes = each (λ x. IsBlockSize x.size) blocks.sizes (f.units, f.some);
    order = order;
    inside = each (λ x. end_of x ≤ map.size) blocks.inside f.inside;
    sized = blocks.sized;
  }

  -- each block takes a unit at least
  pub last-room : BLOCK_UNIT * n < map.size
  last-room =
      let starts = start_at_least map blocks (n - 1) (omega (arith, blocks.some)) in
      let size = blocks.sizes (n - 1) (omega (arith, blocks.some)) in
      omega (arith, starts, size.0, size.1, f.behind, f.some, f.inside, blocks.some)

pub put_back-blocks : (map : BlockMap) (block : Block) → AreBlocks map
    → may_follow map block ≡ true → AreBlocks (with_last map block)
put_back-blocks map block blocks may = last-blocks map block blocks (follows map block may)

pub put_back-room : (map : BlockMap) (block : Block) → AreBlocks map
    → may_follow map block ≡ true → BLOCK_UNIT * length map.used < map.size
put_back-room map block blocks may = last-room map block blocks (follows map block may)

-- a block behind others, of which the kernel's is the first, and those behind it
module _ (size : ℕ) (before : List Block) (block : Block) (later : List Block)
    (some : 0 < length before)
    (blocks : AreBlocks (record { size = size; used = before ++ block ∷ later })) where
  abbrev all : BlockMap
  all = record { size = size; used = before ++ block ∷ later }

  abbrev place : ℕ
  place = length before

  within : place < length all.used
  within = omega (arith, length-append before (block ∷ later))

  here : block_of all place ≡ block
  here = get_or-append_seam before block later no_block

  last_before : block_of all (place - 1) ≡ slice_index_or before (place - 1) no_block
  last_before =
      get_or_append_left before (block ∷ later) no_block (place - 1) (omega (arith, some))

  behind : Follows (record { size = size; used = before }) block
  behind = record {
    behind =
        subst (λ (x : Block). end_of x ≤ block.start) last_before
        (subst (λ (x : Block). end_of (block_of all (place - 1)) ≤ x.start) here
        (blocks.order (place - 1) place (omega (arith, some)) within));
    start = subst (λ (x : Block). x.start % BLOCK_UNIT ≡ 0) here (blocks.starts place within);
    some = subst (λ (x : Block). 0 < x.size) here (blocks.sizes place within).1;
    units = subst (λ (x : Block). x.size % BLOCK_UNIT ≡ 0) here (blocks.sizes place within).0;
    inside = subst (λ (x : Block). end_of x ≤ size) here (blocks.inside place within);
  }

abbrev with_used : ℕ → List Block → Option BlockMap
with_used size used = Some (record { size = size; used = used })

put_behind : (size : ℕ) (before later : List Block) → 0 < length before
    → AreBlocks (record { size = size; used = before ++ later })
    → with_all (record { size = size; used = before }) later ≡ with_used size (before ++ later)
put_behind size before [] some blocks = ap (with_used size) (sym (append-nil before))
put_behind size before (block ∷ later) some blocks =
    let moved = append_snoc before block later in
    let map : BlockMap = record { size = size; used = before } in
    ap (λ (b : Bool). if b then with_all (with_last map block) later else None)
    (may map block (behind size before block later some blocks))
    ∙ put_behind size (before ++ block ∷ []) later
    (omega (arith, (length_at_push before block).1))
    (subst (λ (used : List Block). AreBlocks (record { size = size; used = used })) (sym moved)
    blocks)
    ∙ ap (with_used size) moved

-- the law, of any list that the blocks are
put_all : (map : BlockMap) → AreBlocks map → (used : List Block) → used ≡ map.used
    → with_all (record map { used = KERNEL ∷ [] }) (drop 1 used) ≡ with_used map.size used
put_all map blocks [] is = absurd (omega (arith, ap length is, blocks.some))
put_all map blocks (first ∷ later) is =
    let kernel : KERNEL ≡ first =
    sym (subst (λ (used : List Block). slice_index_or used 0 no_block ≡ KERNEL) (sym is)
    blocks.kernel) in
    let all : KERNEL ∷ later ≡ first ∷ later = ap (λ (x : Block). x ∷ later) kernel in
    put_behind map.size (KERNEL ∷ []) later (omega arith)
    (subst (λ (used : List Block). AreBlocks (record map { used = used })) (sym (all ∙ is)) blocks)
    ∙ ap (with_used map.size) all

pub put_back-all : BlocksArePutBack
put_back-all map blocks = put_all map blocks map.used refl
