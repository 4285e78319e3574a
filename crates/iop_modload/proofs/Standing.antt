-- Whether the block of a module still stands.
use Rattle.std.proofs.Common.{◌≡◌, ℕ, zero, suc, ◌+◌, ◌-◌, ◌/◌, ◌%◌, ◌^◌, ◌<◌, ◌≤◌, nat_le, nat_lt, ◌==◌, Bool, true, false, not, ◌&&◌, Option, Some, None, option_map, unwrap_or, length, refl, ap, sym, ◌∙◌, subst, arith}
use Rattle.std.specs.Prelude.{option_and_then}
use Rattle.std.specs.Bool.{Decides}
use Rattle.std.specs.List.{list_any, position_or_len}
use Rattle.std.proofs.lemmas.Bool.{and_parts, eqb-true}
use Rattle.std.proofs.lemmas.Bool.Decides.{nat_tests, same_from_decides}
use Rattle.std.proofs.lemmas.List.{get_or_default}
use Rattle.std.proofs.lemmas.List.Folds.{Any-from_list_any, list_any_at}
use Rattle.std.proofs.lemmas.List.Quantifiers.{position-Some}
use Rattle.std.proofs.lemmas.List.Sums.{position_or_len_is}
use Rattle.iop_base.specs.BlockSizes.{block_len}
use Rattle.iop_base.specs.Places.{phys}
use Rattle.iop_sysmem.specs.BlockMap.{BlockMap, block_at, no_block, block_of, end_of, AreBlocks, index_holding, holder}
use Rattle.iop_sysmem.specs.declared.block.Block.{Block}
use Rattle.iop_sysmem.specs.declared.blocks.TheConstants.{KERNEL, NOWHERE}
use Rattle.iop_modload.specs.Finishing.{has_block}

-- a place in a memory that is so small is its own address
pub phys-place : (size place : ℕ) → size ≤ 2 ^ 29 → place < size → phys size place ≡ Some place
phys-place size place small below =
    let segment : place / 0x20000000 ≡ 0 = omega arith in
    let same : place % 0x20000000 ≡ place = omega arith in
    let inside : nat_lt place size ≡ true = grind (arith, nat_tests) in
    rw (segment, same, inside) refl

-- a used block has this start and this size, and is not the kernel's
pub record StandsAt (map : BlockMap) (start size : ℕ) : Type 0 where
  pub some : 0 < start
  pub index : ℕ
  pub below : index < length map.used
  pub is : block_of map index ≡ block_at start size

block-by : (block : Block) (start size : ℕ) → block.start ≡ start → block.size ≡ size
    → block ≡ block_at start size
block-by block start size e f =
    ap (λ (s : ℕ). block_at s block.size) e ∙ ap (λ (s : ℕ). block_at start s) f

module _ (map : BlockMap) (start size : ℕ) where
  abbrev is_it : Block → Bool
  is_it block = block.start == start && block.size == size

  stands_of : has_block map start size ≡ true → StandsAt map start size
  stands_of e =
      let both = and_parts (not (start == 0)) (list_any is_it map.used) e in
      let any = Any-from_list_any is_it map.used both.1 in
      let parts = and_parts (any.1.start == start) (any.1.size == size) any.4 in
      record {
        some = let h : not (start == 0) ≡ true = both.0 in grind (arith, nat_tests);
        index = any.0;
        below = any.2;
        is = get_or_default map.used any.0 no_block any.1 any.2 ∙ any.3
            ∙ block-by any.1 start size (eqb-true _ _ parts.0) (eqb-true _ _ parts.1);
      }

  of_stands : StandsAt map start size → has_block map start size ≡ true
  of_stands h =
      let here : is_it (block_at start size) ≡ true = grind (arith, nat_tests) in
      let some : not (start == 0) ≡ true = let s = h.some in grind (arith, nat_tests) in
      let any = list_any_at is_it map.used h.index no_block h.below (ap is_it h.is ∙ here) in
      rw (some, any) refl

  module _ (blocks : AreBlocks map) (h : StandsAt map start size) where
    behind_by : (i : ℕ) → i ≡ h.index → KERNEL.size ≤ start
    behind_by zero e =
        let kernel = ap (λ (x : Block). x.start) blocks.kernel in
        let at : (block_of map 0).start ≡ start =
        ap (λ (i : ℕ). (block_of map i).start) e ∙ ap (λ (x : Block). x.start) h.is in
        absurd (omega (arith, h.some))
    behind_by (suc i) e =
        let order = blocks.order 0 h.index (omega arith) h.below in
        let kernel = ap end_of blocks.kernel in
        let at = ap (λ (x : Block). x.start) h.is in
        omega arith

    pub stands-behind : KERNEL.size ≤ start
    stands-behind = behind_by h.index refl

    pub stands-inside : start + size ≤ map.size
    stands-inside = subst (λ (x : Block). end_of x ≤ map.size) h.is (blocks.inside h.index h.below)

    pub stands-some : 0 < size
    stands-some =
        let sized = (blocks.sizes h.index h.below).1 in
        let at = ap (λ (x : Block). x.size) h.is in
        omega arith

pub tells-has_block : (map : BlockMap) (start size : ℕ)
    → Decides (has_block map start size) (StandsAt map start size)
tells-has_block map start size = (stands_of map start size, of_stands map start size)

-- what is asked of the block that holds the base
abbrev pub is_asked : (base start size len : ℕ) → Bool
is_asked base start size len = not (start == 0) && start == base && size == block_len len

abbrev start_of : Option Block → ℕ
start_of found = unwrap_or (option_map (λ block. block.start) found) NOWHERE

abbrev size_of : Option Block → ℕ
size_of found = unwrap_or (option_map (λ block. block.size) found) NOWHERE

abbrev is_asked_of : Option Block → (base len : ℕ) → Bool
is_asked_of found base len = is_asked base (start_of found) (size_of found) len

not_held : (start size base : ℕ) → start + size ≤ base
    → (nat_le start base && nat_lt (base - start) size) ≡ false
not_held start size base before = grind (arith, nat_tests)

held : (base size : ℕ) → 0 < size → (nat_le base base && nat_lt (base - base) size) ≡ true
held base size some = grind (arith, nat_tests)

asked : (base size : ℕ) → 0 < base → (not (base == 0) && base == base && size == size) ≡ true
asked base size some = grind (arith, nat_tests)

module _ (map : BlockMap) (blocks : AreBlocks map) (small : map.size ≤ 2 ^ 29) (base len : ℕ) where
  abbrev holds : Block → Bool
  holds x = nat_le x.start base && nat_lt (base - x.start) x.size

  -- the block that stands there is the one that holds the base
  holder-stands : StandsAt map base (block_len len)
      → holder map base ≡ Some (block_at base (block_len len))
  holder-stands h =
      let size = block_len len in
      let inside = stands-inside map base size blocks h in
      let some = stands-some map base size blocks h in
      let at = ap (λ (x : Block). x.start) h.is in
      let first : position_or_len holds map.used ≡ h.index =
      position_or_len_is holds map.used h.index no_block (omega (arith, h.below))
      (λ k lt. not_held (block_of map k).start (block_of map k).size base
      (omega (arith, blocks.order k h.index lt h.below)))
      (λ _. ap holds h.is ∙ held base size some) in
      let found : nat_lt (position_or_len holds map.used) (length map.used) ≡ true =
      let below = h.below in grind (arith, nat_tests) in
      let index : index_holding map base ≡ Some h.index = rw found (ap Some first) in
      ap (λ (o : Option ℕ). option_map (block_of map) (option_and_then (index_holding map) o))
      (phys-place map.size base small (omega arith))
      ∙ ap (option_map (block_of map)) index ∙ ap Some h.is

  asked_of : StandsAt map base (block_len len) → is_asked_of (holder map base) base len ≡ true
  asked_of h =
      ap (λ (o : Option Block). is_asked_of o base len) (holder-stands h)
      ∙ asked base (block_len len) h.some

  found_at : (block : Block) (place : ℕ) (o : Option ℕ) → index_holding map place ≡ o
      → option_map (block_of map) o ≡ Some block
      → (i : ℕ) × (i < length map.used) × (block_of map i ≡ block)
  found_at block place None e f = absurd (cc)
  found_at block place (Some i) e f = (i, (position-Some _ map.used i no_block e).0, cc)

  found_by : (block : Block) (o : Option ℕ)
      → option_map (block_of map) (option_and_then (index_holding map) o) ≡ Some block
      → (i : ℕ) × (i < length map.used) × (block_of map i ≡ block)
  found_by block None e = absurd (cc)
  found_by block (Some place) e = found_at block place (index_holding map place) refl e

  of_asked : (found : Option Block) → holder map base ≡ found → is_asked_of found base len ≡ true
      → StandsAt map base (block_len len)
  of_asked None e t =
      let nowhere : NOWHERE ≡ block_len len =
      eqb-true NOWHERE (block_len len) (and_parts (not (NOWHERE == 0) && NOWHERE == base)
      (NOWHERE == block_len len) t).1 in
      absurd (omega (arith, nowhere))
  of_asked (Some block) e t =
      let both = and_parts _ _ t in
      let front = and_parts _ _ both.0 in
      let found = found_by block (phys map.size base) e in
      record {
        some =
            let some : not (block.start == 0) ≡ true = front.0 in
            let same : block.start ≡ base = eqb-true _ _ front.1 in
            grind (arith, nat_tests);
        index = found.0;
        below = found.1;
        is = found.2 ∙ block-by block base (block_len len) (eqb-true _ _ front.1)
            (eqb-true _ _ both.1);
      }

  pub has_block-asked : (start size : ℕ) → start ≡ start_of (holder map base)
      → size ≡ size_of (holder map base)
      → is_asked base start size len ≡ has_block map base (block_len len)
  has_block-asked start size e f =
      ap (λ (n : ℕ). is_asked base n size len) e
      ∙ ap (λ (n : ℕ). is_asked base (start_of (holder map base)) n len) f
      ∙ sym (same_from_decides {P = StandsAt map base (block_len len)} _ _
      (tells-has_block map base (block_len len)) (of_asked (holder map base) refl, asked_of))
