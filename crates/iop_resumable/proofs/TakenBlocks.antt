-- Where a block stands that is taken of memory.
use Rattle.std.proofs.Common.{◌≡◌, ◌≢◌, ℕ, ◌+◌, ◌/◌, ◌%◌, ◌^◌, ◌<◌, ◌≤◌, ◌==◌, nat_le, false, true, is_some, ap, refl, subst, sym, arith}
use Rattle.std.specs.Prelude.{nat_lt}
use Rattle.std.proofs.lemmas.Bool.{and_from, eq-eqb, le-leb}
use Rattle.std.proofs.lemmas.Bool.Decides.{nat_tests}
use Rattle.iop_base.specs.BlockSizes.{block_len}
use Rattle.iop_base.specs.Places.{range_at}
use Rattle.iop_base.specs.declared.blocks.TheConstants.{BLOCK_UNIT}
use Rattle.iop_pools.specs.Restoring.{may_be_base}
use Rattle.iop_pools.specs.declared.layout.TheConstants.{FIRST_BASE}
use Rattle.iop_sysmem.specs.Allocating.{allocating}
use Rattle.iop_sysmem.specs.BlockMap.{BlockMap, AreBlocks}
use Rattle.iop_sysmem.proofs.Changing.{taken_is_free, behind_kernel}
use Rattle.iop_sysmem.proofs.Finding.{allocates}

-- a block that is taken for so many bytes: behind the kernel's, at a whole unit, and in memory
pub record IsTaken (map : BlockMap) (bytes base : ℕ) : Type 0 where
  pub starts : may_be_base base ≡ true
  pub ends : base + block_len bytes ≤ map.size
  pub some : 0 < bytes

-- a range at a place that is its own address
pub range_there : (size base len : ℕ) → base < 2 ^ 29 → 0 < len → base + len ≤ size
    → is_some (range_at size base len) ≡ true
range_there size base len low some fits =
    let segment : base / 0x20000000 ≡ 0 = omega arith in
    let same : base % 0x20000000 ≡ base = omega arith in
    let begins : nat_lt base size ≡ true = grind (arith, nat_tests) in
    let ends : nat_le (base + len) size ≡ true = le-leb _ _ fits in
    rw (segment, same, begins, ends) refl

pub block_taken : (map left : BlockMap) (mode bytes base : ℕ) → AreBlocks map
    → allocating map mode bytes 0 ≡ (base, left) → (base == 0) ≡ false
    → IsTaken map bytes base
block_taken map left mode bytes base blocks is some =
    let answered : base ≡ (allocating map mode bytes 0).0 =
    sym (ap (λ (t : ℕ × BlockMap). t.0) is) in
    let there : base ≢ 0 = λ none. grind (arith, nat_tests, some, none) in
    let place = (allocating map mode bytes 0).0 in
    let positive : 0 < place = omega (arith, there, answered) in
    let took = (allocates map blocks mode bytes 0).place positive in
    let free = taken_is_free map mode (block_len bytes) 0 place took.1 in
    let behind = behind_kernel map (block_len bytes) place blocks (omega (arith, took.0)) free in
    let unit : base % BLOCK_UNIT ≡ 0 = subst (λ n. n % BLOCK_UNIT ≡ 0) (sym answered) free.unit in
    record {
      starts = and_from _ _ (le-leb FIRST_BASE base (omega (arith, behind, answered)))
          (eq-eqb _ _ unit);
      ends = omega (arith, free.fits, answered);
      some = took.0;
    }
