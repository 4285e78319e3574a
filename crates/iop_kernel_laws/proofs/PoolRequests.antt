-- How pools are made, and what else their services do with their words.
use Rattle.std.proofs.Common.{◌≡◌, ◌≢◌, ℕ, ◌*◌, ◌<◌, ◌≤◌, ◌==◌, Bool, true, false, inl, inr, Option, Some, None, Result, Ok, Err, [], refl, ap, sym, ◌∙◌, arith}
use Rattle.std.specs.Prelude.{is_some, option_map}
use Rattle.std.proofs.lemmas.Bool.{ne_eqb, le-ltb}
use Rattle.std.proofs.lemmas.Bool.Decides.{nat_tests}
use Rattle.iop_base.specs.declared.code.Code.{Code}
use Rattle.iop_base.specs.declared.code.TheConstants.Code.{OK}
use Rattle.iop_exec.specs.Row.{with_reg}
use Rattle.iop_objects.specs.Objects as objects
use Rattle.iop_objects.specs.Objects.{Objects, has_room, object_of, state_of}
use Rattle.iop_pools.specs.FixedPools as fixed
use Rattle.iop_pools.specs.FixedPools.{FixedPools}
use Rattle.iop_pools.specs.Pools.{Pool, is_attribute}
use Rattle.iop_pools.specs.Ranges.{rounded}
use Rattle.iop_pools.specs.VariablePools as variable
use Rattle.iop_pools.specs.VariablePools.{VariablePools}
use Rattle.iop_pools.specs.declared.fixed_pool.TheConstants.{FIXED_UNIT, MOST_BLOCK_BYTES, MOST_BLOCKS}
use Rattle.iop_pools.specs.declared.variable_pool.TheConstants.{VARIABLE_UNIT, LEAST_BYTES, MOST_BYTES}
use Rattle.iop_services.specs.declared.thfpool_service.ThfpoolService.{ThfpoolService}
use Rattle.iop_services.specs.declared.thfpool_service.ThfpoolService.TheVariants.{CreateFpl, DeleteFpl, PAllocateFpl, FreeFpl, AllocateFpl, ReferFplStatus}
use Rattle.iop_services.specs.declared.thvpool_service.ThvpoolService.{ThvpoolService}
use Rattle.iop_services.specs.declared.thvpool_service.ThvpoolService.TheVariants.{CreateVpl, DeleteVpl, PAllocateVpl, FreeVpl, AllocateVpl, ReferVplStatus}
use Rattle.iop_sysmem.specs.Allocating.{allocating}
use Rattle.iop_sysmem.specs.BlockMap.{BlockMap}
use Rattle.iop_thread.specs.declared.kind.Kind.{Kind}
use Rattle.iop_thread.specs.declared.kind.Kind.TheVariants.{VariablePool, FixedPool}
use Rattle.iop_kernel.specs.Boards.{word_in}
use Rattle.iop_kernel.specs.FixedPools.{makes_fpl, creates_fpl_at, frees_fpl, serves_thfpool}
use Rattle.iop_kernel_laws.specs.PoolLaws.{HasBlock, HasNoBlock, made_on, GoesWithBlock, WritesNothing, PoolsAreMade, PoolRequestsAreServed, PoolsWriteNothing}
use Rattle.iop_kernel.specs.Kinds.{State, Live}
use Rattle.iop_kernel.specs.ObjectServices.{deletes_object}
use Rattle.iop_kernel.specs.PoolServices.{block_at, takes_memory, makes_on, makes_pool}
use Rattle.iop_kernel.specs.Stacks.{owner_of, on_owner}
use Rattle.iop_kernel.specs.System.{Core, System, argument, with_variable_pools, with_fixed_pools, answers, answers_result, silent, words_place}
use Rattle.iop_kernel.specs.VariablePools.{makes_vpl, creates_vpl_at, frees_vpl, free_vpl, serves_thvpool}
use Rattle.iop_kernel.specs.Waits.{is_code}
use Rattle.iop_kernel.specs.declared.after.After.TheVariants.{Resume}
use Rattle.iop_kernel.specs.declared.fixed_pools.TheConstants.{FPL_WORDS}
use Rattle.iop_kernel.specs.declared.variable_pools.TheConstants.{VPL_WORDS}
use Rattle.iop_kernel.specs.declared.pool_services.TheConstants.{FROM_BELOW}
use Rattle.iop_kernel.proofs.Bodies.Pools.{take_refused, block_refused}
use Rattle.iop_kernel.proofs.Bodies.Reads.{no_object}

module _ (s : System) (place base : ℕ) (blocks : BlockMap) where
  abbrev word : ℕ → ℕ
  word = word_in s.memory place

  -- a pool of so many bytes has a block
  has_memory : (room : Bool) (len : ℕ) → HasBlock s room len base blocks
      → takes_memory s.blocks room len ≡ (Some base, blocks)
  has_memory room len on =
      let some = ne_eqb base 0 on.some in
      ap (λ room. takes_memory s.blocks room len) on.has_room
      ∙ ap (block_at s.blocks) on.taken ∙ rw some refl

  variable_made : words_place s.memory (argument s.core 0) VPL_WORDS ≡ Some place
      → is_attribute (word 0) ≡ true → LEAST_BYTES ≤ word 2 → word 2 ≤ MOST_BYTES
      → HasBlock s (has_room s.core.kernel.variable_pools) (rounded VARIABLE_UNIT (word 2)) base
      blocks
      → let done = objects.creates s.core.kernel.variable_pools (record {
        attr = word 0;
        option = word 1;
        base = base;
        size = rounded VARIABLE_UNIT (word 2);
        unit = VARIABLE_UNIT;
        ranges = [];
      }) in
      serves_thvpool s CreateVpl
      ≡ made_on s blocks (answers_result (with_variable_pools s.core done.1) done.0)
  unfolding serves_thvpool
  variable_made there attr least most on =
      let enough = le-ltb (word 2) LEAST_BYTES least in
      let few = le-ltb MOST_BYTES (word 2) most in
      let those = s.core.kernel.variable_pools in
      let makes = makes_vpl (owner_of s) (word 0) (word 1) (word 2) in
      let sized : variable.bytes (word 0) (word 2) ≡ Ok (rounded VARIABLE_UNIT (word 2)) =
      rw (attr, enough, few) refl in
      ap (λ (o : Option ℕ). silent (on_owner s (creates_vpl_at (owner_of s) s.memory o))) there
      ∙ ap (λ (r : Result ℕ Code). silent (on_owner s (makes_pool (owner_of s) makes those r))) sized
      ∙ ap (λ (t : Option ℕ × BlockMap). silent (on_owner s (makes_on (owner_of s) makes t)))
      (has_memory (has_room those) (rounded VARIABLE_UNIT (word 2)) on)

  fixed_made : words_place s.memory (argument s.core 0) FPL_WORDS ≡ Some place
      → is_attribute (word 0) ≡ true → 0 < word 2 → word 2 ≤ MOST_BLOCK_BYTES → 0 < word 3
      → word 3 ≤ MOST_BLOCKS
      → HasBlock s (has_room s.core.kernel.fixed_pools) (rounded FIXED_UNIT (word 2) * word 3) base
      blocks
      → let done = objects.creates s.core.kernel.fixed_pools (record {
        attr = word 0;
        option = word 1;
        base = base;
        size = rounded FIXED_UNIT (word 2) * word 3;
        unit = rounded FIXED_UNIT (word 2);
        ranges = [];
      }) in
      serves_thfpool s CreateFpl
      ≡ made_on s blocks (answers_result (with_fixed_pools s.core done.1) done.0)
  unfolding serves_thfpool
  fixed_made there attr some_bytes most some_blocks few on =
      let size : (word 2 == 0) ≡ false = grind (arith, nat_tests, some_bytes) in
      let bytes = le-ltb MOST_BLOCK_BYTES (word 2) most in
      let count : (word 3 == 0) ≡ false = grind (arith, nat_tests, some_blocks) in
      let blocks_of = le-ltb MOST_BLOCKS (word 3) few in
      let those = s.core.kernel.fixed_pools in
      let makes = makes_fpl (owner_of s) (word 0) (word 1) (word 2) (word 3) in
      let all = rounded FIXED_UNIT (word 2) * word 3 in
      let sized : fixed.bytes (word 0) (word 2) (word 3) ≡ Ok all =
      rw (attr, size, bytes, count, blocks_of) refl in
      ap (λ (o : Option ℕ). silent (on_owner s (creates_fpl_at (owner_of s) s.memory o))) there
      ∙ ap (λ (r : Result ℕ Code). silent (on_owner s (makes_pool (owner_of s) makes those r))) sized
      ∙ ap (λ (t : Option ℕ × BlockMap). silent (on_owner s (makes_on (owner_of s) makes t)))
      (has_memory (has_room those) all on)

pub pools_are_made : PoolsAreMade
pools_are_made = record { variable = variable_made; fixed = fixed_made }

-- nothing is given back, by the code
variable_refused : (c : Core) (id block : ℕ) (code : Code)
    → (variable.gives c.kernel.variable_pools id block).0 ≡ code → is_code code OK ≡ false
    → free_vpl c id block ≡ answers c code
variable_refused c id block code is other =
    let gives = variable.gives c.kernel.variable_pools id block in
    ap (λ code. frees_vpl c id (code, gives.1)) is ∙ rw other refl

fixed_refused : (c : Core) (block : ℕ) (code : Code) (r : Result (Option ℕ) Code × FixedPools)
    → r.0 ≡ Err code → frees_fpl c block r ≡ answers c code
fixed_refused c block code (Err other, left) is =
    let same : other ≡ code = cc is in ap (answers c) same
fixed_refused c block code (Ok None, left) is = absurd (cc is)
fixed_refused c block code (Ok (Some thread), left) is = absurd (cc is)

-- no block is taken
taken_none : (blocks : BlockMap) (t : ℕ × BlockMap) → t.0 ≡ 0 → block_at blocks t ≡ (None, blocks)
taken_none blocks (base, left) none = rw none refl

no_memory : (s : System) (room : Bool) (len : ℕ) → HasNoBlock s room len
    → takes_memory s.blocks room len ≡ (None, s.blocks)
no_memory s room len (inl none) = rw none refl
no_memory s true len (inr none) = taken_none s.blocks (allocating s.blocks FROM_BELOW len 0) none
no_memory s false len (inr none) = refl

-- no pool of an id is live
none_live : {A W : Type 0} (those : Objects A W) (id : ℕ) → state_of those id ≡ None
    → object_of those.live id ≡ None
none_live those id none = no_object those.live id (ap is_some none)

-- who deletes a live object goes on with 0
deleted : (kind : Kind) (c : Core) (x : State kind) (o : Option (Live kind))
    → option_map (λ o. o.state) o ≡ Some x → let left = deletes_object kind c o in
    (left.after ≡ Resume) × (left.state.cpu ≡ with_reg c.cpu 2 0)
deleted kind c x None is = absurd (cc is)
deleted kind c x (Some o) is = (refl, refl)

module _ (s : System) (x : Pool) where
  variable_deleted : state_of s.core.kernel.variable_pools (argument s.core 0) ≡ Some x
      → GoesWithBlock s x (serves_thvpool s DeleteVpl).left
  unfolding serves_thvpool
  variable_deleted is =
      let o = object_of s.core.kernel.variable_pools.live (argument s.core 0) in
      let on = deleted VariablePool s.core x o is in
      record { freed = rw is refl; goes_on = on.0; answer = on.1 }

  fixed_deleted : state_of s.core.kernel.fixed_pools (argument s.core 0) ≡ Some x
      → GoesWithBlock s x (serves_thfpool s DeleteFpl).left
  unfolding serves_thfpool
  fixed_deleted is =
      let o = object_of s.core.kernel.fixed_pools.live (argument s.core 0) in
      let on = deleted FixedPool s.core x o is in
      record { freed = rw is refl; goes_on = on.0; answer = on.1 }

pub pool_requests_are_served : PoolRequestsAreServed
unfolding serves_thvpool serves_thfpool
pool_requests_are_served = record {
  takes_variable = λ s place left may is. rw (may, is) refl;
  takes_fixed = λ s place left may is. rw (may, is) refl;
  takes_variable_at_once = λ s. refl;
  takes_fixed_at_once = λ s. refl;
  takes_no_variable_at_once = λ s code is.
      rw (take_refused s.core.kernel.variable_pools (argument s.core 0) (argument s.core 1) code
      (sym is)) refl;
  takes_no_fixed_at_once = λ s code is.
      rw (block_refused s.core.kernel.fixed_pools (argument s.core 0) code (sym is)) refl;
  refuses_variable = λ s code is other.
      rw (variable_refused s.core (argument s.core 0) (argument s.core 1) code is other) refl;
  refuses_fixed = λ s code is.
      rw (fixed_refused s.core (argument s.core 1) code
      (fixed.gives s.core.kernel.fixed_pools (argument s.core 0) (argument s.core 1)) is) refl;
  frees_fixed = λ s left is. rw is refl;
  frees_variable = λ s left is. rw is refl;
  hands_on_fixed = λ s thread left is. rw is refl;
  cannot_wait_variable = λ s cannot. rw cannot refl;
  cannot_wait_fixed = λ s cannot. rw cannot refl;
  takes_no_variable = λ s code left may is other. rw (may, is) (rw other refl);
  takes_no_fixed = λ s code left may is other. rw (may, is) (rw other refl);
  makes_no_variable = λ s place code there bad. rw there (rw bad refl);
  makes_no_fixed = λ s place code there bad. rw there (rw bad refl);
  has_no_block_variable = λ s place len there sized none.
      rw there (rw sized (rw (no_memory s (has_room s.core.kernel.variable_pools) len none) refl));
  has_no_block_fixed = λ s place len there sized none.
      rw there (rw sized (rw (no_memory s (has_room s.core.kernel.fixed_pools) len none) refl));
  deletes_no_variable = λ s none.
      rw (none_live s.core.kernel.variable_pools (argument s.core 0) none) refl;
  deletes_no_fixed = λ s none.
      rw (none_live s.core.kernel.fixed_pools (argument s.core 0) none) refl;
  deletes_variable = variable_deleted;
  deletes_fixed = fixed_deleted;
  refers_to_no_variable = λ s place there none.
      rw there (rw (none_live s.core.kernel.variable_pools (argument s.core 0) none) refl);
  refers_to_no_fixed = λ s place there none.
      rw there (rw (none_live s.core.kernel.fixed_pools (argument s.core 0) none) refl);
}

variable_silent : (s : System) (x : ThvpoolService) → x ≢ ReferVplStatus
    → WritesNothing s (serves_thvpool s x)
unfolding serves_thvpool
variable_silent s CreateVpl other = record { memory = refl; pieces = refl }
variable_silent s DeleteVpl other = record { memory = refl; pieces = refl }
variable_silent s AllocateVpl other = record { memory = refl; pieces = refl }
variable_silent s PAllocateVpl other = record { memory = refl; pieces = refl }
variable_silent s FreeVpl other = record { memory = refl; pieces = refl }
variable_silent s ReferVplStatus other = absurd (other refl)

fixed_silent : (s : System) (x : ThfpoolService) → x ≢ ReferFplStatus
    → WritesNothing s (serves_thfpool s x)
unfolding serves_thfpool
fixed_silent s CreateFpl other = record { memory = refl; pieces = refl }
fixed_silent s DeleteFpl other = record { memory = refl; pieces = refl }
fixed_silent s AllocateFpl other = record { memory = refl; pieces = refl }
fixed_silent s PAllocateFpl other = record { memory = refl; pieces = refl }
fixed_silent s FreeFpl other = record { memory = refl; pieces = refl }
fixed_silent s ReferFplStatus other = absurd (other refl)

pub pools_write_nothing : PoolsWriteNothing
pools_write_nothing = record { variable = variable_silent; fixed = fixed_silent }
