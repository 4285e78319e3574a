-- The block of a thread's stack or of a pool, by what its allocation answers.
use Rattle.std.proofs.Common.{◌≡◌, ◌≢◌, ◌==◌, ◌+◌, ◌<◌, ◌≤◌, ℕ, Bool, true, false, if◌then◌else◌, Option, Some, None, ap, refl, sym, ◌∙◌, arith}
use Rattle.std.proofs.lemmas.Bool.Decides.{nat_tests}
use Rattle.iop_base.specs.BlockSizes.{block_len}
use Rattle.iop_base.specs.declared.code.TheConstants.Code.{NO_MEMORY}
use Rattle.iop_sysmem.specs.Allocating.{allocating}
use Rattle.iop_sysmem.specs.BlockMap.{BlockMap, AreBlocks}
use Rattle.iop_sysmem.proofs.Changing.{taken_is_free}
use Rattle.iop_sysmem.proofs.Finding.{allocates}
use Rattle.iop_thread.specs.declared.param.Param.{Param}
use Rattle.iop_kernel.specs.Answering.{only_answers}
use Rattle.iop_kernel.specs.PoolServices.{block_at, takes_memory}
use Rattle.iop_kernel.specs.Stacks.{creates_on, creates_at}
use Rattle.iop_kernel.specs.System.{System}
use Rattle.iop_kernel.specs.declared.pool_services.TheConstants.{FROM_BELOW}

module _ (map : BlockMap) (blocks : AreBlocks map) (mode size at stack : ℕ)
    (answered : stack ≡ (allocating map mode size at).0) where
  -- an allocation that answers 0 changes nothing
  pub nothing_taken : stack ≡ 0 → (allocating map mode size at).1 ≡ map
  nothing_taken none = ((allocates map blocks mode size at).none (sym answered ∙ none)).0

  -- what is taken was no more than all
  pub taken_fits : stack ≢ 0 → size ≤ map.size
  taken_fits some =
      let place = (allocating map mode size at).0 in
      let positive : 0 < place = omega arith in
      let takes = ((allocates map blocks mode size at).place positive).1 in
      let fits = (taken_is_free map mode (block_len size) at place takes).fits in
      omega arith

  -- and ends inside of them
  pub taken_ends : stack ≢ 0 → stack + size ≤ map.size
  taken_ends some =
      let place = (allocating map mode size at).0 in
      let positive : 0 < place = omega arith in
      let takes = ((allocates map blocks mode size at).place positive).1 in
      let fits = (taken_is_free map mode (block_len size) at place takes).fits in
      omega arith

module _ (s : System) (param : Param) (taken : ℕ × BlockMap) (stack : ℕ)
    (answered : stack ≡ taken.0) where
  -- without a block no thread is made
  pub creates_nowhere : stack ≡ 0 → creates_at s param taken ≡ only_answers s NO_MEMORY
  creates_nowhere none = let none : taken.0 ≡ 0 = sym answered ∙ none in rw none refl

  -- on the block that is taken it is made
  pub creates_there : (len : ℕ) (map : BlockMap) → len ≡ block_len param.stack_size
      → map ≡ taken.1 → stack ≢ 0
      → creates_at s param taken ≡ creates_on s (record param { stack_size = len }) stack map
  creates_there len map long blocks some =
      let e : (taken.0 == 0) ≡ false = grind (arith, nat_tests) in
      rw (answered, long, blocks) (rw e refl)

module _ (map : BlockMap) (room : Bool) (bytes base : ℕ) (there : room ≡ true)
    (answered : base ≡ (allocating map FROM_BELOW bytes 0).0) where
  abbrev outcome : Bool → Option ℕ × BlockMap
  outcome b = if b then block_at map (allocating map FROM_BELOW bytes 0) else (None, map)

  -- without a block no pool has memory
  pub memory_nowhere : base ≡ 0 → takes_memory map room bytes ≡ (None, map)
  memory_nowhere none =
      let zero : (allocating map FROM_BELOW bytes 0).0 ≡ 0 = sym answered ∙ none in
      ap outcome there ∙ rw zero refl

  -- on the block that is taken it has
  pub memory_there : base ≢ 0 → takes_memory map room bytes
      ≡ (Some base, (allocating map FROM_BELOW bytes 0).1)
  memory_there some =
      let e : (base == 0) ≡ false = grind (arith, nat_tests) in
      ap outcome there ∙ rw (← answered, e) refl
