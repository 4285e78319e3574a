-- The services of thfpool (ps2sdk: thfpool.h; the codes are those of its kerr.h). The conditions
-- and the order of the refusals, which block is taken, and the words that ReferFplStatus writes,
-- are this project's own profile.
use Rattle.std.specs.Prelude.{ℕ, ◌-◌, if◌then◌else◌, Option, Some, None, Result, Ok, Err, List, [], ◌∷◌, length}
use Rattle.iop_base.specs.declared.code.Code.{Code}
use Rattle.iop_base.specs.declared.code.TheConstants.Code.{OK, NO_MEMORY, CANNOT_WAIT}
use Rattle.iop_base.specs.declared.guest_fault.GuestFault.TheVariants.{Address}
use Rattle.iop_kernel.specs.Boards.{Board, board_of, on_board, word_in}
use Rattle.iop_kernel.specs.Kinds.{Live}
use Rattle.iop_kernel.specs.ObjectServices.{waits_for, delete_object, refer_status}
use Rattle.iop_kernel.specs.PoolServices.{makes_pool, frees_memory}
use Rattle.iop_kernel.specs.Stacks.{Owner, owner_of, on_owner, with_blocks}
use Rattle.iop_kernel.specs.System.{Core, Left, Done, System, Served, argument, may_switch, caller, with_fixed_pools, answers, answers_result, faults, silent, on_core, words_place}
use Rattle.iop_kernel.specs.Waits.{is_code, wakes_word}
use Rattle.iop_kernel.specs.declared.fixed_pools.TheConstants.{FPL_WORDS, FPL_STATUS_WORDS}
use Rattle.iop_objects.specs.Objects.{state_of}
use Rattle.iop_pools.specs.FixedPools.{FixedPools}
use Rattle.iop_pools.specs.FixedPools as pools
use Rattle.iop_pools.specs.Pools.{units_of}
use Rattle.iop_services.specs.declared.thfpool_service.ThfpoolService.{ThfpoolService}
use Rattle.iop_services.specs.declared.thfpool_service.ThfpoolService.TheVariants as service
use Rattle.iop_stubs.specs.Stubs.{Memory}
use Rattle.iop_thread.specs.declared.kind.Kind.TheVariants.{FixedPool}

-- a live fixed pool
abbrev pub LiveFpl : Type 0
LiveFpl = Live FixedPool

module _ (o : Owner) where
  -- a pool of so many blocks of a size is made on a block of memory
  abbrev pub makes_fpl : (attr option size count base : ℕ) → Left Core
  makes_fpl attr option size count base =
      let done = pools.creates o.core.kernel.fixed_pools attr option size count base in
      answers_result (with_fixed_pools o.core done.1) done.0

  -- by the place of the words: attribute, option, size of a block, count
  abbrev pub creates_fpl_at : Memory → Option ℕ → Left Owner
  creates_fpl_at memory None = with_blocks o.blocks (faults o.core Address)
  creates_fpl_at memory (Some place) =
      let word : ℕ → ℕ = word_in memory place in
      makes_pool o (makes_fpl (word 0) (word 1) (word 2) (word 3)) o.core.kernel.fixed_pools
      (pools.bytes (word 0) (word 2) (word 3))

  -- CreateFpl
  abbrev pub create_fpl : Memory → (at : ℕ) → Left Owner
  create_fpl memory at = creates_fpl_at memory (words_place memory at FPL_WORDS)

  -- DeleteFpl
  abbrev pub delete_fpl : (id : ℕ) → Left Owner
  delete_fpl id =
      with_blocks (frees_memory o.blocks (state_of o.core.kernel.fixed_pools id))
      (delete_object FixedPool o.core id)

module _ (c : Core) where
  -- a block is taken, and its address answered
  abbrev pub takes_fpl : Result ℕ Code × FixedPools → Left Core
  takes_fpl (result, left) = answers_result (with_fixed_pools c left) result

  -- the thread that calls waits where none is free
  abbrev pub takes_or_waits : (id : ℕ) → Result ℕ Code × FixedPools → Left Core
  takes_or_waits id (Ok block, left) = takes_fpl (Ok block, left)
  takes_or_waits id (Err code, left) =
      if is_code code NO_MEMORY then waits_for FixedPool c id tt (caller c)
      else answers c code

  -- AllocateFpl
  abbrev pub allocate_fpl : (id : ℕ) → Left Core
  allocate_fpl id =
      if may_switch c.kernel then takes_or_waits id (pools.takes c.kernel.fixed_pools id)
      else answers c CANNOT_WAIT

  -- pAllocateFpl
  abbrev pub poll_fpl : (id : ℕ) → Left Core
  poll_fpl id = takes_fpl (pools.takes c.kernel.fixed_pools id)

  -- a block is given back: a thread is woken with its address, or it is free
  abbrev pub frees_fpl : (block : ℕ) → Result (Option ℕ) Code × FixedPools → Left Core
  frees_fpl block (Err code, left) = answers c code
  frees_fpl block (Ok None, left) = answers (with_fixed_pools c left) OK
  frees_fpl block (Ok (Some thread), left) =
      answers (wakes_word (with_fixed_pools c left) thread block) OK

  -- FreeFpl
  abbrev pub free_fpl : (id block : ℕ) → Left Core
  free_fpl id block = frees_fpl block (pools.gives c.kernel.fixed_pools id block)

-- the words of a fixed pool's status
abbrev pub fpl_words : LiveFpl → List ℕ
fpl_words o =
    o.state.attr ∷ o.state.option ∷ o.state.unit ∷ units_of o.state
    ∷ (units_of o.state - length o.state.ranges) ∷ length o.waiters ∷ []

-- ReferFplStatus
abbrev pub refer_fpl_status : Board → (id at : ℕ) → Done Board
refer_fpl_status b = refer_status FixedPool fpl_words b FPL_STATUS_WORDS

-- a service of thfpool
unfoldable pub serves_thfpool : System → ThfpoolService → Served
serves_thfpool s service.CreateFpl =
    silent (on_owner s (create_fpl (owner_of s) s.memory (argument s.core 0)))
serves_thfpool s service.DeleteFpl =
    silent (on_owner s (delete_fpl (owner_of s) (argument s.core 0)))
serves_thfpool s service.AllocateFpl =
    silent (on_core s (allocate_fpl s.core (argument s.core 0)))
serves_thfpool s service.PAllocateFpl = silent (on_core s (poll_fpl s.core (argument s.core 0)))
serves_thfpool s service.FreeFpl =
    silent (on_core s (free_fpl s.core (argument s.core 0) (argument s.core 1)))
serves_thfpool s service.ReferFplStatus =
    on_board s (refer_fpl_status (board_of s) (argument s.core 0) (argument s.core 1))
