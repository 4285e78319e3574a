-- The services of thvpool (ps2sdk: thvpool.h; the codes are those of its kerr.h). The conditions
-- and the order of the refusals, which memory is taken, who gets it where memory is given back, and
-- the words that ReferVplStatus writes, are this project's own profile.
use Rattle.std.specs.Prelude.{ℕ, zero, suc, if◌then◌else◌, Option, Some, None, Result, Ok, Err, List, [], ◌∷◌, length}
use Rattle.iop_base.specs.declared.code.Code.{Code}
use Rattle.iop_base.specs.declared.code.TheConstants.Code.{OK, NO_MEMORY, CANNOT_WAIT}
use Rattle.iop_base.specs.declared.guest_fault.GuestFault.TheVariants.{Address}
use Rattle.iop_kernel.specs.Boards.{Board, board_of, on_board, word_in}
use Rattle.iop_kernel.specs.Kinds.{Live}
use Rattle.iop_kernel.specs.ObjectServices.{waits_for, delete_object, refer_status}
use Rattle.iop_kernel.specs.PoolServices.{makes_pool, frees_memory}
use Rattle.iop_kernel.specs.Stacks.{Owner, owner_of, on_owner, with_blocks}
use Rattle.iop_kernel.specs.System.{Core, Left, Done, System, Served, argument, may_switch, caller, with_variable_pools, answers, answers_result, faults, silent, on_core, words_place}
use Rattle.iop_kernel.specs.Waits.{is_code, wakes_word}
use Rattle.iop_kernel.specs.declared.variable_pools.TheConstants.{VPL_WORDS, VPL_STATUS_WORDS}
use Rattle.iop_objects.specs.Objects.{state_of, waiters_of}
use Rattle.iop_pools.specs.Pools.{free_of, greatest_free}
use Rattle.iop_pools.specs.VariablePools.{VariablePools, meets_next}
use Rattle.iop_pools.specs.VariablePools as pools
use Rattle.iop_pools.specs.declared.met.Met.{Met}
use Rattle.iop_services.specs.declared.thvpool_service.ThvpoolService.{ThvpoolService}
use Rattle.iop_services.specs.declared.thvpool_service.ThvpoolService.TheVariants as service
use Rattle.iop_stubs.specs.Stubs.{Memory}
use Rattle.iop_thread.specs.declared.kind.Kind.TheVariants.{VariablePool}

-- a live variable pool
abbrev pub LiveVpl : Type 0
LiveVpl = Live VariablePool

module _ (o : Owner) where
  -- a pool of a size is made on a block
  abbrev pub makes_vpl : (attr option size base : ℕ) → Left Core
  makes_vpl attr option size base =
      let done = pools.creates o.core.kernel.variable_pools attr option size base in
      answers_result (with_variable_pools o.core done.1) done.0

  -- by the place of the words: attribute, option, size
  abbrev pub creates_vpl_at : Memory → Option ℕ → Left Owner
  creates_vpl_at memory None = with_blocks o.blocks (faults o.core Address)
  creates_vpl_at memory (Some place) =
      let word : ℕ → ℕ = word_in memory place in
      makes_pool o (makes_vpl (word 0) (word 1) (word 2)) o.core.kernel.variable_pools
      (pools.bytes (word 0) (word 2))

  -- CreateVpl
  abbrev pub create_vpl : Memory → (at : ℕ) → Left Owner
  create_vpl memory at = creates_vpl_at memory (words_place memory at VPL_WORDS)

  -- DeleteVpl
  abbrev pub delete_vpl : (id : ℕ) → Left Owner
  delete_vpl id =
      with_blocks (frees_memory o.blocks (state_of o.core.kernel.variable_pools id))
      (delete_object VariablePool o.core id)

module _ (c : Core) where
  -- memory is taken, and its address answered
  abbrev pub takes_vpl : Result ℕ Code × VariablePools → Left Core
  takes_vpl (result, left) = answers_result (with_variable_pools c left) result

  -- the thread that calls waits where it does not fit: for the size, rounded up
  abbrev pub takes_or_waits : (id size : ℕ) → Result ℕ Code × VariablePools → Left Core
  takes_or_waits id size (Ok place, left) = takes_vpl (Ok place, left)
  takes_or_waits id size (Err code, left) =
      if is_code code NO_MEMORY
      then waits_for VariablePool c id (pools.pool_length size) (caller c)
      else answers c code

  -- AllocateVpl
  abbrev pub allocate_vpl : (id size : ℕ) → Left Core
  allocate_vpl id size =
      if may_switch c.kernel
      then takes_or_waits id size (pools.takes c.kernel.variable_pools id size)
      else answers c CANNOT_WAIT

  -- pAllocateVpl
  abbrev pub poll_vpl : (id size : ℕ) → Left Core
  poll_vpl id size = takes_vpl (pools.takes c.kernel.variable_pools id size)

-- a thread that waited is woken with the address of its memory
abbrev pub meets_vpl : Core → VariablePools → Met → Core
meets_vpl c left met = wakes_word (with_variable_pools c left) met.thread met.block

-- the first thread that waits and whose size fits gets its memory, and so does the next one, so
-- many times at most
abbrev pub meets_by : ((Core → Core)) → Core → Option Met × VariablePools → Core
meets_by rest c (None, left) = c
meets_by rest c (Some met, left) = rest (meets_vpl c left met)

abbrev pub meets_some : ℕ → (id : ℕ) → Core → Core
meets_some zero id c = c
meets_some (suc n) id c = meets_by (meets_some n id) c (meets_next c.kernel.variable_pools id)

-- each of those that wait and whose size then fits
abbrev pub meets_all : (id : ℕ) → Core → Core
meets_all id c = meets_some (length (waiters_of c.kernel.variable_pools id)) id c

module _ (c : Core) where
  -- memory is given back, and those get theirs for whom there is room then
  abbrev pub frees_vpl : (id : ℕ) → Code × VariablePools → Left Core
  frees_vpl id (code, left) =
      if is_code code OK then answers (meets_all id (with_variable_pools c left)) OK
      else answers c code

  -- FreeVpl
  abbrev pub free_vpl : (id block : ℕ) → Left Core
  free_vpl id block = frees_vpl id (pools.gives c.kernel.variable_pools id block)

-- the words of a variable pool's status
abbrev pub vpl_words : LiveVpl → List ℕ
vpl_words o =
    o.state.attr ∷ o.state.option ∷ o.state.size ∷ free_of o.state ∷ greatest_free o.state
    ∷ length o.waiters ∷ []

-- ReferVplStatus
abbrev pub refer_vpl_status : Board → (id at : ℕ) → Done Board
refer_vpl_status b = refer_status VariablePool vpl_words b VPL_STATUS_WORDS

-- a service of thvpool
unfoldable pub serves_thvpool : System → ThvpoolService → Served
serves_thvpool s service.CreateVpl =
    silent (on_owner s (create_vpl (owner_of s) s.memory (argument s.core 0)))
serves_thvpool s service.DeleteVpl =
    silent (on_owner s (delete_vpl (owner_of s) (argument s.core 0)))
serves_thvpool s service.AllocateVpl =
    silent (on_core s (allocate_vpl s.core (argument s.core 0) (argument s.core 1)))
serves_thvpool s service.PAllocateVpl =
    silent (on_core s (poll_vpl s.core (argument s.core 0) (argument s.core 1)))
serves_thvpool s service.FreeVpl =
    silent (on_core s (free_vpl s.core (argument s.core 0) (argument s.core 1)))
serves_thvpool s service.ReferVplStatus =
    on_board s (refer_vpl_status (board_of s) (argument s.core 0) (argument s.core 1))
