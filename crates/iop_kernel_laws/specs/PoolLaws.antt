-- What the laws of pools say: a pool has what the service that makes it was given, and its status
-- is read back; what the other services of pools do with their words, and what each leaves where it
-- is refused; and that none but those that write a status writes memory.
use Rattle.std.specs.Prelude.{◌≡◌, ◌≢◌, ◌⊎◌, ℕ, ◌+◌, ◌*◌, ◌-◌, ◌<◌, ◌≤◌, Bool, true, false, Some, None, Ok, Err, List, [], length}
use Rattle.iop_base.specs.Numbers.{number_at, wrapped}
use Rattle.iop_base.specs.declared.code.Code.{Code}
use Rattle.iop_base.specs.declared.code.TheConstants.Code.{OK, NO_MEMORY, CANNOT_WAIT, UNKNOWN_VARIABLE_POOL, UNKNOWN_FIXED_POOL}
use Rattle.iop_exec.specs.Row.{with_reg}
use Rattle.iop_objects.specs.Objects.{has_room, object_of, state_of}
use Rattle.iop_objects.specs.Objects as objects
use Rattle.iop_pools.specs.FixedPools as fixed
use Rattle.iop_pools.specs.FixedPools.{FixedPools}
use Rattle.iop_pools.specs.Pools.{Pool, is_attribute, units_of, free_of, greatest_free}
use Rattle.iop_pools.specs.Ranges.{rounded}
use Rattle.iop_pools.specs.VariablePools as variable
use Rattle.iop_pools.specs.VariablePools.{VariablePools}
use Rattle.iop_pools.specs.declared.fixed_pool.TheConstants.{FIXED_UNIT, MOST_BLOCK_BYTES, MOST_BLOCKS}
use Rattle.iop_pools.specs.declared.variable_pool.TheConstants.{VARIABLE_UNIT, LEAST_BYTES, MOST_BYTES}
use Rattle.iop_services.specs.declared.thfpool_service.ThfpoolService.{ThfpoolService}
use Rattle.iop_services.specs.declared.thfpool_service.ThfpoolService.TheVariants.{CreateFpl, DeleteFpl, PAllocateFpl, FreeFpl, AllocateFpl, ReferFplStatus}
use Rattle.iop_services.specs.declared.thvpool_service.ThvpoolService.{ThvpoolService}
use Rattle.iop_services.specs.declared.thvpool_service.ThvpoolService.TheVariants.{CreateVpl, DeleteVpl, PAllocateVpl, FreeVpl, AllocateVpl, ReferVplStatus}
use Rattle.iop_sysmem.specs.Allocating.{allocating}
use Rattle.iop_sysmem.specs.BlockMap.{BlockMap, freeing}
use Rattle.iop_kernel.specs.Boards.{word_in}
use Rattle.iop_kernel.specs.FixedPools.{LiveFpl, serves_thfpool}
use Rattle.iop_kernel.specs.System.{Left, Core, System, Served, argument, may_switch, with_variable_pools, with_fixed_pools, resumes, answers, answers_result, silent, on_core, words_place}
use Rattle.iop_kernel.specs.VariablePools.{LiveVpl, meets_all, serves_thvpool}
use Rattle.iop_kernel.specs.Waits.{is_code, wakes_word}
use Rattle.iop_kernel.specs.declared.after.After.TheVariants.{Resume}
use Rattle.iop_kernel.specs.declared.fixed_pools.TheConstants.{FPL_WORDS, FPL_STATUS_WORDS}
use Rattle.iop_kernel.specs.declared.pool_services.TheConstants.{FROM_BELOW}
use Rattle.iop_kernel.specs.declared.variable_pools.TheConstants.{VPL_WORDS, VPL_STATUS_WORDS}

-- there is room for one more pool, and a block for its memory: these blocks are used then
pub record HasBlock (s : System) (room : Bool) (length base : ℕ) (blocks : BlockMap) : Type 0 where
  pub has_room : room ≡ true
  pub taken : allocating s.blocks FROM_BELOW length 0 ≡ (base, blocks)
  pub some : base ≢ 0

-- there is no room for one more pool, or no block for its memory
abbrev pub HasNoBlock : System → (room : Bool) → (length : ℕ) → Type 0
HasNoBlock s room length =
    (room ≡ false) ⊎ ((allocating s.blocks FROM_BELOW length 0).0 ≡ 0)

-- a pool is made on a block
abbrev pub made_on : System → BlockMap → Left Core → Served
made_on s blocks left =
    silent (record { state = record s { core = left.state; blocks = blocks }; after = left.after })

pub record PoolsAreMade : Type 0 where
  -- CreateVpl: by attribute, option and size
  pub variable : (s : System) (place base : ℕ) (blocks : BlockMap) → let c = s.core in
      let those = c.kernel.variable_pools in let word : ℕ → ℕ = word_in s.memory place in
      words_place s.memory (argument c 0) VPL_WORDS ≡ Some place
      → is_attribute (word 0) ≡ true → LEAST_BYTES ≤ word 2 → word 2 ≤ MOST_BYTES
      → HasBlock s (has_room those) (rounded VARIABLE_UNIT (word 2)) base blocks
      → let done = objects.creates those (record {
        attr = word 0;
        option = word 1;
        base = base;
        size = rounded VARIABLE_UNIT (word 2);
        unit = VARIABLE_UNIT;
        ranges = [];
      }) in
      serves_thvpool s CreateVpl
      ≡ made_on s blocks (answers_result (with_variable_pools c done.1) done.0)
  -- CreateFpl: by attribute, option, size of a block and count
  pub fixed : (s : System) (place base : ℕ) (blocks : BlockMap) → let c = s.core in
      let those = c.kernel.fixed_pools in let word : ℕ → ℕ = word_in s.memory place in
      words_place s.memory (argument c 0) FPL_WORDS ≡ Some place
      → is_attribute (word 0) ≡ true → 0 < word 2 → word 2 ≤ MOST_BLOCK_BYTES
      → 0 < word 3 → word 3 ≤ MOST_BLOCKS
      → HasBlock s (has_room those) (rounded FIXED_UNIT (word 2) * word 3) base blocks
      → let done = objects.creates those (record {
        attr = word 0;
        option = word 1;
        base = base;
        size = rounded FIXED_UNIT (word 2) * word 3;
        unit = rounded FIXED_UNIT (word 2);
        ranges = [];
      }) in
      serves_thfpool s CreateFpl
      ≡ made_on s blocks (answers_result (with_fixed_pools c done.1) done.0)

-- the words of a variable pool's status stand at a place
pub record HasVariablePoolStatus (ram : List ℕ) (place : ℕ) (o : LiveVpl) : Type 0 where
  pub attr : number_at ram place 4 ≡ wrapped o.state.attr
  pub option : number_at ram (place + 4) 4 ≡ wrapped o.state.option
  pub size : number_at ram (place + 8) 4 ≡ wrapped o.state.size
  -- how many bytes are free, and the size of the greatest free range
  pub free : number_at ram (place + 12) 4 ≡ wrapped (free_of o.state)
  pub greatest : number_at ram (place + 16) 4 ≡ wrapped (greatest_free o.state)
  -- how many threads wait
  pub waiting : number_at ram (place + 20) 4 ≡ wrapped (length o.waiters)

-- the status of the live variable pool of the first argument is read at the second
abbrev pub VariablePoolStatusIsRead : Type 0
VariablePoolStatusIsRead =
    (s : System) (place : ℕ) (o : LiveVpl)
    → words_place s.memory (argument s.core 1) VPL_STATUS_WORDS ≡ Some place
    → object_of s.core.kernel.variable_pools.live (argument s.core 0) ≡ Some o
    → HasVariablePoolStatus (serves_thvpool s ReferVplStatus).left.state.memory.ram place o

-- the words of a fixed pool's status stand at a place
pub record HasFixedPoolStatus (ram : List ℕ) (place : ℕ) (o : LiveFpl) : Type 0 where
  pub attr : number_at ram place 4 ≡ wrapped o.state.attr
  pub option : number_at ram (place + 4) 4 ≡ wrapped o.state.option
  -- the size of a block, how many blocks it has, and how many are free
  pub size : number_at ram (place + 8) 4 ≡ wrapped o.state.unit
  pub blocks : number_at ram (place + 12) 4 ≡ wrapped (units_of o.state)
  pub free : number_at ram (place + 16) 4
      ≡ wrapped (units_of o.state - length o.state.ranges)
  -- how many threads wait
  pub waiting : number_at ram (place + 20) 4 ≡ wrapped (length o.waiters)

-- the status of the live fixed pool of the first argument is read at the second
abbrev pub FixedPoolStatusIsRead : Type 0
FixedPoolStatusIsRead =
    (s : System) (place : ℕ) (o : LiveFpl)
    → words_place s.memory (argument s.core 1) FPL_STATUS_WORDS ≡ Some place
    → object_of s.core.kernel.fixed_pools.live (argument s.core 0) ≡ Some o
    → HasFixedPoolStatus (serves_thfpool s ReferFplStatus).left.state.memory.ram place o

-- the block that begins at a pool's base is freed, and the caller goes on with 0 in `$v0`
pub record GoesWithBlock (s : System) (x : Pool) (left : Left System) : Type 0 where
  pub freed : left.state.blocks ≡ (freeing s.blocks x.base).1
  pub goes_on : left.after ≡ Resume
  pub answer : left.state.core.cpu ≡ with_reg s.core.cpu 2 0

-- memory of the pool that the first argument names is taken, for the size of the second where it is
-- a variable one, or given back at the address of the second; with it goes its own block
pub record PoolRequestsAreServed : Type 0 where
  -- AllocateVpl and AllocateFpl, where it fits
  pub takes_variable : (s : System) (place : ℕ) (left : VariablePools) → let c = s.core in
      may_switch c.kernel ≡ true
      → variable.takes c.kernel.variable_pools (argument c 0) (argument c 1) ≡ (Ok place, left)
      → serves_thvpool s AllocateVpl
      ≡ silent (on_core s (resumes (with_variable_pools c left) place))
  pub takes_fixed : (s : System) (place : ℕ) (left : FixedPools) → let c = s.core in
      may_switch c.kernel ≡ true
      → fixed.takes c.kernel.fixed_pools (argument c 0) ≡ (Ok place, left)
      → serves_thfpool s AllocateFpl
      ≡ silent (on_core s (resumes (with_fixed_pools c left) place))
  -- pAllocateVpl and pAllocateFpl
  pub takes_variable_at_once : (s : System) → let c = s.core in
      let done = variable.takes c.kernel.variable_pools (argument c 0) (argument c 1) in
      serves_thvpool s PAllocateVpl
      ≡ silent (on_core s (answers_result (with_variable_pools c done.1) done.0))
  pub takes_fixed_at_once : (s : System) → let c = s.core in
      let done = fixed.takes c.kernel.fixed_pools (argument c 0) in
      serves_thfpool s PAllocateFpl
      ≡ silent (on_core s (answers_result (with_fixed_pools c done.1) done.0))
  -- the same, where nothing is taken
  pub takes_no_variable_at_once : (s : System) (code : Code) → let c = s.core in
      (variable.takes c.kernel.variable_pools (argument c 0) (argument c 1)).0 ≡ Err code
      → serves_thvpool s PAllocateVpl ≡ silent (on_core s (answers c code))
  pub takes_no_fixed_at_once : (s : System) (code : Code) → let c = s.core in
      (fixed.takes c.kernel.fixed_pools (argument c 0)).0 ≡ Err code
      → serves_thfpool s PAllocateFpl ≡ silent (on_core s (answers c code))
  -- FreeVpl, where no memory is out at the address
  pub refuses_variable : (s : System) (code : Code) → let c = s.core in
      (variable.gives c.kernel.variable_pools (argument c 0) (argument c 1)).0 ≡ code
      → is_code code OK ≡ false
      → serves_thvpool s FreeVpl ≡ silent (on_core s (answers c code))
  -- FreeFpl, where no such block is out, and where no thread waits for it
  pub refuses_fixed : (s : System) (code : Code) → let c = s.core in
      (fixed.gives c.kernel.fixed_pools (argument c 0) (argument c 1)).0 ≡ Err code
      → serves_thfpool s FreeFpl ≡ silent (on_core s (answers c code))
  pub frees_fixed : (s : System) (left : FixedPools) → let c = s.core in
      fixed.gives c.kernel.fixed_pools (argument c 0) (argument c 1) ≡ (Ok None, left)
      → serves_thfpool s FreeFpl ≡ silent (on_core s (answers (with_fixed_pools c left) OK))
  -- FreeVpl, where memory is given back: those get theirs whose size then fits
  pub frees_variable : (s : System) (left : VariablePools) → let c = s.core in
      variable.gives c.kernel.variable_pools (argument c 0) (argument c 1) ≡ (OK, left)
      → serves_thvpool s FreeVpl
      ≡ silent (on_core s (answers (meets_all (argument c 0) (with_variable_pools c left)) OK))
  -- FreeFpl, where a thread waits for the block
  pub hands_on_fixed : (s : System) (thread : ℕ) (left : FixedPools) → let c = s.core in
      fixed.gives c.kernel.fixed_pools (argument c 0) (argument c 1) ≡ (Ok (Some thread), left)
      → serves_thfpool s FreeFpl
      ≡ silent (on_core s
      (answers (wakes_word (with_fixed_pools c left) thread (argument c 1)) OK))
  -- AllocateVpl and AllocateFpl, where no other thread may run, and else for any reason but that
  -- nothing is free
  pub cannot_wait_variable : (s : System) → may_switch s.core.kernel ≡ false
      → serves_thvpool s AllocateVpl ≡ silent (on_core s (answers s.core CANNOT_WAIT))
  pub cannot_wait_fixed : (s : System) → may_switch s.core.kernel ≡ false
      → serves_thfpool s AllocateFpl ≡ silent (on_core s (answers s.core CANNOT_WAIT))
  pub takes_no_variable : (s : System) (code : Code) (left : VariablePools) → let c = s.core in
      may_switch c.kernel ≡ true
      → variable.takes c.kernel.variable_pools (argument c 0) (argument c 1) ≡ (Err code, left)
      → is_code code NO_MEMORY ≡ false
      → serves_thvpool s AllocateVpl ≡ silent (on_core s (answers c code))
  pub takes_no_fixed : (s : System) (code : Code) (left : FixedPools) → let c = s.core in
      may_switch c.kernel ≡ true
      → fixed.takes c.kernel.fixed_pools (argument c 0) ≡ (Err code, left)
      → is_code code NO_MEMORY ≡ false
      → serves_thfpool s AllocateFpl ≡ silent (on_core s (answers c code))
  -- CreateVpl and CreateFpl, where the words are not good
  pub makes_no_variable : (s : System) (place : ℕ) (code : Code) → let c = s.core in
      let word : ℕ → ℕ = word_in s.memory place in
      words_place s.memory (argument c 0) VPL_WORDS ≡ Some place
      → variable.bytes (word 0) (word 2) ≡ Err code
      → serves_thvpool s CreateVpl ≡ silent (on_core s (answers c code))
  pub makes_no_fixed : (s : System) (place : ℕ) (code : Code) → let c = s.core in
      let word : ℕ → ℕ = word_in s.memory place in
      words_place s.memory (argument c 0) FPL_WORDS ≡ Some place
      → fixed.bytes (word 0) (word 2) (word 3) ≡ Err code
      → serves_thfpool s CreateFpl ≡ silent (on_core s (answers c code))
  -- the same, where they are good, but there is no room for one more pool or no block
  pub has_no_block_variable : (s : System) (place length : ℕ) → let c = s.core in
      let word : ℕ → ℕ = word_in s.memory place in
      words_place s.memory (argument c 0) VPL_WORDS ≡ Some place
      → variable.bytes (word 0) (word 2) ≡ Ok length
      → HasNoBlock s (has_room c.kernel.variable_pools) length
      → serves_thvpool s CreateVpl ≡ silent (on_core s (answers c NO_MEMORY))
  pub has_no_block_fixed : (s : System) (place length : ℕ) → let c = s.core in
      let word : ℕ → ℕ = word_in s.memory place in
      words_place s.memory (argument c 0) FPL_WORDS ≡ Some place
      → fixed.bytes (word 0) (word 2) (word 3) ≡ Ok length
      → HasNoBlock s (has_room c.kernel.fixed_pools) length
      → serves_thfpool s CreateFpl ≡ silent (on_core s (answers c NO_MEMORY))
  -- DeleteVpl and DeleteFpl, where no pool has the id
  pub deletes_no_variable : (s : System) → let c = s.core in
      state_of c.kernel.variable_pools (argument c 0) ≡ None
      → serves_thvpool s DeleteVpl ≡ silent (on_core s (answers c UNKNOWN_VARIABLE_POOL))
  pub deletes_no_fixed : (s : System) → let c = s.core in
      state_of c.kernel.fixed_pools (argument c 0) ≡ None
      → serves_thfpool s DeleteFpl ≡ silent (on_core s (answers c UNKNOWN_FIXED_POOL))
  -- DeleteVpl and DeleteFpl, where one has
  pub deletes_variable : (s : System) (x : Pool)
      → state_of s.core.kernel.variable_pools (argument s.core 0) ≡ Some x
      → GoesWithBlock s x (serves_thvpool s DeleteVpl).left
  pub deletes_fixed : (s : System) (x : Pool)
      → state_of s.core.kernel.fixed_pools (argument s.core 0) ≡ Some x
      → GoesWithBlock s x (serves_thfpool s DeleteFpl).left
  -- ReferVplStatus and ReferFplStatus, where no pool has the id
  pub refers_to_no_variable : (s : System) (place : ℕ) → let c = s.core in
      words_place s.memory (argument c 1) VPL_STATUS_WORDS ≡ Some place
      → state_of c.kernel.variable_pools (argument c 0) ≡ None
      → serves_thvpool s ReferVplStatus ≡ silent (on_core s (answers c UNKNOWN_VARIABLE_POOL))
  pub refers_to_no_fixed : (s : System) (place : ℕ) → let c = s.core in
      words_place s.memory (argument c 1) FPL_STATUS_WORDS ≡ Some place
      → state_of c.kernel.fixed_pools (argument c 0) ≡ None
      → serves_thfpool s ReferFplStatus ≡ silent (on_core s (answers c UNKNOWN_FIXED_POOL))

-- memory is as it was, and nothing is given
pub record WritesNothing (s : System) (done : Served) : Type 0 where
  pub memory : done.left.state.memory ≡ s.memory
  pub pieces : done.pieces ≡ []

-- so it is with each service of pools but those that write a status
pub record PoolsWriteNothing : Type 0 where
  pub variable : (s : System) (x : ThvpoolService) → x ≢ ReferVplStatus
      → WritesNothing s (serves_thvpool s x)
  pub fixed : (s : System) (x : ThfpoolService) → x ≢ ReferFplStatus
      → WritesNothing s (serves_thfpool s x)
