-- The memory that is out of pools, at all times: a law of the services (ps2sdk: thvpool.h,
-- thfpool.h).
use Rattle.std.specs.Prelude.{◌≡◌, ℕ, ⊤, Some}
use Rattle.iop_objects.specs.Objects.{state_of}
use Rattle.iop_pools.specs.Standing.{IsPool}
use Rattle.iop_pools.specs.declared.fixed_pool.TheConstants.{MOST_BLOCKS}
use Rattle.iop_pools.specs.declared.variable_pool.TheConstants.{MOST_RANGES}
use Rattle.iop_thread.specs.declared.kind.Kind.{Kind}
use Rattle.iop_thread.specs.declared.kind.Kind.TheVariants.{Semaphore, EventFlag, Mailbox, VariablePool, FixedPool}
use Rattle.iop_kernel.specs.Kinds.{State, Table, table}
use Rattle.iop_kernel.specs.System.{Kernel}

-- a pool has at most so many units, and the ranges that are out of it are apart and inside of it;
-- the other objects have no memory
abbrev pub IsSound : (kind : Kind) → State kind → Type 0
IsSound Semaphore x = ⊤
IsSound EventFlag x = ⊤
IsSound Mailbox x = ⊤
IsSound VariablePool x = IsPool MOST_RANGES x
IsSound FixedPool x = IsPool MOST_BLOCKS x

-- so each live object of a kind is
abbrev pub AreSound : (kind : Kind) → Table kind → Type 0
AreSound kind s = (id : ℕ) (x : State kind) → state_of s id ≡ Some x → IsSound kind x

-- and those of all kinds
abbrev pub PoolsAreSound : Kernel → Type 0
PoolsAreSound k = (kind : Kind) → AreSound kind (table kind k)
