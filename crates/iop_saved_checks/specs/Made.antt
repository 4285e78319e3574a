-- Whether threads and pools are such as the calls of a guest make them, in RAM of so many bytes:
-- this project's own profile.
use Rattle.std.specs.Prelude.{◌≡◌, ℕ, ◌%◌, ◌==◌, nat_le, nat_lt, Bool, true, ◌&&◌, is_some, if◌then◌else◌, bit_and, List, map}
use Rattle.std.specs.List.{list_all}
use Rattle.iop_base.specs.Places.{range_at}
use Rattle.iop_base.specs.declared.blocks.TheConstants.{BLOCK_UNIT}
use Rattle.iop_kernel.specs.System.{Kernel}
use Rattle.iop_kernel.specs.declared.stacks.TheConstants.{ATTRIBUTES}
use Rattle.iop_objects.specs.Objects.{Objects}
use Rattle.iop_pools.specs.Pools.{Pool}
use Rattle.iop_sysmem.specs.declared.blocks.TheConstants.{KERNEL}
use Rattle.iop_thread.specs.ThreadTable.{ThreadTable, thread_of}
use Rattle.iop_thread.specs.declared.thread.Thread.{Thread}
use Rattle.iop_thread.specs.declared.thread.TheConstants.{LOADER, LOADER_ATTRIBUTE, LOADER_PRIORITY, LOADER_STACK, LOADER_STACK_SIZE, MOST_WAKEUPS}

-- whether a thread has what the loader's is made with
abbrev pub is_loaders : Thread → Bool
is_loaders t =
    t.param.attr == LOADER_ATTRIBUTE && t.param.option == 0 && t.param.entry == 0
    && t.param.stack_size == LOADER_STACK_SIZE && t.param.priority == LOADER_PRIORITY
    && t.stack == LOADER_STACK && t.gp == 0

-- whether it has what CreateThread accepts, and its stack is behind the kernel's block
abbrev pub is_created : Thread → Bool
is_created t =
    bit_and t.param.attr ATTRIBUTES == t.param.attr && t.param.entry % 4 == 0
    && nat_le KERNEL.size t.stack

-- whether its stack has whole units, and is in RAM by its place, through whatever segment it is told
abbrev pub has_stack : (size : ℕ) → Thread → Bool
has_stack size t =
    t.stack % BLOCK_UNIT == 0 && t.param.stack_size % BLOCK_UNIT == 0
    && nat_lt 0 t.param.stack_size && is_some (range_at size t.stack t.param.stack_size)

abbrev pub thread_can_be : (size : ℕ) → Thread → Bool
thread_can_be size t =
    (if t.id == LOADER then is_loaders t else is_created t) && has_stack size t
    && nat_le t.wakeups MOST_WAKEUPS

-- whether the loader's thread stands, and each thread can be as it is
unfoldable pub threads_can_be : (size : ℕ) → ThreadTable → Bool
threads_can_be size s =
    is_some (thread_of s.live LOADER) && list_all (thread_can_be size) s.live

-- whether a pool is in RAM by its place, as a stack is
abbrev pub is_inside : (size : ℕ) → Pool → Bool
is_inside size x = is_some (range_at size x.base x.size)

-- the live pools of a table
abbrev pub pools_of : {W : Type 0} → Objects Pool W → List Pool
pools_of s = map (λ o. o.state) s.live

-- whether the variable and the fixed pools are
unfoldable pub pools_are_inside : (size : ℕ) → Kernel → Bool
pools_are_inside size k =
    list_all (is_inside size) (pools_of k.variable_pools)
    && list_all (is_inside size) (pools_of k.fixed_pools)

-- all of a kernel are
pub record AreMade (size : ℕ) (k : Kernel) : Type 0 where
  pub threads : threads_can_be size k.threads ≡ true
  pub pools : pools_are_inside size k ≡ true
