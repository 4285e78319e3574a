-- How a thread is made on a stack of its own, and deleted with it (ps2sdk: thbase.h; the codes are
-- those of its kerr.h). The conditions and the order of the refusals are this project's own
-- profile.
use Rattle.std.specs.Prelude.{ℕ, ◌==◌, not, if◌then◌else◌, Option, Some, None, Result, Ok, Err, ◌+◌, ◌*◌, ◌%◌, nat_lt, replicate, bit_and, ◌||◌}
use Rattle.iop_base.specs.BlockSizes.{block_len}
use Rattle.iop_base.specs.Numbers.{number_at}
use Rattle.iop_base.specs.declared.code.Code.{Code}
use Rattle.iop_base.specs.declared.code.TheConstants.Code.{ILLEGAL_PRIORITY, NO_MEMORY, ILLEGAL_ATTRIBUTE, ILLEGAL_ENTRY, ILLEGAL_STACK_SIZE, OK, ILLEGAL_THREAD}
use Rattle.iop_base.specs.declared.guest_fault.GuestFault.TheVariants.{Address, Service}
use Rattle.iop_exec.specs.Row.{reg}
use Rattle.iop_ready.specs.Priorities.{priority_of as priority_of_word}
use Rattle.iop_stubs.specs.Stubs.{range_place}
use Rattle.iop_sysmem.specs.Allocating.{allocating}
use Rattle.iop_sysmem.specs.BlockMap.{BlockMap, freeing}
use Rattle.iop_thread.specs.Operations as threads
use Rattle.iop_thread.specs.ThreadTable.{has_room, ThreadTable}
use Rattle.iop_thread.specs.declared.param.Param.{Param}
use Rattle.iop_thread.specs.declared.thread.TheConstants.{LOADER}
use Rattle.iop_kernel.specs.Answering.{only_answers}
use Rattle.iop_kernel.specs.System.{with_threads, answers_result, faults, System, Served, silent, on_core, words_place, stores, storing_lines, Core, Left, caller, answers, switches}
use Rattle.iop_kernel.specs.ThreadStarts.{returns_module, ended}
use Rattle.iop_kernel.specs.declared.stacks.TheConstants.{ATTRIBUTES, LEAST_STACK, FROM_ABOVE, PARAM_WORDS}

-- what the words of CreateThread ask for, or why no thread is made
abbrev pub with_priority : (attr option entry size : ℕ) → Option ℕ → Result Param Code
with_priority attr option entry size None = Err ILLEGAL_PRIORITY
with_priority attr option entry size (Some priority) =
    if nat_lt size LEAST_STACK then Err ILLEGAL_STACK_SIZE
    else Ok (record {
      attr = attr;
      option = option;
      entry = entry;
      stack_size = size;
      priority = priority;
    })

abbrev pub param_of : (attr option entry size priority : ℕ) → Result Param Code
param_of attr option entry size priority =
    if not (bit_and attr ATTRIBUTES == attr) then Err ILLEGAL_ATTRIBUTE
    else if not (entry % 4 == 0) then Err ILLEGAL_ENTRY
    else with_priority attr option entry size (priority_of_word priority)

module _ (s : System) where
  -- the stack is filled with bytes 0xFF
  abbrev pub creates_on : Param → (stack : ℕ) → BlockMap → Served
  creates_on param stack blocks =
      let fill = replicate param.stack_size 0xFF in
      let place = range_place s.memory stack param.stack_size in
      let made = threads.creates s.core.kernel.threads param stack (reg s.core.cpu 28) in
      record {
        left = on_core (stores (record s { blocks = blocks }) place fill)
            (answers_result (with_threads s.core made.1) made.0);
        pieces = storing_lines s place fill;
      }

  -- by the block that is taken for the stack
  abbrev pub creates_at : Param → ℕ × BlockMap → Served
  creates_at param (stack, blocks) =
      if stack == 0 then only_answers s NO_MEMORY
      else creates_on (record param { stack_size = block_len param.stack_size }) stack blocks

  -- by what the words ask for; the stack is the last block of its size that is free
  abbrev pub creates_with : Result Param Code → Served
  creates_with (Err code) = only_answers s code
  creates_with (Ok param) =
      if has_room s.core.kernel.threads
      then creates_at param (allocating s.blocks FROM_ABOVE param.stack_size 0)
      else only_answers s NO_MEMORY

  -- by the place of the words
  abbrev pub creates_from : Option ℕ → Served
  creates_from None = silent (faults s Address)
  creates_from (Some place) =
      let word : ℕ → ℕ = λ k. number_at s.memory.ram (place + 4 * k) 4 in
      creates_with (param_of (word 0) (word 1) (word 2) (word 3) (word 4))

  -- CreateThread
  abbrev pub create_thread : (at : ℕ) → Served
  create_thread at = creates_from (words_place s.memory at PARAM_WORDS)

-- the kernel with its processor and the blocks of memory
pub record Owner : Type 0 where
  pub core : Core
  pub blocks : BlockMap

abbrev pub owner_of : System → Owner
owner_of s = record { core = s.core; blocks = s.blocks }

-- a call that leaves all else as it was
abbrev pub on_owner : System → Left Owner → Left System
on_owner s left = record {
  state = record s { core = left.state.core; blocks = left.state.blocks };
  after = left.after;
}

-- the same, with the blocks as they were
abbrev pub with_blocks : BlockMap → Left Core → Left Owner
with_blocks blocks left =
    record { state = record { core = left.state; blocks = blocks }; after = left.after }

module _ (o : Owner) where
  -- by what the deletion came to; the block that begins at the thread's stack is freed, if there is
  -- one
  abbrev pub deletes_by : Result ℕ Code × ThreadTable → Left Owner
  deletes_by (Ok stack, threads) =
      with_blocks (freeing o.blocks stack).1 (answers (with_threads o.core threads) OK)
  deletes_by (Err code, threads) = with_blocks o.blocks (answers o.core code)

  -- DeleteThread
  abbrev pub delete_thread : (id : ℕ) → Left Owner
  delete_thread id =
      if id == 0 || id == LOADER then with_blocks o.blocks (answers o.core ILLEGAL_THREAD)
      else deletes_by (threads.deletes o.core.kernel.threads id)

  -- the same of the thread that calls, which has ended
  abbrev pub exits_deleted : Result ℕ Code × ThreadTable → Left Owner
  exits_deleted (Ok stack, threads) =
      with_blocks (freeing o.blocks stack).1 (switches (with_threads (ended o.core) threads))
  exits_deleted (Err code, threads) = with_blocks o.blocks (switches (ended o.core))

  -- by the thread that calls; of the loader's thread this is the return of its module, of 0
  abbrev pub exits_deleted_by : Option ℕ → Left Owner
  exits_deleted_by None = with_blocks o.blocks (faults o.core Service)
  exits_deleted_by (Some id) =
      if id == LOADER then with_blocks o.blocks (returns_module o.core 0)
      else exits_deleted (threads.deletes (ended o.core).kernel.threads id)

  -- ExitDeleteThread
  abbrev pub exit_delete_thread : Left Owner
  exit_delete_thread = exits_deleted_by (caller o.core)
