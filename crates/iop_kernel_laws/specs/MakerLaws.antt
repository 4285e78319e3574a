-- What the law of makers says: a handler, an alarm, a thread and an object have what the service
-- that registers, sets or makes them was given, and the first three the `$gp` of who called it.
use Rattle.std.specs.Prelude.{◌≡◌, ◌≢◌, ◌⊎◌, ℕ, ◌+◌, ◌*◌, ◌%◌, ◌^◌, ◌≤◌, true, Some, [], replicate, bit_and, Contains}
use Rattle.iop_base.specs.BlockSizes.{block_len}
use Rattle.iop_event.specs.EventFlags as flags
use Rattle.iop_exec.specs.Row.{reg}
use Rattle.iop_intr.specs.InterruptLines.{handler_of, registering}
use Rattle.iop_mbx.specs.Mailboxes as mailboxes
use Rattle.iop_objects.specs.Objects as objects
use Rattle.iop_ready.specs.Priorities.{priority_of as priority_of_word}
use Rattle.iop_sema.specs.Semaphores as semaphores
use Rattle.iop_services.specs.declared.intrman_service.IntrmanService.TheVariants.{RegisterIntrHandler}
use Rattle.iop_services.specs.declared.thbase_service.ThbaseService.TheVariants.{CreateThread, SetAlarm}
use Rattle.iop_services.specs.declared.thevent_service.TheventService.TheVariants.{CreateEventFlag}
use Rattle.iop_services.specs.declared.thmsgbx_service.ThmsgbxService.TheVariants.{CreateMbx}
use Rattle.iop_services.specs.declared.thsemap_service.ThsemapService.TheVariants.{CreateSema}
use Rattle.iop_stubs.specs.Stubs.{Memory, after_store, range_place}
use Rattle.iop_sysmem.specs.Allocating.{allocating}
use Rattle.iop_sysmem.specs.BlockMap.{BlockMap}
use Rattle.iop_thread.specs.Operations.{creates}
use Rattle.iop_thread.specs.ThreadTable.{has_room}
use Rattle.iop_thread.specs.declared.param.Param.{Param}
use Rattle.iop_thread.specs.declared.thread.Thread.{Thread}
use Rattle.iop_time.specs.ClockTime.{moment_after}
use Rattle.iop_time.specs.Timers.{sets_alarm}
use Rattle.iop_kernel.specs.Boards.{Board, quiet, word_in}
use Rattle.iop_kernel.specs.EventFlags.{serves_thevent}
use Rattle.iop_kernel.specs.Interrupts.{serves_intrman}
use Rattle.iop_kernel.specs.Mailboxes.{serves_thmsgbx}
use Rattle.iop_kernel.specs.Semaphores.{serves_thsemap}
use Rattle.iop_kernel.specs.System.{System, Core, argument, with_irqs, with_timers, with_threads, with_semaphores, with_event_flags, with_mailboxes, answers, answers_result, silent, on_core, words_place}
use Rattle.iop_kernel.specs.Thbase.{serves_thbase}
use Rattle.iop_kernel.specs.declared.event_flags.TheConstants.{FLAG_WORDS}
use Rattle.iop_kernel.specs.declared.mailboxes.TheConstants.{MAILBOX_WORDS}
use Rattle.iop_kernel.specs.declared.semaphores.TheConstants.{SEMAPHORE_WORDS}
use Rattle.iop_kernel.specs.declared.stacks.TheConstants.{ATTRIBUTES, LEAST_STACK, FROM_ABOVE, PARAM_WORDS}
use Rattle.iop_kernel.specs.declared.system_clock.TheConstants.{TIME_WORDS}

-- the `$gp` of who calls
abbrev pub gp_of : Core → ℕ
gp_of c = reg c.cpu 28

-- what the words of CreateThread, which stand at a place, ask for with a priority
abbrev pub param_at : Memory → (place priority : ℕ) → Param
param_at memory place priority = record {
  attr = word_in memory place 0;
  option = word_in memory place 1;
  entry = word_in memory place 2;
  stack_size = block_len (word_in memory place 3);
  priority = priority;
}

-- a thread can be made by them, on a stack at an address; these blocks are used then
pub record CanBeMade (s : System) (place priority stack : ℕ) (blocks : BlockMap) : Type 0 where
  pub attr : bit_and (word_in s.memory place 0) ATTRIBUTES ≡ word_in s.memory place 0
  pub entry : word_in s.memory place 2 % 4 ≡ 0
  pub within : priority_of_word (word_in s.memory place 4) ≡ Some priority
  pub least : LEAST_STACK ≤ word_in s.memory place 3
  pub room : has_room s.core.kernel.threads ≡ true
  pub taken : allocating s.blocks FROM_ABOVE (word_in s.memory place 3) 0 ≡ (stack, blocks)
  pub some : stack ≢ 0

-- it is made so: its stack is filled with bytes 0xFF, and its id is answered
abbrev pub with_thread : System → Param → (stack : ℕ) → BlockMap → System
with_thread s param stack blocks =
    let made = creates s.core.kernel.threads param stack (gp_of s.core) in
    let fill = replicate param.stack_size 0xFF in
    record s {
      core = (answers_result (with_threads s.core made.1) made.0).state;
      memory = after_store s.memory (range_place s.memory stack param.stack_size) fill;
      blocks = blocks;
    }

-- a thread has what the words ask for at the address of the first argument
pub record IsAsked (s : System) (t : Thread) : Type 0 where
  pub place : ℕ
  pub there : words_place s.memory (argument s.core 0) PARAM_WORDS ≡ Some place
  pub priority : priority_of_word (word_in s.memory place 4) ≡ Some t.param.priority
  pub param : t.param ≡ param_at s.memory place t.param.priority
  pub gp : t.gp ≡ gp_of s.core

-- each by its service; what it answers is the code or the id that comes of it
pub record MadeAsGiven : Type 0 where
  -- RegisterIntrHandler: of a line, the handler and its argument
  pub handlers : (b : Board) → let c = b.core in
      let done = registering c.kernel.irqs (argument c 0)
      (handler_of (argument c 2) (argument c 3) (gp_of c)) in
      serves_intrman b RegisterIntrHandler ≡ quiet b.memory (answers (with_irqs c done.1) done.0)
  -- SetAlarm: after so many ticks as the two words at the first argument say, the lower one first,
  -- the handler and its argument
  pub alarms : (s : System) (place : ℕ) → let c = s.core in
      words_place s.memory (argument c 0) TIME_WORDS ≡ Some place
      → let ticks = word_in s.memory place 0 + 2 ^ 32 * word_in s.memory place 1 in
      let done = sets_alarm c.kernel.timers (moment_after c.kernel.clock ticks) (argument c 1)
      (argument c 2) (gp_of c) in
      serves_thbase s SetAlarm ≡ silent (on_core s (answers (with_timers c done.1) done.0))
  -- CreateThread: where one can be made, it is made as the words ask
  pub threads : (s : System) (place priority stack : ℕ) (blocks : BlockMap)
      → words_place s.memory (argument s.core 0) PARAM_WORDS ≡ Some place
      → CanBeMade s place priority stack blocks
      → (serves_thbase s CreateThread).left.state
      ≡ with_thread s (param_at s.memory place priority) stack blocks
  -- and each thread that is live then was live before, or is as they ask
  pub other_threads : (s : System) (t : Thread)
      → Contains (serves_thbase s CreateThread).left.state.core.kernel.threads.live t
      → Contains s.core.kernel.threads.live t ⊎ IsAsked s t
  -- CreateSema: by attribute, option, first count and most
  pub semaphores : (b : Board) (place : ℕ) → let c = b.core in
      let word : ℕ → ℕ = word_in b.memory place in
      words_place b.memory (argument c 0) SEMAPHORE_WORDS ≡ Some place
      → semaphores.is_attribute (word 0) ≡ true → word 2 ≤ word 3
      → let done = objects.creates c.kernel.semaphores (record {
        attr = word 0;
        option = word 1;
        initial = word 2;
        max = word 3;
        count = word 2;
      }) in
      serves_thsemap b CreateSema
      ≡ quiet b.memory (answers_result (with_semaphores c done.1) done.0)
  -- CreateEventFlag: by attribute, option and first pattern
  pub event_flags : (b : Board) (place : ℕ) → let c = b.core in
      let word : ℕ → ℕ = word_in b.memory place in
      words_place b.memory (argument c 0) FLAG_WORDS ≡ Some place
      → flags.is_attribute (word 0) ≡ true
      → let done = objects.creates c.kernel.event_flags (record {
        attr = word 0;
        option = word 1;
        first = word 2;
        pattern = word 2;
      }) in
      serves_thevent b CreateEventFlag
      ≡ quiet b.memory (answers_result (with_event_flags c done.1) done.0)
  -- CreateMbx: by attribute and option, without a message
  pub mailboxes : (b : Board) (place : ℕ) → let c = b.core in
      let word : ℕ → ℕ = word_in b.memory place in
      words_place b.memory (argument c 0) MAILBOX_WORDS ≡ Some place
      → mailboxes.is_attribute (word 0) ≡ true
      → let done = objects.creates c.kernel.mailboxes
      (record { attr = word 0; option = word 1; messages = [] }) in
      serves_thmsgbx b CreateMbx
      ≡ quiet b.memory (answers_result (with_mailboxes c done.1) done.0)
