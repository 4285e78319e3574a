-- What the laws of statuses say: the words that a service writes are read where it wrote them. Each
-- is told as the word that it leaves, so that nothing has to be known of what is written.
use Rattle.std.specs.Prelude.{◌≡◌, ℕ, ◌+◌, Some, option_map, unwrap_or, List, length}
use Rattle.iop_base.specs.Numbers.{number_at, wrapped}
use Rattle.iop_mbx.specs.Mailboxes.{next_message}
use Rattle.iop_objects.specs.Objects as objects
use Rattle.iop_services.specs.declared.thbase_service.ThbaseService.TheVariants.{ReferThreadStatus}
use Rattle.iop_services.specs.declared.thevent_service.TheventService.TheVariants.{ReferEventFlagStatus}
use Rattle.iop_services.specs.declared.thmsgbx_service.ThmsgbxService.TheVariants.{ReferMbxStatus}
use Rattle.iop_services.specs.declared.thsemap_service.ThsemapService.TheVariants.{ReferSemaStatus}
use Rattle.iop_thread.specs.States.{state_number, wait_in, kind_number, object_of}
use Rattle.iop_thread.specs.ThreadTable.{thread_of}
use Rattle.iop_thread.specs.declared.thread.Thread.{Thread}
use Rattle.iop_kernel.specs.Boards.{Board}
use Rattle.iop_kernel.specs.EventFlags.{LiveFlag, serves_thevent}
use Rattle.iop_kernel.specs.Mailboxes.{LiveMailbox, serves_thmsgbx}
use Rattle.iop_kernel.specs.NamedThreads.{named}
use Rattle.iop_kernel.specs.Semaphores.{LiveSemaphore, serves_thsemap}
use Rattle.iop_kernel.specs.System.{System, argument, caller, words_place}
use Rattle.iop_kernel.specs.Thbase.{serves_thbase}
use Rattle.iop_kernel.specs.declared.event_flags.TheConstants.{FLAG_STATUS_WORDS}
use Rattle.iop_kernel.specs.declared.mailboxes.TheConstants.{MAILBOX_STATUS_WORDS}
use Rattle.iop_kernel.specs.declared.semaphores.TheConstants.{SEMAPHORE_STATUS_WORDS}
use Rattle.iop_kernel.specs.declared.thread_status.TheConstants.{STATUS_WORDS}

-- the words of a thread's status stand at a place: with these names ReferThreadStatus of ps2sdk's
-- thbase.h has them
pub record HasStatus (ram : List ℕ) (place : ℕ) (t : Thread) : Type 0 where
  pub attr : number_at ram place 4 ≡ wrapped t.param.attr
  pub option : number_at ram (place + 4) 4 ≡ wrapped t.param.option
  pub status : number_at ram (place + 8) 4 ≡ state_number t.state
  pub entry : number_at ram (place + 12) 4 ≡ wrapped t.param.entry
  pub stack : number_at ram (place + 16) 4 ≡ wrapped t.stack
  pub stack_size : number_at ram (place + 20) 4 ≡ wrapped t.param.stack_size
  pub gp : number_at ram (place + 24) 4 ≡ wrapped t.gp
  pub first_priority : number_at ram (place + 28) 4 ≡ wrapped t.param.priority
  pub priority : number_at ram (place + 32) 4 ≡ wrapped t.priority
  pub wait_kind : number_at ram (place + 36) 4
      ≡ unwrap_or (option_map kind_number (wait_in t.state)) 0
  pub wait_id : number_at ram (place + 40) 4
      ≡ wrapped (unwrap_or (option_map object_of (wait_in t.state)) 0)
  pub wakeups : number_at ram (place + 44) 4 ≡ wrapped t.wakeups

-- the status of the thread that the first argument names is read at the second
abbrev pub StatusIsRead : Type 0
StatusIsRead =
    (s : System) (place id : ℕ) (t : Thread)
    → words_place s.memory (argument s.core 1) STATUS_WORDS ≡ Some place
    → named (caller s.core) (argument s.core 0) ≡ Some id
    → thread_of s.core.kernel.threads.live id ≡ Some t
    → HasStatus (serves_thbase s ReferThreadStatus).left.state.memory.ram place t

-- the words of a semaphore's status stand at a place: with these names ReferSemaStatus of ps2sdk's
-- thsemap.h has them
pub record HasSemaphoreStatus (ram : List ℕ) (place : ℕ) (o : LiveSemaphore) : Type 0 where
  pub attr : number_at ram place 4 ≡ wrapped o.state.attr
  pub option : number_at ram (place + 4) 4 ≡ wrapped o.state.option
  pub initial : number_at ram (place + 8) 4 ≡ wrapped o.state.initial
  pub max : number_at ram (place + 12) 4 ≡ wrapped o.state.max
  pub current : number_at ram (place + 16) 4 ≡ wrapped o.state.count
  -- how many threads wait
  pub waiting : number_at ram (place + 20) 4 ≡ wrapped (length o.waiters)

-- the status of the live semaphore of the first argument is read at the second
abbrev pub SemaphoreStatusIsRead : Type 0
SemaphoreStatusIsRead =
    (b : Board) (place : ℕ) (o : LiveSemaphore)
    → words_place b.memory (argument b.core 1) SEMAPHORE_STATUS_WORDS ≡ Some place
    → objects.object_of b.core.kernel.semaphores.live (argument b.core 0) ≡ Some o
    → HasSemaphoreStatus (serves_thsemap b ReferSemaStatus).left.state.memory.ram place o

-- the words of an event flag's status stand at a place: with these names ReferEventFlagStatus of
-- ps2sdk's thevent.h has them
pub record HasFlagStatus (ram : List ℕ) (place : ℕ) (o : LiveFlag) : Type 0 where
  pub attr : number_at ram place 4 ≡ wrapped o.state.attr
  pub option : number_at ram (place + 4) 4 ≡ wrapped o.state.option
  pub first_bits : number_at ram (place + 8) 4 ≡ wrapped o.state.first
  pub current_bits : number_at ram (place + 12) 4 ≡ wrapped o.state.pattern
  -- how many threads wait
  pub waiting : number_at ram (place + 16) 4 ≡ wrapped (length o.waiters)

-- the status of the live event flag of the first argument is read at the second
abbrev pub FlagStatusIsRead : Type 0
FlagStatusIsRead =
    (b : Board) (place : ℕ) (o : LiveFlag)
    → words_place b.memory (argument b.core 1) FLAG_STATUS_WORDS ≡ Some place
    → objects.object_of b.core.kernel.event_flags.live (argument b.core 0) ≡ Some o
    → HasFlagStatus (serves_thevent b ReferEventFlagStatus).left.state.memory.ram place o

-- the words of a mailbox's status stand at a place: with these names ReferMbxStatus of ps2sdk's
-- thmsgbx.h has them
pub record HasMailboxStatus (ram : List ℕ) (place : ℕ) (o : LiveMailbox) : Type 0 where
  pub attr : number_at ram place 4 ≡ wrapped o.state.attr
  pub option : number_at ram (place + 4) 4 ≡ wrapped o.state.option
  -- how many threads wait
  pub waiting : number_at ram (place + 8) 4 ≡ wrapped (length o.waiters)
  pub messages : number_at ram (place + 12) 4 ≡ wrapped (length o.state.messages)
  -- the message that is received next, 0 where there is none
  pub next : number_at ram (place + 16) 4
      ≡ wrapped (unwrap_or (option_map (λ choice. choice.one.item) (next_message o.state)) 0)

-- the status of the live mailbox of the first argument is read at the second
abbrev pub MailboxStatusIsRead : Type 0
MailboxStatusIsRead =
    (b : Board) (place : ℕ) (o : LiveMailbox)
    → words_place b.memory (argument b.core 1) MAILBOX_STATUS_WORDS ≡ Some place
    → objects.object_of b.core.kernel.mailboxes.live (argument b.core 0) ≡ Some o
    → HasMailboxStatus (serves_thmsgbx b ReferMbxStatus).left.state.memory.ram place o
