-- The services of thmsgbx (ps2sdk: thmsgbx.h; the codes are those of its kerr.h). The conditions
-- and the order of the refusals, when a message's priority is looked at, and the words that
-- ReferMbxStatus writes, are this project's own profile.
use Rattle.std.specs.Prelude.{ℕ, ◌+◌, if◌then◌else◌, Option, Some, None, Result, Ok, Err, option_map, unwrap_or, List, [], ◌∷◌, length}
use Rattle.iop_base.specs.Numbers.{number_at, wrapped}
use Rattle.iop_base.specs.declared.code.Code.{Code}
use Rattle.iop_base.specs.declared.code.TheConstants.Code.{OK, NO_MEMORY, UNKNOWN_MAILBOX, NO_MESSAGE, CANNOT_WAIT}
use Rattle.iop_base.specs.declared.guest_fault.GuestFault.TheVariants.{Address}
use Rattle.iop_kernel.specs.Boards.{Board, quiet, writes, word_in}
use Rattle.iop_kernel.specs.Kinds.{Live}
use Rattle.iop_kernel.specs.ObjectServices.{waits_for, delete_object, refer_status}
use Rattle.iop_kernel.specs.System.{Core, Left, Done, argument, may_switch, caller, with_mailboxes, answers, answers_result, faults, words_place}
use Rattle.iop_kernel.specs.Waits.{is_code, wakes_with}
use Rattle.iop_kernel.specs.declared.mailboxes.TheConstants.{MAILBOX_WORDS, MAILBOX_STATUS_WORDS, PRIORITY_OFFSET}
use Rattle.iop_mbx.specs.Mailboxes.{Mailboxes, messages_by_priority, next_message}
use Rattle.iop_mbx.specs.Mailboxes as mailboxes
use Rattle.iop_objects.specs.Objects.{state_of}
use Rattle.iop_objects.specs.declared.waiter.Waiter.{Waiter}
use Rattle.iop_services.specs.declared.thmsgbx_service.ThmsgbxService.{ThmsgbxService}
use Rattle.iop_services.specs.declared.thmsgbx_service.ThmsgbxService.TheVariants as service
use Rattle.iop_stubs.specs.Stubs.{Memory, range_place}
use Rattle.iop_thread.specs.declared.kind.Kind.TheVariants.{Mailbox}

-- a live mailbox
abbrev pub LiveMailbox : Type 0
LiveMailbox = Live Mailbox

-- the priority of a message: its byte at PRIORITY_OFFSET, where its mailbox looks at it
abbrev pub priority_at : Memory → Option ℕ → Option ℕ
priority_at memory place = option_map (λ at. number_at memory.ram at 1) place

abbrev pub message_priority : Memory → (attr message : ℕ) → Option ℕ
message_priority memory attr message =
    if messages_by_priority attr
    then priority_at memory (range_place memory (wrapped (message + PRIORITY_OFFSET)) 1)
    else Some 0

module _ (c : Core) where
  -- an operation on mailboxes answers a code
  abbrev pub leaves_mailboxes : Code × Mailboxes → Left Core
  leaves_mailboxes (code, left) = answers (with_mailboxes c left) code

  -- by the place of the words: attribute, option
  abbrev pub creates_mbx_at : Memory → Option ℕ → Left Core
  creates_mbx_at memory None = faults c Address
  creates_mbx_at memory (Some place) =
      let word : ℕ → ℕ = word_in memory place in
      let done = mailboxes.creates c.kernel.mailboxes (word 0) (word 1) in
      answers_result (with_mailboxes c done.1) done.0

  -- CreateMbx
  abbrev pub create_mbx : Memory → (at : ℕ) → Left Core
  create_mbx memory at = creates_mbx_at memory (words_place memory at MAILBOX_WORDS)

  -- DeleteMbx
  abbrev pub delete_mbx : (id : ℕ) → Left Core
  delete_mbx = delete_object Mailbox c

  -- the thread that calls waits for a message, which is to be written at an address
  abbrev pub waits_for_message : (id at : ℕ) → Option ℕ → Left Core
  waits_for_message = waits_for Mailbox c

  -- a message is queued
  abbrev pub queues_by : (id message : ℕ) → Option ℕ → Left Core
  queues_by id message None = faults c Address
  queues_by id message (Some priority) =
      leaves_mailboxes (mailboxes.puts c.kernel.mailboxes id message priority)

  abbrev pub queues_message : Memory → (id message : ℕ) → Option mailboxes.Mailbox → Left Core
  queues_message memory id message None = answers c UNKNOWN_MAILBOX
  queues_message memory id message (Some x) =
      if mailboxes.has_room c.kernel.mailboxes
      then queues_by id message (message_priority memory x.attr message)
      else answers c NO_MEMORY

-- the words of a mailbox's status
abbrev pub next_word : mailboxes.Mailbox → ℕ
next_word x = unwrap_or (option_map (λ choice. choice.one.item) (next_message x)) 0

abbrev pub mailbox_words : LiveMailbox → List ℕ
mailbox_words o =
    o.state.attr ∷ o.state.option ∷ length o.waiters ∷ length o.state.messages
    ∷ next_word o.state ∷ []

module _ (b : Board) where
  -- by the next of those that wait: it is woken with 0 and the message written to its place, or the
  -- message is queued
  abbrev pub sends_by : (id message : ℕ) → Result (Option (Waiter ℕ)) Code × Mailboxes
      → Done Board
  sends_by id message (Err code, left) = quiet b.memory (answers b.core code)
  sends_by id message (Ok (Some waiter), left) =
      writes b.memory (words_place b.memory waiter.wants 1) (message ∷ [])
      (wakes_with (with_mailboxes b.core left) waiter.thread OK)
  sends_by id message (Ok None, left) =
      quiet b.memory
      (queues_message b.core b.memory id message (state_of b.core.kernel.mailboxes id))

  -- SendMbx
  abbrev pub send_mbx : (id message : ℕ) → Done Board
  send_mbx id message =
      sends_by id message (mailboxes.takes_waiter_of b.core.kernel.mailboxes id)

  -- by what was received: the message is written
  abbrev pub receives_by : (place : ℕ) → Result ℕ Code × Mailboxes → Done Board
  receives_by place (Ok message, left) =
      writes b.memory (Some place) (message ∷ []) (with_mailboxes b.core left)
  receives_by place (Err code, left) = quiet b.memory (answers b.core code)

  -- the thread that calls waits where there is no message
  abbrev pub receives_or_waits : (at id place : ℕ) → Result ℕ Code × Mailboxes → Done Board
  receives_or_waits at id place (Ok message, left) = receives_by place (Ok message, left)
  receives_or_waits at id place (Err code, left) =
      if is_code code NO_MESSAGE
      then quiet b.memory (waits_for_message b.core id at (caller b.core))
      else receives_by place (Err code, left)

  -- by the place for the message
  abbrev pub waits_mbx_at : (at id : ℕ) → Option ℕ → Done Board
  waits_mbx_at at id None = quiet b.memory (faults b.core Address)
  waits_mbx_at at id (Some place) =
      if may_switch b.core.kernel
      then receives_or_waits at id place (mailboxes.gets b.core.kernel.mailboxes id)
      else quiet b.memory (answers b.core CANNOT_WAIT)

  -- ReceiveMbx
  abbrev pub receive_mbx : (at id : ℕ) → Done Board
  receive_mbx at id = waits_mbx_at at id (words_place b.memory at 1)

  abbrev pub polls_mbx_at : (id : ℕ) → Option ℕ → Done Board
  polls_mbx_at id None = quiet b.memory (faults b.core Address)
  polls_mbx_at id (Some place) =
      receives_by place (mailboxes.gets b.core.kernel.mailboxes id)

  -- PollMbx
  abbrev pub poll_mbx : (at id : ℕ) → Done Board
  poll_mbx at id = polls_mbx_at id (words_place b.memory at 1)

-- ReferMbxStatus
abbrev pub refer_mbx_status : Board → (id at : ℕ) → Done Board
refer_mbx_status b = refer_status Mailbox mailbox_words b MAILBOX_STATUS_WORDS

-- a service of thmsgbx
unfoldable pub serves_thmsgbx : Board → ThmsgbxService → Done Board
serves_thmsgbx b service.CreateMbx =
    quiet b.memory (create_mbx b.core b.memory (argument b.core 0))
serves_thmsgbx b service.DeleteMbx = quiet b.memory (delete_mbx b.core (argument b.core 0))
serves_thmsgbx b service.SendMbx = send_mbx b (argument b.core 0) (argument b.core 1)
serves_thmsgbx b service.ReceiveMbx = receive_mbx b (argument b.core 0) (argument b.core 1)
serves_thmsgbx b service.PollMbx = poll_mbx b (argument b.core 0) (argument b.core 1)
serves_thmsgbx b service.ReferMbxStatus =
    refer_mbx_status b (argument b.core 0) (argument b.core 1)
