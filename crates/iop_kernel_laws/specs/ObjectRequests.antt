-- What the law of objects' requests says: which bits an event flag is left with, which of them are
-- tested, and with which priority a message is queued. Of the other services of objects other laws
-- say it.
use Rattle.std.specs.Prelude.{◌≡◌, ℕ, ◌+◌, true, false, Option, Some, None, Result, Ok, Err, [], ◌∷◌}
use Rattle.iop_base.specs.Numbers.{number_at, wrapped}
use Rattle.iop_base.specs.declared.code.Code.{Code}
use Rattle.iop_event.specs.EventFlags as flags
use Rattle.iop_event.specs.WakeConditions.{settles}
use Rattle.iop_mbx.specs.Mailboxes as mailboxes
use Rattle.iop_objects.specs.Objects.{object_of, state_of}
use Rattle.iop_services.specs.declared.thevent_service.TheventService.TheVariants.{SetEventFlag, ClearEventFlag, PollEventFlag}
use Rattle.iop_services.specs.declared.thmsgbx_service.ThmsgbxService.TheVariants.{SendMbx}
use Rattle.iop_stubs.specs.Stubs.{range_place}
use Rattle.iop_kernel.specs.Boards.{Board, quiet, writes, optional_place}
use Rattle.iop_kernel.specs.EventFlags.{LiveFlag, serves_thevent}
use Rattle.iop_kernel.specs.Mailboxes.{serves_thmsgbx}
use Rattle.iop_kernel.specs.System.{argument, answers, with_event_flags, with_mailboxes}
use Rattle.iop_kernel_laws.specs.WordLaws.{set_bits}

module _ (b : Board) where
  abbrev pub id : ℕ
  id = argument b.core 0

  abbrev pub second : ℕ
  second = argument b.core 1

  -- SetEventFlag: the bits of the second argument are added; those stay that no waiter cleared
  abbrev pub SetsBits : Type 0
  SetsBits =
      (o : LiveFlag) → object_of b.core.kernel.event_flags.live id ≡ Some o
      → state_of (serves_thevent b SetEventFlag).left.state.core.kernel.event_flags id
      ≡ Some (record o.state { pattern = (settles (set_bits b o) o.waiters).pattern })

  -- ClearEventFlag: the bits of the second argument alone stay
  abbrev pub ClearsBits : Type 0
  ClearsBits =
      let done = flags.clears b.core.kernel.event_flags id second in
      serves_thevent b ClearEventFlag
      ≡ quiet b.memory (answers (with_event_flags b.core done.1) done.0)

  -- PollEventFlag: the bits of the second argument are tested by the mode, the third
  abbrev pub tested : Result ℕ Code × flags.EventFlags
  tested = flags.tests b.core.kernel.event_flags id second (argument b.core 2)

  abbrev pub PollsBits : Type 0
  PollsBits =
      (place : Option ℕ) (pattern : ℕ) (left : flags.EventFlags)
      → optional_place b.memory (argument b.core 3) ≡ Some place → tested ≡ (Ok pattern, left)
      → serves_thevent b PollEventFlag
      ≡ writes b.memory place (pattern ∷ []) (with_event_flags b.core left)

  abbrev pub PollsInVain : Type 0
  PollsInVain =
      (place : Option ℕ) (code : Code) (left : flags.EventFlags)
      → optional_place b.memory (argument b.core 3) ≡ Some place → tested ≡ (Err code, left)
      → serves_thevent b PollEventFlag ≡ quiet b.memory (answers b.core code)

  -- SendMbx: where no thread waits, and there is room, the second argument is queued as a message
  -- of a priority
  abbrev pub Queues : (priority : ℕ) → Type 0
  Queues priority =
      let done = mailboxes.puts b.core.kernel.mailboxes id second priority in
      serves_thmsgbx b SendMbx ≡ quiet b.memory (answers (with_mailboxes b.core done.1) done.0)

  abbrev pub IsFree : mailboxes.Mailbox → Type 0
  IsFree x =
      (state_of b.core.kernel.mailboxes id ≡ Some x)
      × ((mailboxes.takes_waiter_of b.core.kernel.mailboxes id).0 ≡ Ok None)
      × (mailboxes.has_room b.core.kernel.mailboxes ≡ true)

  pub record ServesObjects : Type 0 where
    pub set : SetsBits
    pub clear : ClearsBits
    pub poll : PollsBits
    pub poll_in_vain : PollsInVain
    -- the fifth byte of the message is its priority where the mailbox looks at it
    pub queue_by_priority : (x : mailboxes.Mailbox) (place : ℕ) → IsFree x
        → mailboxes.messages_by_priority x.attr ≡ true
        → range_place b.memory (wrapped (second + 4)) 1 ≡ Some place
        → Queues (number_at b.memory.ram place 1)
    pub queue : (x : mailboxes.Mailbox) → IsFree x → mailboxes.messages_by_priority x.attr ≡ false
        → Queues 0

-- each of them by its service
abbrev pub ObjectRequestsAreServed : Type 0
ObjectRequestsAreServed = (b : Board) → ServesObjects b
