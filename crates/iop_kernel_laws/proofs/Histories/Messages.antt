-- Each service of the kernel does to the messages of mailboxes what the history of calls tells.
use Rattle.std.proofs.Common.{◌≡◌, ℕ, ◌<◌, ◌==◌, not, true, false, inl, inr, Option, Some, None, All, Result, Ok, Err, [], ◌∷◌, ◌++◌, length, refl, ap, ◌∙◌, subst, arith}
use Rattle.std.specs.Prelude.{is_some}
use Rattle.std.proofs.lemmas.Bool.{and_left, and_right, cond_both, eq-eqb}
use Rattle.iop_base.specs.Numbers.{wrapped}
use Rattle.iop_base.specs.declared.code.Code.{Code}
use Rattle.iop_base.specs.declared.code.TheConstants.Code.{OK, NO_MEMORY, UNKNOWN_MAILBOX, NO_MESSAGE, CANNOT_WAIT}
use Rattle.iop_base.specs.declared.guest_fault.GuestFault.TheVariants.{Address}
use Rattle.iop_mbx.specs.Mailboxes.{Mailbox, Mailboxes, is_by_priority, next_message, with_messages}
use Rattle.iop_mbx.specs.Mailboxes as mailboxes
use Rattle.iop_objects.specs.Objects.{object_of, state_of, waiters_of, with_state, with_waiters}
use Rattle.iop_objects.specs.Objects as objects
use Rattle.iop_queues.specs.Queue.{Choice, chooses}
use Rattle.iop_queues.specs.declared.queued.Queued.{Queued}
use Rattle.iop_objects.specs.declared.waiter.Waiter.{Waiter}
use Rattle.iop_objects.proofs.Chosen.{chosen_one}
use Rattle.iop_objects.proofs.Others.{waiters_leave_states}
use Rattle.iop_services.specs.declared.service.Service.{Service}
use Rattle.iop_services.specs.declared.service.Service.TheVariants.{Thmsgbx}
use Rattle.iop_services.specs.declared.thmsgbx_service.ThmsgbxService.TheVariants.{CreateMbx, DeleteMbx, SendMbx, ReceiveMbx, PollMbx, ReferMbxStatus}
use Rattle.iop_stubs.specs.Stubs.{Memory, after_store}
use Rattle.iop_thread.specs.declared.kind.Kind.TheVariants.{Mailbox as MailboxOf}
use Rattle.iop_kernel.specs.Boards.{Board, board_of, word_in, bytes_of_words}
use Rattle.iop_kernel_laws.specs.Histories.{is_send, is_receive, has_waiter, word_at, received_by, message_by, call_with, called}
use Rattle.iop_kernel.specs.Mailboxes.{creates_mbx_at, leaves_mailboxes, message_priority, queues_by, queues_message, sends_by, receives_by, receives_or_waits, waits_mbx_at, polls_mbx_at, mailbox_words, serves_thmsgbx}
use Rattle.iop_kernel.specs.Overdue.{AreIdle, NoneOverdue}
use Rattle.iop_kernel.specs.Serving.{serves, services}
use Rattle.iop_kernel.specs.System.{Core, Left, System, Done, argument, answers, faults, caller, may_switch, code_word, words_place}
use Rattle.iop_kernel.specs.WaiterPlaces.{HavePlaces}
use Rattle.iop_kernel.specs.declared.mailboxes.TheConstants.{MAILBOX_WORDS, MAILBOX_STATUS_WORDS}
use Rattle.iop_kernel_laws.proofs.Histories.Calls.{board_core, word_tells, one_waits, none_waits, TellsOf, CoreTells, waits_tell, deletes_tell, status_tells, ItTells, others_tell, services_tell}
use Rattle.iop_kernel_laws.proofs.Histories.Calls as telling
use Rattle.iop_kernel_laws.proofs.Histories.DeliveredHistories.{delivers, elsewhere_delivers, sent_of, received_of, put_keeps, handed_keeps, got_keeps}
use Rattle.iop_kernel_laws.proofs.Histories.Telling.{TellsBy, one_becomes, one_changes, creates_told, unless}
use Rattle.iop_kernel.proofs.Keeping.Memory.{words_inside}
use Rattle.iop_kernel.proofs.Placing.Queues.{none_chosen}
use Rattle.iop_kernel.proofs.Readings.WordBytes.{first_at}

-- the service that sends, and those that receive
abbrev Send : Service
Send = Thmsgbx SendMbx

abbrev Receive : Service
Receive = Thmsgbx ReceiveMbx

abbrev Poll : Service
Poll = Thmsgbx PollMbx

module _ (b : Board) (registers : 2 < length b.core.cpu.regs) where
  abbrev c : Core
  c = b.core

  abbrev boxes : Mailboxes
  boxes = c.kernel.mailboxes

  -- by what a call leaves of the kernel, whatever message memory got by it
  abbrev Delivers : Service → Left Core → Type 0
  Delivers = CoreTells MailboxOf delivers c

  -- the message that memory got, by what a call leaves of both
  abbrev message_in : Service → Done Board → ℕ
  message_in x d = message_by c b.memory d.left.state.memory x (board_core d)

  abbrev BoardDelivers : Service → Done Board → Type 0
  BoardDelivers x d = TellsOf MailboxOf delivers c x (board_core d) (message_in x d)

  -- a word that was written at a place stands there
  word_there : (at word : ℕ) (o : Option ℕ) → words_place b.memory at 1 ≡ o → is_some o ≡ true
      → word_at (after_store b.memory o (bytes_of_words (word ∷ []))) o ≡ wrapped word
  word_there at word None is there = absurd (cc there)
  word_there at word (Some place) is there =
      first_at b.memory.ram place (word ∷ []) (words_inside b.memory at 1 place is) (omega arith)

  -- a call that answers a code other than 0 delivers nothing, nor does one that faults
  refused : (x : Service) (code : Code) → (code_word code == 0) ≡ false
      → Delivers x (answers c code)
  refused x = telling.refused MailboxOf delivers c x registers

  faulted : (x : Service) → Delivers x (faults c Address)
  faulted x = telling.faulted MailboxOf delivers c x Address

  -- a mailbox is made, by the place of the words
  creates_mbx_delivers : (o : Option ℕ) → Delivers (Thmsgbx CreateMbx) (creates_mbx_at c b.memory o)
  creates_mbx_delivers None got = faulted (Thmsgbx CreateMbx) got
  creates_mbx_delivers (Some place) got =
      let word : ℕ → ℕ = word_in b.memory place in
      let made = call_with c (Thmsgbx CreateMbx) (creates_mbx_at c b.memory (Some place)) got in
      let call = Some made in
      let nothing : (n : ℕ) → delivers.Nothing n call = λ n. delivers.silent n made (refl, refl) in
      unless delivers boxes call nothing (not (mailboxes.is_attribute (word 0))) _ _
      (λ legal. creates_told delivers boxes call nothing
      (record { attr = word 0; option = word 1; messages = [] }) refl)

  -- the mailbox that is sent to, and the message
  abbrev to_id : ℕ
  to_id = argument c 0

  abbrev message : ℕ
  message = argument c 1

  -- a message for which none waits
  module _ (free : has_waiter c Send ≡ false) where
    -- is queued
    put_delivers : (priority : ℕ) (o : Option Mailbox) → state_of boxes to_id ≡ o
        → Delivers Send (leaves_mailboxes c
        (mailboxes.puts_it boxes to_id (record { priority = priority; item = message }) o))
    put_delivers priority None live got = refused Send UNKNOWN_MAILBOX refl got
    put_delivers priority (Some x) live got =
        let m : Queued ℕ = record { priority = priority; item = message } in
        let z = with_messages x (x.messages ++ m ∷ []) in
        let call = call_with c Send (leaves_mailboxes c (OK, with_state boxes to_id z)) got in
        let own = eq-eqb to_id to_id refl in
        let did = word_tells c registers 0 in
        let sent : sent_of to_id (Some call) ≡ wrapped message ∷ [] = rw (own, did) refl in
        let none : received_of to_id (Some call) ≡ [] = rw (own, did, free) refl in
        cond_both (mailboxes.has_room boxes) (OK, with_state boxes to_id z) (NO_MEMORY, boxes)
        (λ (r : Code × Mailboxes). TellsOf MailboxOf delivers c Send (leaves_mailboxes c r) got)
        (λ room. one_changes delivers boxes (Some call) to_id x z live
        (put_keeps to_id (Some call) x m sent none)
        (λ n apart. elsewhere_delivers n call apart refl))
        (λ full. refused Send NO_MEMORY refl got)

    -- by its priority
    queues_delivers : (o : Option ℕ) → Delivers Send (queues_by c to_id message o)
    queues_delivers None = faulted Send
    queues_delivers (Some priority) = put_delivers priority (state_of boxes to_id) refl

    -- by what is known of the mailbox
    queues_message_delivers : (o : Option Mailbox)
        → Delivers Send (queues_message c b.memory to_id message o)
    queues_message_delivers None = refused Send UNKNOWN_MAILBOX refl
    queues_message_delivers (Some x) =
        cond_both (mailboxes.has_room boxes) _ _ (Delivers Send)
        (λ room. queues_delivers (message_priority b.memory x.attr message))
        (λ full. refused Send NO_MEMORY refl)

  -- a thread that waits for a message has a place for it
  abbrev HasItsPlace : Queued (Waiter ℕ) → Type 0
  HasItsPlace x = is_some (words_place b.memory x.item.wants 1) ≡ true

  module _ (idle : AreIdle MailboxOf boxes)
      (places : All HasItsPlace (waiters_of boxes to_id)) where
    -- where a thread is chosen among those that wait there is no message
    no_message : (x : Mailbox) → state_of boxes to_id ≡ Some x → (one : Choice (Waiter ℕ))
        → chooses (is_by_priority boxes to_id) (waiters_of boxes to_id) ≡ Some one
        → x.messages ≡ []
    no_message x live one is =
        elim (idle to_id x live) [
          | inl none ↦
              absurd (none_chosen (is_by_priority boxes to_id) one
              (subst (λ ws. chooses (is_by_priority boxes to_id) ws ≡ Some one) none is))
          | inr empty ↦ empty
        ]

    -- a message is sent, by that choice
    sends_chosen : (x : Mailbox) → state_of boxes to_id ≡ Some x → (o : Option (Choice (Waiter ℕ)))
        → chooses (is_by_priority boxes to_id) (waiters_of boxes to_id) ≡ o
        → BoardDelivers Send (sends_by b to_id message
        (mailboxes.waiter_for boxes (Some x) (objects.takes boxes to_id o)))
    sends_chosen x live None is =
        queues_message_delivers
        (none_waits (is_by_priority boxes to_id) (waiters_of boxes to_id) is) (state_of boxes to_id)
        _
    sends_chosen x live (Some one) is =
        let d = sends_by b to_id message
        (mailboxes.waiter_for boxes (Some x) (objects.takes boxes to_id (Some one))) in
        let at = one.one.item.wants in
        let call = call_with c Send (board_core d) (message_in Send d) in
        let own = eq-eqb to_id to_id refl in
        let did = word_tells c registers 0 in
        let waited = one_waits (is_by_priority boxes to_id) (waiters_of boxes to_id) one is in
        let its : message_in Send d ≡ wrapped message =
        rw (did, is) (word_there at message (words_place b.memory at 1) refl
        (chosen_one HasItsPlace (is_by_priority boxes to_id) (waiters_of boxes to_id) one is
        places)) in
        let sent : sent_of to_id (Some call) ≡ wrapped message ∷ [] = rw (own, did) refl in
        let received : received_of to_id (Some call) ≡ wrapped message ∷ [] =
        ap (λ (m : ℕ). received_of to_id (Some (call_with c Send (board_core d) m))) its
        ∙ rw (own, did, waited) refl in
        one_becomes delivers boxes (Some call) to_id x x live
        (handed_keeps to_id (Some call) x (wrapped message) sent received
        (no_message x live one is))
        (λ n apart. elsewhere_delivers n call apart refl) (with_waiters boxes to_id one.others)
        (waiters_leave_states to_id one.others boxes to_id ∙ live)
        (λ n apart. waiters_leave_states to_id one.others boxes n) (omega arith)

    -- by what is known of the mailbox
    sends_delivered : (o : Option Mailbox) → state_of boxes to_id ≡ o
        → BoardDelivers Send (sends_by b to_id message
        (mailboxes.waiter_for boxes o (mailboxes.takes_waiter boxes to_id)))
    sends_delivered None live = refused Send UNKNOWN_MAILBOX refl _
    sends_delivered (Some x) live =
        sends_chosen x live (chooses (is_by_priority boxes to_id) (waiters_of boxes to_id)) refl

  -- the mailbox that is received from
  abbrev from_id : ℕ
  from_id = argument c 1

  -- the place of the message
  abbrev place_of : Option ℕ
  place_of = words_place b.memory (argument c 0) 1

  -- a message is received
  module _ (x : Service) (no_send : is_send x ≡ false) (receipt : is_receive x ≡ true)
      (reads : (after : Memory) → received_by c b.memory after x ≡ word_at after place_of) where
    got_delivers : (place : ℕ) → place_of ≡ Some place → (box : Mailbox)
        → state_of boxes from_id ≡ Some box → (one : Choice ℕ)
        → next_message box ≡ Some one → BoardDelivers x (receives_by b place
        (Ok one.one.item, with_state boxes from_id (with_messages box one.others)))
    got_delivers place stands box live one next =
        let z = with_messages box one.others in
        let item = one.one.item in
        let d = receives_by b place (Ok item, with_state boxes from_id z) in
        let call = call_with c x (board_core d) (message_in x d) in
        let own = eq-eqb from_id from_id refl in
        let did = word_tells c registers 0 in
        let its : message_in x d ≡ wrapped item =
        rw did (reads d.left.state.memory ∙ ap (word_at d.left.state.memory) stands
        ∙ word_there (argument c 0) item (Some place) stands refl) in
        let none : sent_of from_id (Some call) ≡ [] = rw no_send refl in
        let received : received_of from_id (Some call) ≡ wrapped item ∷ [] =
        ap (λ (m : ℕ). received_of from_id (Some (call_with c x (board_core d) m))) its
        ∙ rw (no_send, receipt, own, did) refl in
        one_changes delivers boxes (Some call) from_id box z live
        (got_keeps from_id (Some call) box one next none received)
        (λ n apart. elsewhere_delivers n call (and_left _ (to_id == n) no_send)
        (and_right (is_receive x) (from_id == n) apart))

  -- by what is known of the mailbox, and whether there is one
  gets_by : (C : Result ℕ Code × Mailboxes → Type 0) → C (Err UNKNOWN_MAILBOX, boxes)
      → C (Err NO_MESSAGE, boxes)
      → ((x : Mailbox) → state_of boxes from_id ≡ Some x → (one : Choice ℕ)
      → next_message x ≡ Some one
      → C (Ok one.one.item, with_state boxes from_id (with_messages x one.others)))
      → (o : Option Mailbox) → state_of boxes from_id ≡ o → C (mailboxes.gets_it boxes from_id o)
  gets_by C unknown none got None live = unknown
  gets_by C unknown none got (Some x) live = by (next_message x) refl
    where
      by : (o : Option (Choice ℕ)) → next_message x ≡ o → C (mailboxes.gets_by boxes from_id x o)
      by None next = none
      by (Some one) next = got x live one next

  -- where there is none it is refused
  polls_mbx_delivers : (o : Option ℕ) → place_of ≡ o → BoardDelivers Poll (polls_mbx_at b from_id o)
  polls_mbx_delivers None stands = faulted Poll _
  polls_mbx_delivers (Some place) stands =
      gets_by (λ (r : Result ℕ Code × Mailboxes). BoardDelivers Poll (receives_by b place r))
      (refused Poll UNKNOWN_MAILBOX refl _) (refused Poll NO_MESSAGE refl _)
      (got_delivers Poll refl refl (λ after. refl) place stands) (state_of boxes from_id) refl

  -- or the thread that calls waits, where another one may run
  waits_mbx_delivers : (at : ℕ) (o : Option ℕ) → place_of ≡ o
      → BoardDelivers Receive (waits_mbx_at b at from_id o)
  waits_mbx_delivers at None stands = faulted Receive _
  waits_mbx_delivers at (Some place) stands =
      cond_both (may_switch c.kernel) _ _ (BoardDelivers Receive) (λ may.
      gets_by (λ (r : Result ℕ Code × Mailboxes).
      BoardDelivers Receive (receives_or_waits b at from_id place r))
      (refused Receive UNKNOWN_MAILBOX refl _)
      (waits_tell MailboxOf delivers c Receive from_id at (caller c) _)
      (got_delivers Receive refl refl (λ after. refl) place stands) (state_of boxes from_id) refl)
      (λ cannot. refused Receive CANNOT_WAIT refl _)

module _ (s : System) (registers : 2 < length s.core.cpu.regs)
    (overdue : NoneOverdue s.core.kernel) (places : HavePlaces s.memory s.core.kernel) where
  -- each service
  each : (x : Service) → ItTells MailboxOf delivers s x (serves s x)
  unfolding serves serves_thmsgbx
  each (Thmsgbx CreateMbx) =
      creates_mbx_delivers (board_of s) registers
      (words_place s.memory (argument s.core 0) MAILBOX_WORDS) _
  each (Thmsgbx DeleteMbx) =
      deletes_tell MailboxOf delivers s.core (Thmsgbx DeleteMbx) (refl, refl)
      (object_of s.core.kernel.mailboxes.live (argument s.core 0)) _
  each (Thmsgbx SendMbx) =
      sends_delivered (board_of s) registers (overdue.objects MailboxOf)
      (places MailboxOf (argument s.core 0))
      (state_of s.core.kernel.mailboxes (argument s.core 0)) refl
  each (Thmsgbx ReceiveMbx) =
      let at = argument s.core 0 in
      waits_mbx_delivers (board_of s) registers at (words_place s.memory at 1) refl
  each (Thmsgbx PollMbx) =
      polls_mbx_delivers (board_of s) registers (words_place s.memory (argument s.core 0) 1) refl
  each (Thmsgbx ReferMbxStatus) =
      status_tells MailboxOf delivers s.core (Thmsgbx ReferMbxStatus) (refl, refl) s.memory
      mailbox_words (argument s.core 0)
      (words_place s.memory (argument s.core 1) MAILBOX_STATUS_WORDS) _
  each other = others_tell MailboxOf delivers s other (refl, refl) (λ is. absurd (cc is)) _

-- each service delivers as it is called, where the processor has its registers
pub services_deliver : (s : System) (code : ℕ) → 2 < length s.core.cpu.regs
    → NoneOverdue s.core.kernel → HavePlaces s.memory s.core.kernel
    → TellsBy delivers s.core.kernel.mailboxes (services s code).left.state.core.kernel.mailboxes
    (called s code)
services_deliver s code registers overdue places =
    services_tell MailboxOf delivers s registers (each s registers overdue places) code
