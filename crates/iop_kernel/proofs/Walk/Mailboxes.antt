-- What holds after each service of mailboxes.
use Rattle.std.proofs.Common.{◌≡◌, ℕ, ◌+◌, ◌≤◌, not, true, Option, Some, None, Result, Ok, Err, List, [], ◌∷◌, length, refl, ap, sym, ◌∙◌, arith}
use Rattle.std.specs.Prelude.{is_some}
use Rattle.std.proofs.lemmas.Bool.{cond_both}
use Rattle.std.proofs.lemmas.Bool.Decides.{nat_tests}
use Rattle.iop_base.specs.Piece.{Piece}
use Rattle.iop_base.specs.declared.code.Code.{Code}
use Rattle.iop_base.specs.declared.code.TheConstants.Code.{OK, NO_MEMORY, UNKNOWN_MAILBOX, NO_MESSAGE}
use Rattle.iop_mbx.specs.Mailboxes as mailboxes
use Rattle.iop_mbx.specs.Mailboxes.{Mailbox, Mailboxes, is_by_priority, waiters_by_priority, next_message, with_messages}
use Rattle.iop_objects.specs.Objects as objects
use Rattle.iop_objects.specs.Objects.{state_of, waiters_of, with_state}
use Rattle.iop_queues.specs.Queue.{Choice, chooses}
use Rattle.iop_objects.specs.declared.waiter.Waiter.{Waiter}
use Rattle.iop_thread.specs.declared.kind.Kind.TheVariants.{Mailbox as MailboxOf}
use Rattle.iop_kernel.specs.Boards.{Board, board_of, word_in}
use Rattle.iop_kernel.specs.Mailboxes.{message_priority, creates_mbx_at, leaves_mailboxes, queues_by, queues_message, sends_by, receives_by, receives_or_waits, waits_mbx_at, polls_mbx_at}
use Rattle.iop_kernel.specs.System.{Core, Left, System, Done, may_switch, caller, with_mailboxes, answers_result, words_place, code_word}
use Rattle.iop_kernel.specs.declared.after.After.{After}
use Rattle.iop_kernel.proofs.Bodies.KindTables.{by_priority_known}
use Rattle.iop_kernel.proofs.Keeping.Memory.{WordsFit, words_inside}
use Rattle.iop_kernel.proofs.Walk.Changes.MailboxChanges.{puts, gets}
use Rattle.iop_kernel.proofs.Walk.Moves.{EachMoves, ObjectMoves, CoreEnds, BoardEnds}
use Rattle.iop_kernel.proofs.Walk.Objects.{waits_goes}
use Rattle.iop_kernel.proofs.Walk.Stores.{written, either_board}
use Rattle.iop_kernel.proofs.Walk.Threads.{answers_after, only, either}

module _ {P : System → List Piece → Type 0} {Q : After → System → List Piece → Type 0}
    {Asks MayLeave : Type 0} {s : System} (e : EachMoves P Q Asks s)
    (m : ObjectMoves P Q Asks s MayLeave MailboxOf) where
  abbrev c : Core
  c = s.core

  abbrev b : Board
  b = board_of s

  abbrev CoreGoes : Left Core → Type 0
  CoreGoes = CoreEnds Q s

  abbrev BoardGoes : Done Board → Type 0
  BoardGoes = BoardEnds Q s

  abbrev boxes : Mailboxes
  boxes = s.core.kernel.mailboxes

  -- mailboxes: one is made
  mbx_made : (attr option : ℕ) → let done = mailboxes.creates boxes attr option in
      CoreGoes (answers_result (with_mailboxes c done.1) done.0)
  mbx_made attr option =
      cond_both (not (mailboxes.is_attribute attr)) _ _
      (λ (r : Result ℕ Code × Mailboxes). CoreGoes (answers_result (with_mailboxes c r.1) r.0))
      (λ illegal. only e _)
      (λ legal. answers_after e _ _
      (m.makes (record { attr = attr; option = option; messages = [] })
      s.blocks (grind (arith, nat_tests, legal), refl) refl))

  pub creates_mbx_goes : (o : Option ℕ) → CoreGoes (creates_mbx_at c s.memory o)
  creates_mbx_goes None = e.bad_place
  creates_mbx_goes (Some place) =
      let word : ℕ → ℕ = word_in s.memory place in mbx_made (word 0) (word 1)

  -- who is chosen is told by what is known of the mailbox
  ordered : (id : ℕ) {o : Option (Choice (Waiter ℕ))} (x : Mailbox) → state_of boxes id ≡ Some x
      → chooses (is_by_priority boxes id) (waiters_of boxes id) ≡ o
      → chooses (waiters_by_priority x.attr) (waiters_of boxes id) ≡ o
  ordered id x known is =
      ap (λ by. chooses by (waiters_of boxes id))
      (sym (by_priority_known MailboxOf boxes id x known)) ∙ is

  -- a message is queued where none waits
  module _ (id message : ℕ)
      (none : chooses (is_by_priority boxes id) (waiters_of boxes id) ≡ None) where
    puts_go : (priority : ℕ) (o : Option Mailbox) → state_of boxes id ≡ o
        → CoreGoes (leaves_mailboxes c
        (mailboxes.puts_it boxes id (record { priority = priority; item = message }) o))
    puts_go priority None known = only e _
    puts_go priority (Some x) known =
        cond_both (mailboxes.has_room boxes) _ (NO_MEMORY, boxes)
        (λ (r : Code × Mailboxes). CoreGoes (leaves_mailboxes c r))
        (λ room. answers_after e _ _ (m.changes id x _ known (puts _
        (ordered id x known none) room))) (λ full. only e _)

    queues_by_go : (o : Option ℕ) → CoreGoes (queues_by c id message o)
    queues_by_go None = e.bad_place
    queues_by_go (Some priority) = puts_go priority (state_of boxes id) refl

    queues_go : (o : Option Mailbox) → CoreGoes (queues_message c s.memory id message o)
    queues_go None = only e _
    queues_go (Some x) =
        either e (mailboxes.has_room boxes) _ _
        (λ room. queues_by_go (message_priority s.memory x.attr message)) (λ full. only e _)

  -- a message is sent, by who is chosen
  sends_chosen : (id message : ℕ) (x : Mailbox) → state_of boxes id ≡ Some x
      → (o : Option (Choice (Waiter ℕ)))
      → chooses (is_by_priority boxes id) (waiters_of boxes id) ≡ o
      → BoardGoes (sends_by b id message (mailboxes.waiter_for boxes (Some x)
      (objects.takes boxes id o)))
  sends_chosen id message x known None is = queues_go id message is (state_of boxes id)
  sends_chosen id message x known (Some one) is =
      let at = one.one.item.wants in
      written e (words_place s.memory at 1) (message ∷ []) _ OK (words_inside s.memory at 1)
      (m.wakes id (code_word OK) x one known (ordered id x known is) refl)

  sends_by_go : (id message : ℕ) (o : Option Mailbox) → state_of boxes id ≡ o
      → BoardGoes (sends_by b id message (mailboxes.waiter_for boxes o
      (mailboxes.takes_waiter boxes id)))
  sends_by_go id message None known = only e _
  sends_by_go id message (Some x) known =
      sends_chosen id message x known
      (chooses (is_by_priority boxes id) (waiters_of boxes id)) refl

  pub sends_go : (id message : ℕ)
      → BoardGoes (sends_by b id message (mailboxes.takes_waiter_of boxes id))
  sends_go id message = sends_by_go id message (state_of boxes id) refl

  -- one is received, by what is known
  module _ (id place : ℕ) (fits : place + 4 ≤ length s.memory.ram) where
    gets_by : (C : Result ℕ Code × Mailboxes → Type 0) → C (Err UNKNOWN_MAILBOX, boxes)
        → ((x : Mailbox) → state_of boxes id ≡ Some x → next_message x ≡ None
        → C (Err NO_MESSAGE, boxes))
        → ((x : Mailbox) (one : Choice ℕ) → state_of boxes id ≡ Some x
        → next_message x ≡ Some one
        → C (Ok one.one.item, with_state boxes id (with_messages x one.others)))
        → (o : Option Mailbox) → state_of boxes id ≡ o → C (mailboxes.gets_it boxes id o)
    gets_by C unknown none some None known = unknown
    gets_by C unknown none some (Some x) known = by (next_message x) refl
      where
        by : (p : Option (Choice ℕ)) → next_message x ≡ p → C (mailboxes.gets_by boxes id x p)
        by None is = none x known is
        by (Some one) is = some x one known is

    received : (x : Mailbox) (one : Choice ℕ) → state_of boxes id ≡ Some x
        → next_message x ≡ Some one → BoardGoes (receives_by b place
        (Ok one.one.item, with_state boxes id (with_messages x one.others)))
    received x one known is =
        written e (Some place) (one.one.item ∷ []) _ OK (λ p e.
        let same : place ≡ p = cc e in omega (arith, fits, same))
        (m.changes id x _ known (gets one is))

    polled : BoardGoes (receives_by b place (mailboxes.gets boxes id))
    polled =
        gets_by (λ (r : Result ℕ Code × Mailboxes). BoardGoes (receives_by b place r)) (only e _)
        (λ x known none. only e _) received (state_of boxes id) refl

    received_or_waits : Asks → MayLeave → (at : ℕ)
        → is_some (words_place s.memory at 1) ≡ true → may_switch c.kernel ≡ true
        → BoardGoes (receives_or_waits b at id place (mailboxes.gets boxes id))
    received_or_waits asks leave at there may =
        gets_by (λ (r : Result ℕ Code × Mailboxes). BoardGoes (receives_or_waits b at id place r))
        (only e _)
        (λ x known none.
        waits_goes e MailboxOf m asks leave id x at may known none there (caller c) refl)
        received (state_of boxes id) refl

  waits_mbx_by : Asks → MayLeave → (at id : ℕ) (o : Option ℕ) → words_place s.memory at 1 ≡ o
      → WordsFit s.memory o 1 → BoardGoes (waits_mbx_at b at id o)
  waits_mbx_by asks leave at id None is fits = e.bad_place
  waits_mbx_by asks leave at id (Some place) is fits =
      either_board e (may_switch c.kernel) _ _
      (received_or_waits id place (fits place refl) asks leave at (ap is_some is))
      (λ cannot. only e _)

  pub waits_mbx_goes : Asks → MayLeave → (at id : ℕ)
      → BoardGoes (waits_mbx_at b at id (words_place s.memory at 1))
  waits_mbx_goes asks leave at id =
      waits_mbx_by asks leave at id (words_place s.memory at 1) refl
      (words_inside s.memory at 1)

  polls_mbx_by : (id : ℕ) (o : Option ℕ) → WordsFit s.memory o 1 → BoardGoes (polls_mbx_at b id o)
  polls_mbx_by id None fits = e.bad_place
  polls_mbx_by id (Some place) fits = polled id place (fits place refl)

  pub polls_mbx_goes : (at id : ℕ) → BoardGoes (polls_mbx_at b id (words_place s.memory at 1))
  polls_mbx_goes at id = polls_mbx_by id (words_place s.memory at 1) (words_inside s.memory at 1)
