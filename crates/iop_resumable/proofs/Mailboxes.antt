-- Mailboxes stay sound, whichever of their services is called: a message is queued with a priority
-- that its mailbox can have.
use Rattle.std.proofs.Common.{◌≡◌, ℕ, ◌==◌, ◌||◌, not, Bool, true, false, if◌then◌else◌, Option, Some, None, Result, Ok, Err, [], refl, ap, sym, ◌∙◌, subst, arith}
use Rattle.std.proofs.lemmas.Bool.{cond_both}
use Rattle.std.proofs.lemmas.Bool.Decides.{nat_tests}
use Rattle.std.proofs.lemmas.Option.{same_Some}
use Rattle.iop_base.specs.declared.code.Code.{Code}
use Rattle.iop_base.specs.declared.code.TheConstants.Code.{NO_MEMORY, NO_MESSAGE}
use Rattle.iop_mbx.specs.Mailboxes as mailboxes
use Rattle.iop_mbx.specs.Mailboxes.{Mailbox as Box, Mailboxes, messages_by_priority, is_by_priority, next_message}
use Rattle.iop_mbx.specs.Restoring.{can_have}
use Rattle.iop_objects.specs.Objects as objects
use Rattle.iop_objects.specs.Objects.{AreObjects, object_of, state_of, waiters_of}
use Rattle.iop_objects.specs.declared.waiter.Waiter.{Waiter}
use Rattle.iop_objects.proofs.Chosen.{taken_by}
use Rattle.iop_objects.proofs.OtherWaiters.{left_taken}
use Rattle.iop_queues.specs.Queue.{Choice, chooses}
use Rattle.iop_queues.specs.declared.queued.Queued.{Queued}
use Rattle.iop_services.specs.declared.thmsgbx_service.ThmsgbxService.{ThmsgbxService}
use Rattle.iop_services.specs.declared.thmsgbx_service.ThmsgbxService.TheVariants as service
use Rattle.iop_stubs.specs.Stubs.{Memory}
use Rattle.iop_thread.specs.declared.kind.Kind.TheVariants.{Mailbox}
use Rattle.iop_kernel.specs.Boards.{Board, board_of, word_in}
use Rattle.iop_kernel.specs.Kinds.{Live, Table}
use Rattle.iop_kernel.specs.Mailboxes.{message_priority, creates_mbx_at, leaves_mailboxes, queues_by, queues_message, sends_by, receives_by, receives_or_waits, waits_mbx_at, polls_mbx_at, mailbox_words, serves_thmsgbx}
use Rattle.iop_kernel.specs.ObjectServices.{waits_for, deletes_object, refers_to, refers_at}
use Rattle.iop_kernel.specs.Placing.{IsPlaced}
use Rattle.iop_kernel.specs.System.{Core, Left, Done, System, may_switch, caller, argument, words_place, with_mailboxes, answers_result}
use Rattle.iop_kernel.specs.Waits.{is_code}
use Rattle.iop_kernel.proofs.Bodies.KindTables.{by_priority_known}
use Rattle.iop_kernel.proofs.Walk.Changes.MailboxChanges.{puts, gets}
use Rattle.iop_resumable.proofs.Changed.{changed, changed_few, first_sound}
use Rattle.iop_resumable.proofs.ObjectMoves.{with_others}
use Rattle.iop_resumable.proofs.Standing.{Stand, Stands, stand_waiters, stand_left, stand_state, stand_creates, stand_deletes}

-- the priority with which a message is queued is one that its mailbox can have
queued_so : (memory : Memory) (attr message priority : ℕ)
    → message_priority memory attr message ≡ Some priority → can_have attr priority ≡ true
queued_so memory attr message priority = by (messages_by_priority attr) _
  where
    by : (b : Bool) (o : Option ℕ) → (if b then o else Some 0) ≡ Some priority
        → (b || priority == 0) ≡ true
    by true o is = refl
    by false o is = let none : 0 ≡ priority = cc in grind (arith, nat_tests, none)

module _ (s : System) (placed : IsPlaced s.core.kernel) (h : Stands s.core.kernel) where
  abbrev c : Core
  c = s.core

  abbrev b : Board
  b = board_of s

  abbrev boxes : Mailboxes
  boxes = s.core.kernel.mailboxes

  abbrev CoreGoes : Left Core → Type 0
  CoreGoes left = Stands left.state.kernel

  abbrev BoardGoes : Done Board → Type 0
  BoardGoes d = Stands d.left.state.core.kernel

  are : AreObjects s.core.kernel.mailboxes
  are = (placed.objects Mailbox).sound

  -- other mailboxes
  others : (left : Table Mailbox) → Stand Mailbox left → Stands (with_mailboxes s.core left).kernel
  others left so = with_others s.core.kernel (λ kind. (placed.objects kind).sound) h Mailbox left so

  -- one is made
  creates_go : (o : Option ℕ) → CoreGoes (creates_mbx_at c s.memory o)
  creates_go None = h
  creates_go (Some place) = made (word_in s.memory place 0) (word_in s.memory place 1)
    where
      made : (attr option : ℕ) → let done = mailboxes.creates boxes attr option in
          CoreGoes (answers_result (with_mailboxes c done.1) done.0)
      made attr option =
          cond_both (not (mailboxes.is_attribute attr)) _ _
          (λ (r : Result ℕ Code × Mailboxes). CoreGoes (answers_result (with_mailboxes c r.1) r.0))
          (λ illegal. h)
          (λ legal.
          let x : Box = record { attr = attr; option = option; messages = [] } in
          others _ (stand_creates Mailbox boxes are (h Mailbox) x refl
          (first_sound Mailbox x (grind (arith, nat_tests, legal), refl)
          (λ (none : ⊥). absurd none))))

  -- it is deleted
  deletes_go : (o : Option (Live Mailbox)) → CoreGoes (deletes_object Mailbox c o)
  deletes_go None = h
  deletes_go (Some o) = others _ (stand_deletes Mailbox boxes are (h Mailbox) o.id)

  -- a message is queued
  puts_go : (id : ℕ) (message : Queued ℕ) (o : Option Box) → state_of boxes id ≡ o
      → chooses (is_by_priority boxes id) (waiters_of boxes id) ≡ None
      → ((x : Box) → o ≡ Some x → can_have x.attr message.priority ≡ true)
      → CoreGoes (leaves_mailboxes c (mailboxes.puts_it boxes id message o))
  puts_go id message None known none can = h
  puts_go id message (Some x) known none can =
      cond_both (mailboxes.has_room boxes) _ (NO_MEMORY, boxes)
      (λ (r : Code × Mailboxes). CoreGoes (leaves_mailboxes c r))
      (λ room.
      others _ (stand_state Mailbox boxes are (h Mailbox) id x _ known
      (changed_few Mailbox boxes id x _ (h Mailbox).few
      (puts message (by_priority x known none) room))
      (changed Mailbox boxes id x _ (puts message (by_priority x known none) room)
      (can x refl) (waiters_of boxes id))))
      (λ full. h)
    where
      by_priority : (x : Box) → state_of boxes id ≡ Some x
          → chooses (is_by_priority boxes id) (waiters_of boxes id) ≡ None
          → chooses (mailboxes.waiters_by_priority x.attr) (waiters_of boxes id) ≡ None
      by_priority x known none =
          ap (λ by. chooses by (waiters_of boxes id))
          (sym (by_priority_known Mailbox boxes id x known)) ∙ none

  queues_go : (id message : ℕ)
      → chooses (is_by_priority boxes id) (waiters_of boxes id) ≡ None → (o : Option Box)
      → state_of boxes id ≡ o → CoreGoes (queues_message c s.memory id message o)
  queues_go id message none None known = h
  queues_go id message none (Some x) known =
      cond_both (mailboxes.has_room boxes) _ _ CoreGoes
      (λ room. by (message_priority s.memory x.attr message) refl) (λ full. h)
    where
      by : (o : Option ℕ) → message_priority s.memory x.attr message ≡ o
          → CoreGoes (queues_by c id message o)
      by None is = h
      by (Some priority) is =
          puts_go id (record { priority = priority; item = message }) (state_of boxes id) refl none
          (λ y there.
          let same : x ≡ y = same_Some x y (sym known ∙ there) in
          subst (λ (z : Box). can_have z.attr priority ≡ true) same
          (queued_so s.memory x.attr message priority is))

  -- or the next of those that wait is woken
  sends_chosen : (id message : ℕ) (x : Box) → (o : Option (Choice (Waiter ℕ)))
      → chooses (is_by_priority boxes id) (waiters_of boxes id) ≡ o
      → BoardGoes (sends_by b id message (mailboxes.waiter_for boxes (Some x)
      (objects.takes boxes id o)))
  sends_chosen id message x None is = queues_go id message is (state_of boxes id) refl
  sends_chosen id message x (Some one) is =
      others _ (stand_left Mailbox boxes are (h Mailbox) id one.others
      (left_taken (taken_by (is_by_priority boxes id) (waiters_of boxes id) one is)))

  sends_go : (id message : ℕ) (o : Option Box)
      → BoardGoes (sends_by b id message (mailboxes.waiter_for boxes o
      (mailboxes.takes_waiter boxes id)))
  sends_go id message None = h
  sends_go id message (Some x) =
      sends_chosen id message x (chooses (is_by_priority boxes id) (waiters_of boxes id)) refl

  -- one is received, by what is known
  gets_by : (C : Result ℕ Code × Mailboxes → Type 0) → (id : ℕ)
      → ((code : Code) → C (Err code, boxes))
      → ((word : ℕ) (left : Mailboxes) → Stand Mailbox left → C (Ok word, left))
      → (o : Option Box) → state_of boxes id ≡ o → C (mailboxes.gets_it boxes id o)
  gets_by C id none some None known = none _
  gets_by C id none some (Some x) known = by (next_message x) refl
    where
      by : (p : Option (Choice ℕ)) → next_message x ≡ p → C (mailboxes.gets_by boxes id x p)
      by None is = none _
      by (Some one) is =
          some one.one.item _ (stand_state Mailbox boxes are (h Mailbox) id x _ known
          (changed_few Mailbox boxes id x _ (h Mailbox).few (gets one is))
          (changed Mailbox boxes id x _ (gets one is) tt (waiters_of boxes id)))

  -- or the thread that calls waits
  waits_go : (id at : ℕ) (who : Option ℕ) → CoreGoes (waits_for Mailbox c id at who)
  waits_go id at None = h
  waits_go id at (Some thread) =
      others _ (stand_waiters Mailbox boxes are (h Mailbox) id _ (λ x known sound. sound))

  received_or_waits : (id place at : ℕ)
      → BoardGoes (receives_or_waits b at id place (mailboxes.gets boxes id))
  received_or_waits id place at =
      gets_by (λ (r : Result ℕ Code × Mailboxes). BoardGoes (receives_or_waits b at id place r)) id
      (λ code. cond_both (is_code code NO_MESSAGE) _ _ BoardGoes
      (λ none. waits_go id at (caller c)) (λ other. h))
      (λ word left so. others left so) (state_of boxes id) refl

  waits_mbx_go : (at id : ℕ) (o : Option ℕ) → BoardGoes (waits_mbx_at b at id o)
  waits_mbx_go at id None = h
  waits_mbx_go at id (Some place) =
      cond_both (may_switch c.kernel) _ _ BoardGoes (λ may. received_or_waits id place at)
      (λ cannot. h)

  polls_go : (id : ℕ) (o : Option ℕ) → BoardGoes (polls_mbx_at b id o)
  polls_go id None = h
  polls_go id (Some place) =
      gets_by (λ (r : Result ℕ Code × Mailboxes). BoardGoes (receives_by b place r)) id
      (λ code. h) (λ word left so. others left so) (state_of boxes id) refl

  -- its status is told
  refers_to_go : (place : ℕ) (o : Option (Live Mailbox))
      → BoardGoes (refers_to Mailbox mailbox_words b place o)
  refers_to_go place None = h
  refers_to_go place (Some o) = h

  refers_go : (id : ℕ) (o : Option ℕ) → BoardGoes (refers_at Mailbox mailbox_words b id o)
  refers_go id None = h
  refers_go id (Some place) = refers_to_go place (object_of boxes.live id)

  pub thmsgbx_stands : (x : ThmsgbxService) → BoardGoes (serves_thmsgbx b x)
  unfolding serves_thmsgbx
  thmsgbx_stands service.CreateMbx = creates_go _
  thmsgbx_stands service.DeleteMbx = deletes_go (object_of boxes.live (argument c 0))
  thmsgbx_stands service.SendMbx =
      sends_go (argument c 0) (argument c 1) (state_of boxes (argument c 0))
  thmsgbx_stands service.ReceiveMbx =
      waits_mbx_go (argument c 0) (argument c 1) (words_place s.memory (argument c 0) 1)
  thmsgbx_stands service.PollMbx =
      polls_go (argument c 1) (words_place s.memory (argument c 0) 1)
  thmsgbx_stands service.ReferMbxStatus =
      refers_go (argument c 0) _
