-- What a history of calls sends to the mailboxes and receives from them, and that one more call
-- delivers what has become of their messages.
use Rattle.std.proofs.Common.{◌≡◌, ℕ, ◌≤◌, ◌+◌, ◌==◌, ◌&&◌, Bool, true, false, option_to_list, Option, Some, None, List, [], ◌∷◌, ◌++◌, map, append-nil, append_assoc, refl, ap, sym, ◌∙◌, subst, arith}
use Rattle.std.proofs.lemmas.Bool.{and_left, and_right}
use Rattle.std.proofs.lemmas.Bool.Decides.{nat_tests}
use Rattle.std.proofs.lemmas.Grind.{flat_map-append}
use Rattle.std.proofs.lemmas.List.{map-append}
use Rattle.iop_base.specs.Numbers.{wrapped}
use Rattle.iop_mbx.specs.Mailboxes.{Mailbox, Mailboxes, messages_by_priority, next_message, with_messages}
use Rattle.iop_objects.specs.Objects.{state_of}
use Rattle.iop_objects.proofs.Others.{HaveIdsBelow}
use Rattle.iop_queues.specs.Queue.{Choice, chooses}
use Rattle.iop_queues.specs.declared.queued.Queued.{Queued}
use Rattle.iop_queues.proofs.Choosing.{queues_chosen}
use Rattle.iop_thread.specs.Placing.{times}
use Rattle.iop_kernel_laws.specs.Histories.{Called, is_send, is_receive, succeeds, sent_in, received_in, sent, received, queued, IsDelivered, AreDelivered}
use Rattle.iop_kernel_laws.proofs.Histories.Telling.{Tells, TellsBy, Becomes, longer, nothing_yet}
use Rattle.iop_kernel.proofs.Placing.Queues.{times_append}

-- the message that a call sent to a mailbox, if there is a call and it is one
abbrev pub sent_of : (id : ℕ) → Option Called → List ℕ
sent_of id call = sent id (option_to_list call)

-- the messages that were received from it
abbrev pub received_of : (id : ℕ) → Option Called → List ℕ
received_of id call = received id (option_to_list call)

-- the messages of a mailbox are what it had and what was sent, less what was received; in order,
-- where they are not taken by their priority
abbrev pub Keeps : (id : ℕ) → Option Called → (x y : Mailbox) → Type 0
Keeps id call x y =
    (y.attr ≡ x.attr)
    × ((m : ℕ) → times m (sent_of id call) + times m (queued x)
    ≡ times m (received_of id call) + times m (queued y))
    × (messages_by_priority x.attr ≡ false
    → queued x ++ sent_of id call ≡ received_of id call ++ queued y)

-- a call neither sends to a mailbox nor receives from it
abbrev pub DeliversNothing : (id : ℕ) → Option Called → Type 0
DeliversNothing id call = (sent_of id call ≡ []) × (received_of id call ≡ [])

module _ (id : ℕ) (c : Called) where
  abbrev sends_to : Bool
  sends_to = is_send c.service && c.first == id

  abbrev receives_from : Bool
  receives_from = is_receive c.service && c.second == id

  -- so where it is neither a send that succeeds nor a receipt that does
  nothing_by : (sends_to && succeeds c) ≡ false → (receives_from && succeeds c) ≡ false
      → DeliversNothing id (Some c)
  nothing_by no_send no_receipt =
      (rw no_send refl, rw (and_left _ c.had_waiter no_send, no_receipt) refl)

  -- so where it does not succeed
  pub refused_delivers : succeeds c ≡ false → DeliversNothing id (Some c)
  refused_delivers fails =
      nothing_by (and_right sends_to _ fails) (and_right receives_from _ fails)

  -- or where it neither sends to it nor receives from it
  pub elsewhere_delivers : sends_to ≡ false → receives_from ≡ false → DeliversNothing id (Some c)
  elsewhere_delivers no_send no_receipt =
      nothing_by (and_left _ (succeeds c) no_send) (and_left _ (succeeds c) no_receipt)

-- the messages of mailboxes are delivered; one that is made has none
abbrev pub delivers : Tells Mailbox
delivers = record {
  Keeps = Keeps;
  Nothing = DeliversNothing;
  First = λ x. queued x ≡ [];
  Silent = λ x. (is_send x ≡ false) × (is_receive x ≡ false);
  alone = λ id call nothing x. (
    refl,
    λ m. rw (nothing.0, nothing.1) refl,
    λ first. rw (nothing.0, nothing.1) (append-nil (queued x)),
  );
  none = λ id. (refl, refl);
  silent = λ id c no.
      elsewhere_delivers id c (and_left _ (c.first == id) no.0) (and_left _ (c.second == id) no.1);
  fails = refused_delivers;
}

module _ (m : ℕ) where
  -- how often a message is in a queue
  abbrev often : List (Queued ℕ) → ℕ
  often queue = times m (map (λ x. wrapped x.item) queue)

  -- one is taken from among others
  taken_often : (before behind : List (Queued ℕ)) (one : Queued ℕ)
      → often (before ++ one ∷ behind) ≡ times m (wrapped one.item ∷ []) + often (before ++ behind)
  taken_often [] behind one =
      times_append m (wrapped one.item ∷ []) (map (λ x. wrapped x.item) behind)
  taken_often (x ∷ before) behind one =
      grind (arith, nat_tests, taken_often before behind one)

  -- so one that is chosen, by priority or by arrival
  chosen_often : (by_priority : Bool) (queue : List (Queued ℕ)) (c : Choice ℕ)
      → chooses by_priority queue ≡ Some c
      → often queue ≡ times m (wrapped c.one.item ∷ []) + often c.others
  chosen_often true queue c is =
      let h = (queues_chosen.by_priority queue c is).taken in
      ap often h.queue_is ∙ taken_often h.before h.behind c.one
      ∙ ap (λ others. times m (wrapped c.one.item ∷ []) + often others) (sym h.others_are)
  chosen_often false queue c is =
      ap often (queues_chosen.order false queue c is) ∙ taken_often [] c.others c.one

module _ (id : ℕ) (call : Option Called) (x : Mailbox) where
  -- a message that was sent is queued behind all others
  pub put_keeps : (m : Queued ℕ) → sent_of id call ≡ wrapped m.item ∷ []
      → received_of id call ≡ []
      → Keeps id call x (with_messages x (x.messages ++ m ∷ []))
  put_keeps m sent none =
      let more : queued (with_messages x (x.messages ++ m ∷ [])) ≡ queued x ++ wrapped m.item ∷ [] =
      map-append (λ (m : Queued ℕ). wrapped m.item) x.messages (m ∷ []) in (
        refl,
        λ n. rw (sent, none, more)
            (omega (arith, times_append n (queued x) (wrapped m.item ∷ []))),
        λ first. rw (sent, none) (sym more),
      )

  -- or is received at once, where there is no message
  pub handed_keeps : (message : ℕ) → sent_of id call ≡ message ∷ []
      → received_of id call ≡ message ∷ [] → x.messages ≡ [] → Keeps id call x x
  handed_keeps message sent received empty = (
    refl,
    λ n. rw (sent, received) refl,
    λ first. rw (sent, received, empty) refl,
  )

  -- the next one is received
  pub got_keeps : (one : Choice ℕ) → next_message x ≡ Some one → sent_of id call ≡ []
      → received_of id call ≡ wrapped one.one.item ∷ []
      → Keeps id call x (with_messages x one.others)
  got_keeps one next none received = (
    refl,
    λ n. rw (none, received)
        (omega (arith, chosen_often n (messages_by_priority x.attr) x.messages one next)),
    λ first. rw (none, received)
        (append-nil (queued x) ∙ ap (map (λ m. wrapped m.item))
        (queues_chosen.order false x.messages one
        (subst (λ (b : Bool). chooses b x.messages ≡ Some one) first next))),
  )

-- all messages are those of a history, which has no call for a mailbox that is still to be made
pub record IsDeliveryHistory (s : Mailboxes) (history : List Called) : Type 0 where
  pub delivered : AreDelivered s history
  pub fresh : (id : ℕ) → s.next ≤ id → (sent id history ≡ []) × (received id history ≡ [])

-- a call more, if there is one
module _ (history : List Called) (call : Option Called) where
  abbrev with_call : List Called
  with_call = longer history call

  -- what it sends comes behind
  sent_longer : (id : ℕ) → sent id with_call ≡ sent id history ++ sent_of id call
  sent_longer id = flat_map-append (sent_in id) history (option_to_list call)

  -- and what it receives
  received_longer : (id : ℕ) → received id with_call ≡ received id history ++ received_of id call
  received_longer id = flat_map-append (received_in id) history (option_to_list call)

  -- of one that was not live there is nothing, as there was nothing
  nothing_longer : (id : ℕ) → DeliversNothing id call
      → (sent id history ≡ []) × (received id history ≡ [])
      → (sent id with_call ≡ []) × (received id with_call ≡ [])
  nothing_longer id now before = (
    sent_longer id ∙ rw (before.0, now.0) refl,
    received_longer id ∙ rw (before.1, now.1) refl,
  )

  -- a mailbox that stays has the messages of the longer history: each as often, and in order
  delivered_longer : (id : ℕ) (x y : Mailbox)
      → IsDelivered x (sent id history) (received id history) → Keeps id call x y
      → IsDelivered y (sent id with_call) (received id with_call)
  delivered_longer id x y before kept = record {
    all = λ m.
        omega (
          arith,
          ap (times m) (sent_longer id),
          ap (times m) (received_longer id),
          times_append m (sent id history) (sent_of id call),
          times_append m (received id history) (received_of id call),
          before.all m,
          kept.1 m,
        );
    order = λ first.
        let arrival = ap messages_by_priority (sym kept.0) ∙ first in
        sent_longer id ∙ ap (λ xs. xs ++ sent_of id call) (before.order arrival)
        ∙ append_assoc (received id history) (queued x) (sent_of id call)
        ∙ ap (λ xs. received id history ++ xs) (kept.2 arrival)
        ∙ sym (append_assoc (received id history) (received_of id call) (queued y))
        ∙ ap (λ xs. xs ++ queued y) (sym (received_longer id));
  }

  module _ (old new : Mailboxes) (given : HaveIdsBelow old.next old.live)
      (by : TellsBy delivers old new call) (h : IsDeliveryHistory old history) where
    -- each mailbox that is live then, by what was known of it before
    delivered_by : (id : ℕ) (y : Mailbox) (o : Option Mailbox) → state_of old id ≡ o
        → Becomes delivers old.next id call o (Some y)
        → IsDelivered y (sent id with_call) (received id with_call)
    delivered_by id y None was (now, above, first) =
        let none = nothing_longer id now (h.fresh id above) in
        record {
          all = λ m. rw (none.0, none.1, first) refl;
          order = λ arrival. rw (none.0, none.1, first) refl;
        }
    delivered_by id y (Some x) was kept = delivered_longer id x y (h.delivered id x was) kept

    -- the messages are those of the longer history
    pub delivery_history_grows : IsDeliveryHistory new with_call
    delivery_history_grows = record {
      delivered = λ id y live.
          delivered_by id y (state_of old id) refl
          (subst (Becomes delivers old.next id call (state_of old id)) live (by.each id));
      fresh = λ id above.
          let still : old.next ≤ id = omega (arith, by.rises, above) in
          nothing_longer id (nothing_yet delivers old call new given by id still)
          (h.fresh id still);
    }
