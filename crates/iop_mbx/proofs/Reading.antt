-- What a table tells of its mailboxes, and what is left of it when its objects change.
use Rattle.std.proofs.Common.{◌≡◌, ℕ, ◌+◌, Bool, true, false, not, is_some, option_map, List, [], ◌∷◌, ◌++◌, length, map, sum, filter, if◌then◌else◌, refl, ap, sym, ◌∙◌, arith}
use Rattle.std.specs.Prelude.{◌==◌}
use Rattle.std.proofs.lemmas.Bool.Decides.{nat_tests}
use Rattle.std.proofs.lemmas.List.{map_push}
use Rattle.std.proofs.lemmas.Simd.{map-map}
use Rattle.iop_base.proofs.Searching.{find-map}
use Rattle.iop_objects.specs.Objects.{Object, Objects, object_of, state_of, waiters_of, waiting, deletes, with_state, with_waiters, waits, takes_next}
use Rattle.iop_objects.specs.Restoring.{may_wait, with_last}
use Rattle.iop_objects.specs.declared.waiter.Waiter.{Waiter}
use Rattle.iop_objects.proofs.MappedLists.{filter-map}
use Rattle.iop_objects.proofs.Tables.{table_of}
use Rattle.iop_queues.specs.declared.queued.Queued.{Queued}
use Rattle.iop_mbx.specs.Mailboxes as mailboxes
use Rattle.iop_mbx.specs.Mailboxes.{Mailboxes}
use Rattle.iop_mbx.specs.Standing.{known, mailbox_in, mailboxes_in, queues_of}
use Rattle.iop_mbx.specs.declared.mailboxes.Numbered.{Numbered}

module _ (objects : Objects Numbered ℕ) (messages : List (List (Queued ℕ))) where
  abbrev own : Mailboxes
  own = mailboxes_in objects messages

  waiting-in : waiting own ≡ waiting objects
  waiting-in =
      ap sum (map-map (λ (o : Object mailboxes.Mailbox ℕ). length o.waiters) (mailbox_in messages)
      objects.live)

  module _ (id : ℕ) where
    found : object_of own.live id ≡ option_map (mailbox_in messages) (object_of objects.live id)
    found =
        find-map (λ (o : Object mailboxes.Mailbox ℕ). o.id == id) (mailbox_in messages) objects.live

    pub state_of-in : state_of own id ≡ option_map (known messages) (state_of objects id)
    state_of-in = grind (arith, found)

    pub is_live-in : is_some (object_of own.live id) ≡ is_some (object_of objects.live id)
    is_live-in = grind (arith, found)

    pub waiters_of-in : waiters_of own id ≡ waiters_of objects id
    waiters_of-in = grind (arith, found)

    pub walk-in : option_map (λ o. o.waiters) (object_of own.live id)
        ≡ option_map (λ o. o.waiters) (object_of objects.live id)
    walk-in = grind (arith, found)

    pub with_waiters-in : (waiters : List (Queued (Waiter ℕ)))
        → mailboxes_in (with_waiters objects id waiters) messages ≡ with_waiters own id waiters
    with_waiters-in waiters = ap (λ l. table_of l objects.next) (each objects.live)
      where
        awaited : {A : Type 0} → Object A ℕ → Object A ℕ
        awaited o = if o.id == id then record o { waiters = waiters } else o

        each : (live : List (Object Numbered ℕ))
            → map (mailbox_in messages) (map awaited live)
            ≡ map awaited (map (mailbox_in messages) live)
        each [] = refl
        each (o ∷ live) = grind (arith, each live)

    -- a thread waits, where it may
    pub waits-in : (may : Bool) (x : Queued (Waiter ℕ))
        → mailboxes_in (if may then waits objects id x else objects) messages
        ≡ (if may then waits own id x else own)
    waits-in true x =
        with_waiters-in (waiters_of objects id ++ x ∷ [])
        ∙ ap (λ l. with_waiters own id (l ++ x ∷ [])) (sym waiters_of-in)
    waits-in false x = refl

    pub deletes-in : mailboxes_in (deletes objects id) messages ≡ deletes own id
    deletes-in =
        ap (λ l. table_of l objects.next)
        (sym (filter-map (λ (o : Object mailboxes.Mailbox ℕ). not (o.id == id))
        (mailbox_in messages) objects.live))

  pub may_wait-in : (id : ℕ) → may_wait own id ≡ may_wait objects id
  may_wait-in id = rw (is_live-in id, waiting-in) refl

  pub with_last-in : (id : ℕ) (x : Numbered)
      → mailboxes_in (with_last objects id x) messages ≡ with_last own id (known messages x)
  with_last-in id x =
      ap (λ l. table_of l (id + 1))
      (map_push (mailbox_in messages) objects.live
      (record { id = id; state = x; waiters = [] }))

-- the queues stay, whoever waits
pub queues_of-with_waiters : (objects : Objects Numbered ℕ) (id : ℕ)
    (waiters : List (Queued (Waiter ℕ)))
    → queues_of (with_waiters objects id waiters) ≡ queues_of objects
queues_of-with_waiters objects id waiters = each objects.live
  where
    awaited : Object Numbered ℕ → Object Numbered ℕ
    awaited o = if o.id == id then record o { waiters = waiters } else o

    each : (live : List (Object Numbered ℕ))
        → map (λ o. o.state.queue) (map awaited live) ≡ map (λ o. o.state.queue) live
    each [] = refl
    each (o ∷ live) = grind (arith, each live)

pub queues_of-takes_next : (objects : Objects Numbered ℕ) (id : ℕ) (by_priority : Bool)
    → queues_of (takes_next objects id by_priority).1 ≡ queues_of objects
queues_of-takes_next objects id by_priority = grind (arith, queues_of-with_waiters)

-- what was known of a mailbox that is deleted makes no difference
pub deletes-with_state : (s : Mailboxes) (id : ℕ) (x : mailboxes.Mailbox)
    → deletes (with_state s id x) id ≡ deletes s id
deletes-with_state s id x = ap (λ l. table_of l s.next) (each s.live)
  where
    stays : Object mailboxes.Mailbox ℕ → Bool
    stays o = not (o.id == id)

    changed : Object mailboxes.Mailbox ℕ → Object mailboxes.Mailbox ℕ
    changed o = if o.id == id then record o { state = x } else o

    each : (live : List (Object mailboxes.Mailbox ℕ))
        → filter stays (map changed live) ≡ filter stays live
    each [] = refl
    each (o ∷ live) = grind (arith, nat_tests, each live)

-- what the calls need that change no message
pub ruleset readings = (
  state_of-in,
  is_live-in,
  waiters_of-in,
  walk-in,
  may_wait-in,
  with_waiters-in,
  queues_of-with_waiters,
  queues_of-takes_next,
)
