-- Where a live mailbox stands among all, of which no other has its id or its queue, and what other
-- messages of it make of a table.
use Rattle.std.proofs.Common.{◌≡◌, ◌≢◌, ℕ, ◌<◌, ◌⊎◌, inl, inr, if◌then◌else◌, Option, Some, None, option_map, List, [], ◌∷◌, ◌++◌, length, map, get_or, remove, All, refl, ap, ap₂, sym, subst, ◌∙◌, arith}
use Rattle.std.specs.Prelude.{◌==◌}
use Rattle.std.proofs.lemmas.Bool.{cases_eq, eq-eqb, eqb-true, ne_eqb}
use Rattle.std.proofs.lemmas.Bool.Decides.{nat_tests}
use Rattle.std.proofs.lemmas.List.{length-map, get_or-map, get_or_default, get_or-set_same, get_or-set_other}
use Rattle.std.proofs.lemmas.List.Elements.{All-head, All-tail}
use Rattle.iop_queues.specs.Numbers.{AreAssigned}
use Rattle.iop_queues.specs.Queues.{with_queue}
use Rattle.iop_queues.specs.declared.queued.Queued.{Queued}
use Rattle.iop_queues.proofs.Assigned.{AreAssigned-changed, AreAssigned-given_back, assigned_below}
use Rattle.iop_queues.proofs.Uses.{used_apart}
use Rattle.iop_objects.specs.Objects.{Object, Objects, AreObjects, object_of, state_of, deletes, with_state}
use Rattle.iop_objects.specs.declared.objects.TheConstants.{MOST_OBJECTS}
use Rattle.iop_objects.proofs.MappedLists.{map-remove, filter-one_passes}
use Rattle.iop_objects.proofs.Places.{found_place}
use Rattle.iop_objects.proofs.Tables.{table_of}
use Rattle.iop_mbx.specs.Mailboxes as mailboxes
use Rattle.iop_mbx.specs.Mailboxes.{with_messages}
use Rattle.iop_mbx.specs.Standing.{known, mailbox_in, mailboxes_in, queues_of}
use Rattle.iop_mbx.specs.declared.mailboxes.Numbered.{Numbered}

abbrev NumberedObject : Type 0
NumberedObject = Object Numbered ℕ

abbrev queue_of : NumberedObject → ℕ
queue_of o = o.state.queue

-- the mailbox of an id stands at a place
record IsMailbox (live : List NumberedObject) (id : ℕ) (x : Numbered) : Type 0 where
  place : ℕ
  inside : place < length live
  id_is : (d : NumberedObject) → (get_or live place d).id ≡ id
  state_is : (d : NumberedObject) → (get_or live place d).state ≡ x

found_mailbox : (live : List NumberedObject) (id : ℕ) (x : Numbered)
    → Some x ≡ option_map (λ o. o.state) (object_of live id) → IsMailbox live id x
found_mailbox live id x found = by_object (object_of live id) refl found
  where
    by_object : (r : Option NumberedObject) → object_of live id ≡ r
        → Some x ≡ option_map (λ o. o.state) r → IsMailbox live id x
    by_object None is e = cc
    by_object (Some o) is e =
        let at = found_place (λ (p : NumberedObject). p.id == id) live o is in
        let stands : (d : NumberedObject) → get_or live at.0 d ≡ o =
        λ d. get_or_default live at.0 d o at.1 ∙ at.2 in
        let state : o.state ≡ x = cc in
        record {
          place = at.0;
          inside = at.1;
          id_is = λ d. ap (λ p. p.id) (stands d) ∙ eqb-true o.id id at.3;
          state_is = λ d. ap (λ p. p.state) (stands d) ∙ state;
        }

module _ {objects : Objects Numbered ℕ} {free : List ℕ} {old : List (List (Queued ℕ))}
    {x : Numbered} (sound : AreObjects objects)
    (assigned : AreAssigned MOST_OBJECTS (queues_of objects) free old) (id : ℕ)
    (found : Some x ≡ state_of objects id) where
  abbrev live : List NumberedObject
  live = objects.live

  at : IsMailbox live id x
  at = found_mailbox live id x found

  used : (k : ℕ) → k < length live → k < length (queues_of objects)
  used k below = omega (arith, length-map live queue_of, below)

  is_used : (d : ℕ) → get_or (queues_of objects) at.place d ≡ x.queue
  is_used d =
      let none : NumberedObject = record { id = id; state = x; waiters = [] } in
      get_or-map queue_of live at.place none d at.inside ∙ ap (λ y. y.queue) (at.state_is none)

  other_ids : (k : ℕ) (d : NumberedObject) → k < length live → k ≢ at.place
      → (get_or live k d).id ≢ id
  other_ids k d below apart e =
      let before = sound.ids k at.place d in
      let behind = sound.ids at.place k d in
      grind (arith, before, behind, at.inside, at.id_is d, below, apart, e)

  other_queues : (k : ℕ) (d : NumberedObject) → k < length live → k ≢ at.place
      → queue_of (get_or live k d) ≢ x.queue
  other_queues k d below apart e =
      used_apart assigned.numbers at.place k 0 (used at.place at.inside) (used k below) apart
      (get_or-map queue_of live k d 0 below ∙ e ∙ sym (is_used 0))

  -- its queue is one of the queues
  pub queue_inside : x.queue < length old
  queue_inside = assigned_below assigned x.queue at.place (used at.place at.inside) is_used

  -- its messages are others
  module _ (queue : List (Queued ℕ)) where
    pub AreAssigned-put : AreAssigned MOST_OBJECTS (queues_of objects) free
        (with_queue x.queue queue old)
    AreAssigned-put =
        AreAssigned-changed assigned x.queue at.place (used at.place at.inside) is_used queue

    pub mailboxes_in-changed : mailboxes_in objects (with_queue x.queue queue old)
        ≡ with_state (mailboxes_in objects old) id (with_messages (known old x) queue)
    mailboxes_in-changed =
        ap (λ l. table_of l objects.next)
        (each live (λ k d below. by_place k d below (cases_eq k at.place)))
      where
        new : List (List (Queued ℕ))
        new = with_queue x.queue queue old

        put : Object mailboxes.Mailbox ℕ → Object mailboxes.Mailbox ℕ
        put o = if o.id == id then record o { state = with_messages (known old x) queue } else o

        Agree : NumberedObject → Type 0
        Agree o = mailbox_in new o ≡ put (mailbox_in old o)

        own : (o : NumberedObject) → o.id ≡ id → o.state ≡ x → Agree o
        own o same state =
            let is = get_or-set_same old x.queue queue [] queue_inside in
            grind (arith, nat_tests, same, state, is)

        other : (o : NumberedObject) → o.id ≢ id → queue_of o ≢ x.queue → Agree o
        other o apart others =
            let is = get_or-set_other old x.queue (queue_of o) queue [] others in
            grind (arith, nat_tests, apart, is)

        by_place : (k : ℕ) (d : NumberedObject) → k < length live → (k ≡ at.place) ⊎ (k ≢ at.place)
            → Agree (get_or live k d)
        by_place k d below (inl same) =
            rw same (own (get_or live at.place d) (at.id_is d) (at.state_is d))
        by_place k d below (inr apart) =
            other (get_or live k d) (other_ids k d below apart) (other_queues k d below apart)

        each : (xs : List NumberedObject) → All Agree xs
            → map (mailbox_in new) xs ≡ map put (map (mailbox_in old) xs)
        each [] agree = refl
        each (o ∷ xs) agree =
            ap₂ (λ p l. p ∷ l) (All-head Agree o xs agree) (each xs (All-tail Agree o xs agree))

  -- it is deleted, and its queue emptied and given back
  pub AreAssigned-deleted : AreAssigned MOST_OBJECTS (queues_of (deletes objects id))
      (free ++ x.queue ∷ []) (with_queue x.queue [] old)
  AreAssigned-deleted =
      subst (λ left.
      AreAssigned MOST_OBJECTS left (free ++ x.queue ∷ []) (with_queue x.queue [] old))
      (sym (ap (map queue_of) left ∙ map-remove queue_of live at.place))
      (AreAssigned-given_back assigned x.queue at.place (used at.place at.inside) is_used)
    where
      left : (deletes objects id).live ≡ remove live at.place
      left =
          let none : NumberedObject = record { id = id; state = x; waiters = [] } in
          filter-one_passes (λ (o : NumberedObject). o.id == id) live at.place none at.inside
          (eq-eqb _ _ (at.id_is none))
          (λ k below apart. ne_eqb _ _ (other_ids k none below apart))
