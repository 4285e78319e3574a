-- The queue of one object of a table changes.
use Rattle.std.proofs.Common.{◌≡◌, ◌≢◌, ℕ, ◌<◌, Bool, true, false, is_some, Option, Some, None, option_map, List, [], length, map, find, refl, ap, sym, ◌∙◌, subst, arith, get_or, set}
use Rattle.std.proofs.lemmas.List.{length-map, get_or-map, get_or-set_same, get_or-set_other, set-get_or}
use Rattle.iop_queues.specs.Queue.{Choice, chooses, chooses_next_where, left_by}
use Rattle.iop_queues.specs.Queues.{queue_at, with_queue}
use Rattle.iop_queues.specs.declared.queued.Queued.{Queued}
use Rattle.iop_queues.proofs.Assigned.{AreAssigned-changed, assigned_below}
use Rattle.iop_queues.proofs.Uses.{used_apart}
use Rattle.iop_objects.specs.Objects.{Object, Objects, object_of, waiters_of, with_waiters, takes}
use Rattle.iop_objects.specs.Standing.{object_in, objects_in, IsTable}
use Rattle.iop_objects.specs.declared.objects.Live.{Live}
use Rattle.iop_objects.specs.declared.waiter.Waiter.{Waiter}
use Rattle.iop_objects.proofs.MappedLists.{map-at_one}
use Rattle.iop_objects.proofs.Places.{has_id, IsObject, found_object}
use Rattle.iop_objects.proofs.TableChanges.{changes-at_place}
use Rattle.iop_objects.proofs.Tables.{table_of, object_of-live, waiters_of-queue, changes-none}

module _ {A W : Type 0} (live : List (Live A)) (free : List ℕ)
    (waiters : List (List (Queued (Waiter W)))) (next : ℕ)
    (table : IsTable live free waiters next) where
  abbrev own : Objects A W
  own = objects_in live waiters next

  -- the queue of an object
  module _ (id place : ℕ) (o : Live A) (h : IsObject live id place o) where
    queues : (i : ℕ) → i < length live
        → get_or (map (λ x. x.queue) live) i o.queue ≡ (get_or live i o).queue
    queues i inside = get_or-map (λ x. x.queue) live i o o.queue inside

    own_queue : (d : ℕ) → get_or (map (λ x. x.queue) live) place d ≡ o.queue
    own_queue d =
        get_or-map (λ x. x.queue) live place o d h.inside ∙ ap (λ x. x.queue) h.object

    inside_used : (i : ℕ) → i < length live → i < length (map (λ x. x.queue) live)
    inside_used i inside = omega (arith, length-map live (λ x. x.queue), inside)

    -- it is one of the queues
    queue_inside : o.queue < length waiters
    queue_inside =
        assigned_below table.queues o.queue place (inside_used place h.inside) own_queue

    -- it is not that of another object
    other_queues : (i : ℕ) → i < length live → i ≢ place → (get_or live i o).queue ≢ o.queue
    other_queues i inside apart e =
        used_apart table.queues.numbers place i o.queue (inside_used place h.inside)
        (inside_used i inside) apart (queues i inside ∙ e ∙ sym (own_queue o.queue))

    module _ (queue : List (Queued (Waiter W))) where
      abbrev left : List (List (Queued (Waiter W)))
      left = with_queue o.queue queue waiters

      abbrev changed : List (Queued (Waiter W)) → Object A W
      changed others = record { id = o.id; state = o.state; waiters = others }

      objects_left : map (object_in left) live ≡ set own.live place (changed queue)
      objects_left =
          map-at_one (object_in left) (object_in waiters) live place o h.inside h.object
          (λ i inside apart. ap (λ q. let x = get_or live i o in
          let p : Object A W = record { id = x.id; state = x.state; waiters = q } in p)
          (get_or-set_other waiters o.queue (get_or live i o).queue queue []
          (other_queues i inside apart)))
          ∙ ap (λ q. set own.live place (changed q))
          (get_or-set_same waiters o.queue queue [] queue_inside)

      objects_in-at_place : objects_in live left next ≡ with_waiters own id queue
      objects_in-at_place =
          ap (λ l. table_of l next)
          (objects_left
          ∙ sym (changes-at_place live free waiters next table id place o h
          (λ p. record p { waiters = queue })))

      IsTable-at_place : IsTable live free left next
      IsTable-at_place = record {
        ids = table.ids;
        first = table.first;
        given = table.given;
        next_first = table.next_first;
        next_last = table.next_last;
        queues =
            AreAssigned-changed table.queues o.queue place (inside_used place h.inside) own_queue
            queue;
      }

  -- the object of an id has a queue
  module _ (id queue : ℕ)
      (found : Some queue ≡ option_map (λ o. o.queue) (find (has_id id) live)) where
    -- what holds of its queue by the place of the object
    by_place : (P : ℕ → Type 0) → ((place : ℕ) (o : Live A) → IsObject live id place o → P o.queue)
        → P queue
    by_place P each = by (find (has_id id) live) refl found
      where
        by : (r : Option (Live A)) → find (has_id id) live ≡ r
            → Some queue ≡ option_map (λ o. o.queue) r → P queue
        by None is e = cc
        by (Some o) is e =
            let at = found_object live id o is in
            let same : o.queue ≡ queue = cc in
            subst P same (each at.0 o at.1)

    pub queue_below : queue < length waiters
    queue_below = by_place (λ n. n < length waiters) (queue_inside id)

    -- others wait for it then
    pub objects_in-changed : (f : List (Queued (Waiter W)) → List (Queued (Waiter W)))
        → objects_in live (with_queue queue (f (queue_at queue waiters)) waiters) next
        ≡ with_waiters own id (f (waiters_of own id))
    objects_in-changed f =
        by_place (λ n. objects_in live (with_queue n (f (queue_at queue waiters)) waiters) next
        ≡ with_waiters own id (f (queue_at queue waiters)))
        (λ place o h. objects_in-at_place id place o h (f (queue_at queue waiters)))
        ∙ ap (λ q. with_waiters own id (f q))
        (sym (waiters_of-queue live free waiters next table id (Some queue) found))

    pub IsTable-changed : (others : List (Queued (Waiter W)))
        → IsTable live free (with_queue queue others waiters) next
    IsTable-changed others =
        by_place (λ n. IsTable live free (with_queue n others waiters) next)
        (λ place o h. IsTable-at_place id place o h others)

    taken_by : (c : Option (Choice (Waiter W)))
        → objects_in live (with_queue queue (left_by (queue_at queue waiters) c) waiters) next
        ≡ (takes own id c).1
    taken_by None = ap (λ w. objects_in live w next) (set-get_or waiters queue [])
    taken_by (Some c) =
        by_place (λ n. objects_in live (with_queue n c.others waiters) next
        ≡ with_waiters own id c.others)
        (λ place o h. objects_in-at_place id place o h c.others)

    answer_by : (c : Option (Choice (Waiter W)))
        → option_map (λ x. x.item) (option_map (λ d. d.one) c) ≡ (takes own id c).0
    answer_by None = refl
    answer_by (Some c) = refl

    module _ (choose : List (Queued (Waiter W)) → Option (Choice (Waiter W))) where
      same_choice : choose (queue_at queue waiters) ≡ choose (waiters_of own id)
      same_choice =
          ap choose (sym (waiters_of-queue live free waiters next table id (Some queue) found))

      -- one is chosen, and waits no more
      pub objects_in-taken : objects_in live (with_queue queue
          (left_by (queue_at queue waiters) (choose (queue_at queue waiters))) waiters) next
          ≡ (takes own id (choose (waiters_of own id))).1
      objects_in-taken =
          taken_by (choose (queue_at queue waiters)) ∙ ap (λ c. (takes own id c).1) same_choice

      -- the answer is the one that is chosen
      pub taken_is : option_map (λ x. x.item)
          (option_map (λ c. c.one) (choose (queue_at queue waiters)))
          ≡ (takes own id (choose (waiters_of own id))).0
      taken_is =
          answer_by (choose (queue_at queue waiters)) ∙ ap (λ c. (takes own id c).0) same_choice

  -- no object of an id is live
  module _ (id : ℕ) (none : None ≡ option_map (λ o. o.queue) (find (has_id id) live)) where
    not_found : find (has_id id) live ≡ None
    not_found = by (find (has_id id) live) refl none
      where
        by : (r : Option (Live A)) → find (has_id id) live ≡ r
            → None ≡ option_map (λ o. o.queue) r → find (has_id id) live ≡ None
        by None is e = is
        by (Some o) is e = cc

    pub waiters_of-none : waiters_of own id ≡ []
    waiters_of-none = waiters_of-queue live free waiters next table id None none

    pub objects_in-unchanged : (queue : List (Queued (Waiter W))) → own ≡ with_waiters own id queue
    objects_in-unchanged queue =
        sym (changes-none live free waiters next table id not_found
        (λ o. record o { waiters = queue }))

    pub not_live : is_some (object_of own.live id) ≡ false
    not_live =
        ap is_some (object_of-live live free waiters next table id
        ∙ ap (option_map (object_in waiters)) not_found)

    -- nothing is chosen
    pub takes-none : (choose : List (Queued (Waiter W)) → Option (Choice (Waiter W)))
        → choose [] ≡ None → (None, own) ≡ takes own id (choose (waiters_of own id))
    takes-none choose empty =
        sym (ap (λ q. takes own id (choose q)) waiters_of-none ∙ ap (takes own id) empty)

pub chooses-nil : {T : Type 0} (by_priority : Bool) → chooses {T = T} by_priority [] ≡ None
chooses-nil true = refl
chooses-nil false = refl

pub none_met : {T : Type 0} (by_priority : Bool) (p : T → Bool)
    → chooses_next_where by_priority p [] ≡ None
none_met true p = refl
none_met false p = refl
