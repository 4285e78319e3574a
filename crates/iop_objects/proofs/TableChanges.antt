-- What an object more or less leaves of a table, or one of which something else is known.
use Rattle.std.proofs.Common.{◌≡◌, ◌≢◌, ℕ, ◌+◌, ◌<◌, ◌≤◌, false, if◌then◌else◌, not, Some, option_map, List, [], ◌∷◌, ◌++◌, length, map, find, take, drop, refl, ap, sym, ◌∙◌, subst, suc, arith, get_or, set, All}
use Rattle.std.specs.Prelude.{◌==◌}
use Rattle.std.specs.List.{remove}
use Rattle.std.proofs.lemmas.Bool.{eq-eqb, ne_eqb}
use Rattle.std.proofs.lemmas.List.{length-map, length-set, get_or-map, map_push, map-set, set-get_or}
use Rattle.std.proofs.lemmas.List.Elements.{All-append, All-take, All-drop, All-push, All-weaker, All-set}
use Rattle.std.proofs.lemmas.List.Quantifiers.{all_pairs_push, all_pairs_remove}
use Rattle.std.proofs.lemmas.Simd.{map-map}
use Rattle.iop_base.specs.declared.limits.TheConstants.{LAST_ID}
use Rattle.iop_queues.specs.Numbers.{AreAssigned}
use Rattle.iop_queues.specs.Queues.{queue_at, with_queue}
use Rattle.iop_queues.specs.declared.queued.Queued.{Queued}
use Rattle.iop_queues.proofs.Assigned.{AreAssigned-given_back, AreAssigned-taken, free_is_empty}
use Rattle.iop_objects.specs.Objects.{Object, Objects, waiters_of, deletes, changes, with_state}
use Rattle.iop_objects.specs.Restoring.{with_last}
use Rattle.iop_objects.specs.Standing.{object_in, objects_in, IsTable}
use Rattle.iop_objects.specs.declared.objects.Live.{Live}
use Rattle.iop_objects.specs.declared.objects.TheConstants.{FIRST_ID, MOST_OBJECTS}
use Rattle.iop_objects.specs.declared.waiter.Waiter.{Waiter}
use Rattle.iop_objects.proofs.MappedLists.{filter-map, map-remove, map-at_one, filter-one_passes}
use Rattle.iop_objects.proofs.Places.{IsObject, ids_apart, has_id}
use Rattle.iop_objects.proofs.Tables.{table_of, changed, waiters_of-queue}

module _ {A W : Type 0} (live : List (Live A)) (free : List ℕ)
    (waiters : List (List (Queued (Waiter W)))) (next : ℕ)
    (table : IsTable live free waiters next) where
  abbrev own : Objects A W
  own = objects_in live waiters next

  -- the object of an id, at its place
  module _ (id place : ℕ) (o : Live A) (h : IsObject live id place o) where
    abbrev object : Object A W
    object = object_in waiters o

    other_ids : (i : ℕ) → i < length live → i ≢ place → has_id id (get_or live i o) ≡ false
    other_ids i inside apart =
        ne_eqb _ _ (λ e. ids_apart live table.ids i place o inside h.inside apart
        (e ∙ sym (ap (λ x. x.id) h.object ∙ h.same_id)))

    -- the object that changes is the one at this place
    pub changes-at_place : (f : Object A W → Object A W)
        → (changes own id f).live ≡ set own.live place (f object)
    changes-at_place f =
        map-map (changed id f) (object_in waiters) live
        ∙ map-at_one (λ x. changed id f (object_in waiters x)) (object_in waiters) live place o
        h.inside h.object
        (λ i inside apart. ap (λ b. let p = object_in waiters (get_or live i o) in
        if b then f p else p) (other_ids i inside apart))
        ∙ ap (λ b. set own.live place (if b then f object else object))
        (eq-eqb o.id id h.same_id)

    -- something else is known of it
    module _ (state : A) where
      abbrev other : Live A
      other = record o { state = state }

      kept : {Y : Type 0} (f : Live A → Y) → f other ≡ f o
          → map f (set live place other) ≡ map f live
      kept f same =
          map-set f live place other
          ∙ ap (set (map f live) place)
          (same ∙ sym (get_or-map f live place o (f o) h.inside ∙ ap f h.object))
          ∙ set-get_or (map f live) place (f o)

      same_ids : (i : ℕ) (d : Live A) → i < length live
          → (get_or (set live place other) i d).id ≡ (get_or live i d).id
      same_ids i d inside =
          sym (get_or-map (λ x. x.id) (set live place other) i d 0
          (omega (arith, length-set live place other, inside)))
          ∙ ap (λ l. get_or l i 0) (kept (λ x. x.id) refl)
          ∙ get_or-map (λ x. x.id) live i d 0 inside

      pub objects_in-state : objects_in (set live place other) waiters next
          ≡ with_state own id state
      objects_in-state =
          ap (λ l. table_of l next)
          (map-set (object_in waiters) live place other
          ∙ sym (changes-at_place (λ p. record p { state = state })))

      pub IsTable-state : IsTable (set live place other) free waiters next
      IsTable-state = record {
        ids = λ i j d less below.
            let inside : j < length live = omega (arith, length-set live place other, below) in
            let before : i < length live = omega (arith, less, inside) in
            omega (
              arith,
              same_ids i d before,
              same_ids j d inside,
              table.ids i j d less inside,
            );
        first =
            All-set (λ x. FIRST_ID ≤ x.id) live place other
            (subst (λ x. FIRST_ID ≤ x.id) h.object (table.first place o h.inside)) table.first;
        given =
            All-set (λ x. x.id < next) live place other
            (subst (λ x. x.id < next) h.object (table.given place o h.inside)) table.given;
        next_first = table.next_first;
        next_last = table.next_last;
        queues =
            subst (λ used. AreAssigned MOST_OBJECTS used free waiters)
            (sym (kept (λ x. x.queue) refl)) table.queues;
      }

    -- it is there no more, and none waits for it
    module _ (found : find (has_id id) live ≡ Some o) (none : waiters_of own id ≡ []) where
      none_waits : queue_at o.queue waiters ≡ []
      none_waits =
          sym (waiters_of-queue live free waiters next table id (Some o.queue)
          (sym (ap (option_map (λ x. x.queue)) found)))
          ∙ none

      pub objects_in-deleted : objects_in (remove live place) waiters next ≡ deletes own id
      objects_in-deleted =
          ap (λ l. table_of l next)
          (sym (filter-map (λ (p : Object A W). not (p.id == id)) (object_in waiters) live
          ∙ ap (map (object_in waiters)) (filter-one_passes (has_id id) live place o h.inside
          (ap (has_id id) h.object ∙ eq-eqb o.id id h.same_id) other_ids)))

      others_all : (P : Live A → Type 0) → All P live → All P (remove live place)
      others_all P all =
          All-append P (take place live) (drop (suc place) live) (All-take P place live all)
          (All-drop P (suc place) live all)

      pub IsTable-deleted : IsTable (remove live place) (free ++ o.queue ∷ []) waiters next
      IsTable-deleted = record {
        ids = all_pairs_remove (λ a b. a.id < b.id) live place h.inside table.ids;
        first = others_all (λ x. FIRST_ID ≤ x.id) table.first;
        given = others_all (λ x. x.id < next) table.given;
        next_first = table.next_first;
        next_last = table.next_last;
        queues =
            let used = map (λ x. x.queue) live in
            let inside : place < length used =
            omega (arith, length-map live (λ x. x.queue), h.inside) in
            let queue : (d : ℕ) → get_or used place d ≡ o.queue =
            λ d. get_or-map (λ x. x.queue) live place o d h.inside
            ∙ ap (λ x. x.queue) h.object in
            let emptied : with_queue o.queue [] waiters ≡ waiters =
            ap (λ q. with_queue o.queue q waiters) (sym none_waits)
            ∙ set-get_or waiters o.queue [] in
            subst (λ left. AreAssigned MOST_OBJECTS left (free ++ o.queue ∷ []) waiters)
            (sym (map-remove (λ x. x.queue) live place))
            (subst (AreAssigned MOST_OBJECTS (remove used place) (free ++ o.queue ∷ [])) emptied
            (AreAssigned-given_back table.queues o.queue place inside queue));
      }

-- an object more, with the last of the free queues
module _ {A W : Type 0} (live : List (Live A)) (free : List ℕ) (queue : ℕ)
    (waiters : List (List (Queued (Waiter W)))) (next : ℕ)
    (table : IsTable live (free ++ queue ∷ []) waiters next) (id : ℕ) (state : A)
    (order : next ≤ id) (last : id ≤ LAST_ID) where
  abbrev was : Objects A W
  was = objects_in live waiters next

  abbrev made : Live A
  made = record { id = id; state = state; queue = queue }

  abbrev new : List (Queued (Waiter W)) → Object A W
  new others = record { id = id; state = state; waiters = others }

  pub objects_in-put : objects_in (live ++ made ∷ []) waiters (id + 1) ≡ with_last was id state
  objects_in-put =
      ap (λ l. table_of l (id + 1))
      (map_push (object_in waiters) live made
      ∙ ap (λ q. was.live ++ new q ∷ []) (free_is_empty free queue table.queues))

  pub IsTable-put : IsTable (live ++ made ∷ []) free waiters (id + 1)
  IsTable-put = record {
    ids =
        all_pairs_push (λ a b. a.id < b.id) live made table.ids
        (All-weaker (λ o. o.id < next) (λ o. o.id < id) (λ o less. omega (arith, less, order))
        live table.given);
    first =
        All-push (λ o. FIRST_ID ≤ o.id) live made table.first
        (omega (arith, table.next_first, order));
    given =
        All-push (λ o. o.id < id + 1) live made
        (All-weaker (λ o. o.id < next) (λ o. o.id < id + 1)
        (λ o less. omega (arith, less, order)) live table.given)
        (omega arith);
    next_first = omega (arith, table.next_first, order);
    next_last = omega (arith, last);
    queues =
        subst (λ used. AreAssigned MOST_OBJECTS used free waiters)
        (sym (map_push (λ o. o.queue) live made)) (AreAssigned-taken free queue table.queues);
  }
