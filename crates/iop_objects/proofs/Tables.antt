-- What a table stands for.
use Rattle.std.proofs.Common.{◌≡◌, ℕ, ◌+◌, ◌<◌, ◌≤◌, false, if◌then◌else◌, not, Option, Some, None, option_map, List, [], length, map, find, replicate, sum, All, AllPairs, refl, ap, sym, ◌∙◌, arith, get_or}
use Rattle.std.specs.Prelude.{◌==◌}
use Rattle.std.specs.List.{range_with_len}
use Rattle.std.proofs.lemmas.List.{length-map, get_or-map}
use Rattle.std.proofs.lemmas.List.Elements.{All-map}
use Rattle.std.proofs.lemmas.List.Folds.{map_fixed, list_any_none}
use Rattle.std.proofs.lemmas.Simd.{map-map}
use Rattle.iop_base.proofs.Lists.{filter-none_fails}
use Rattle.iop_base.proofs.Searching.{find-map}
use Rattle.iop_queues.specs.Queues.{queue_at, total}
use Rattle.iop_queues.specs.declared.queued.Queued.{Queued}
use Rattle.iop_queues.proofs.Assigned.{AreAssigned-first, total-assigned}
use Rattle.iop_objects.specs.Objects.{Object, Objects, AreObjects, object_of, state_of, waiters_in, waiters_of, waiting, deletes, changes}
use Rattle.iop_objects.specs.Standing.{object_in, objects_in, IsTable}
use Rattle.iop_objects.specs.declared.objects.Live.{Live}
use Rattle.iop_objects.specs.declared.objects.TheConstants.{FIRST_ID, MOST_OBJECTS}
use Rattle.iop_objects.specs.declared.waiter.Waiter.{Waiter}
use Rattle.iop_objects.proofs.MappedLists.{filter-map}
use Rattle.iop_objects.proofs.Places.{none_found, has_id}

-- the queue of a number, if there is one
abbrev pub queue_in : {T : Type 0} → List (List (Queued T)) → Option ℕ → List (Queued T)
queue_in queues None = []
queue_in queues (Some queue) = queue_at queue queues

module _ {A W : Type 0} where
  abbrev pub table_of : List (Object A W) → ℕ → Objects A W
  table_of live next = record { live = live; next = next }

  -- the object of an id changes
  abbrev pub changed : ℕ → (Object A W → Object A W) → Object A W → Object A W
  changed id f o = if o.id == id then f o else o

  -- the table of no object
  pub IsTable-first : IsTable {A = A} {W = W} [] (range_with_len 0 MOST_OBJECTS)
      (replicate MOST_OBJECTS []) FIRST_ID
  IsTable-first = record {
    ids = λ i j d less below. absurd (omega (arith, below));
    first = λ k d below. absurd (omega (arith, below));
    given = λ k d below. absurd (omega (arith, below));
    next_first = omega arith;
    next_last = omega arith;
    queues = AreAssigned-first MOST_OBJECTS;
  }

module _ {A W : Type 0} (live : List (Live A)) (free : List ℕ)
    (waiters : List (List (Queued (Waiter W)))) (next : ℕ)
    (table : IsTable live free waiters next) where
  abbrev own : Objects A W
  own = objects_in live waiters next

  -- each queue is that of an object, or free
  pub all_queues : length live + length free ≡ MOST_OBJECTS
  all_queues = omega (arith, length-map live (λ o. o.queue), table.queues.numbers.all)

  -- those that wait stand in the queues of the objects
  pub all_waiting : total waiters ≡ waiting own
  all_waiting =
      total-assigned (λ o. o.queue) live table.queues
      ∙ ap sum (sym (map-map (λ (o : Object A W). length o.waiters) (object_in waiters) live))

  ids_rise_in : AllPairs (λ a b. a.id < b.id) own.live
  ids_rise_in i j d less below =
      let inside : j < length live = omega (arith, length-map live (object_in waiters), below) in
      let before : i < length live = omega (arith, less, inside) in
      let none : Live A = record { id = d.id; state = d.state; queue = 0 } in
      let first = ap (λ o. o.id) (get_or-map (object_in waiters) live i none d before) in
      let second = ap (λ o. o.id) (get_or-map (object_in waiters) live j none d inside) in
      omega (arith, table.ids i j none less inside, first, second)

  -- what holds of the table holds of the objects that it stands for
  pub AreObjects-in : AreObjects own
  AreObjects-in = record {
    ids = ids_rise_in;
    first = All-map (λ (o : Object A W). FIRST_ID ≤ o.id) (object_in waiters) live table.first;
    given = All-map (λ (o : Object A W). o.id < next) (object_in waiters) live table.given;
    few = omega (arith, length-map live (object_in waiters), all_queues);
    next_first = table.next_first;
    next_last = table.next_last;
  }

  pub object_of-live : (id : ℕ)
      → object_of own.live id ≡ option_map (object_in waiters) (find (has_id id) live)
  object_of-live id = find-map (λ (o : Object A W). o.id == id) (object_in waiters) live

  -- those that wait for an object are its queue
  pub waiters_of-queue : (id : ℕ) (r : Option ℕ)
      → r ≡ option_map (λ o. o.queue) (find (has_id id) live)
      → waiters_of own id ≡ queue_in waiters r
  waiters_of-queue id r is =
      ap waiters_in (object_of-live id) ∙ either (find (has_id id) live)
      ∙ ap (queue_in waiters) (sym is)
    where
      either : (o : Option (Live A)) → waiters_in (option_map (object_in waiters) o)
          ≡ queue_in waiters (option_map (λ p. p.queue) o)
      either None = refl
      either (Some o) = refl

  pub object_waiters : (id : ℕ) (r : Option ℕ)
      → r ≡ option_map (λ o. o.queue) (find (has_id id) live)
      → option_map (λ queue. queue_at queue waiters) r
      ≡ option_map (λ o. o.waiters) (object_of own.live id)
  object_waiters id r is =
      ap (option_map (λ queue. queue_at queue waiters)) is ∙ either (find (has_id id) live)
      ∙ sym (ap (option_map (λ (o : Object A W). o.waiters)) (object_of-live id))
    where
      either : (o : Option (Live A))
          → option_map (λ queue. queue_at queue waiters) (option_map (λ p. p.queue) o)
          ≡ option_map (λ (p : Object A W). p.waiters) (option_map (object_in waiters) o)
      either None = refl
      either (Some o) = refl

  -- what is known of an object
  pub state_of-live : (id : ℕ)
      → state_of own id ≡ option_map (λ o. o.state) (find (has_id id) live)
  state_of-live id =
      ap (option_map (λ (o : Object A W). o.state)) (object_of-live id)
      ∙ either (find (has_id id) live)
    where
      either : (o : Option (Live A))
          → option_map (λ (p : Object A W). p.state) (option_map (object_in waiters) o)
          ≡ option_map (λ p. p.state) o
      either None = refl
      either (Some o) = refl

  -- where no object has an id, none changes
  module _ (id : ℕ) (none : find (has_id id) live ≡ None) where
    none_has : All (λ o. has_id id o ≡ false) live
    none_has = none_found (has_id id) live none

    pub changes-none : (f : Object A W → Object A W) → changes own id f ≡ own
    changes-none f =
        ap (λ l. table_of l next)
        (map_fixed (changed id f) own.live
        (All-map (λ o. changed id f o ≡ o) (object_in waiters) live
        (λ k d below. ap (λ b. let o = object_in waiters (get_or live k d) in
        if b then f o else o) (none_has k d below))))

    pub deletes-none : deletes own id ≡ own
    deletes-none =
        ap (λ l. table_of l next)
        (filter-map (λ (o : Object A W). not (o.id == id)) (object_in waiters) live
        ∙ ap (map (object_in waiters))
        (filter-none_fails (has_id id) live (list_any_none (has_id id) live none_has)))
