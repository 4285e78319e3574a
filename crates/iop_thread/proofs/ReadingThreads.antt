-- What is read of the program's table, in order: the least id above another, and the ready threads
-- of a priority.
use Rattle.std.proofs.Common.{◌≡◌, ℕ, ◌==◌, min, Bool, true, false, cond, ◌||◌, Option, Some, None, is_some, option_map, option_and_then, List, [], ◌∷◌, map, filter, filter_map, slice_get, refl, ap, ◌∙◌}
use Rattle.std.specs.List.{list_any, reduce}
use Rattle.std.proofs.lemmas.Option.{get_or_from_slice_get, slice_get-map, slice_get_within}
use Rattle.std.proofs.lemmas.List.Elements.{All-filter}
use Rattle.iop_ready.specs.declared.entry.Entry.{Entry}
use Rattle.iop_ready.specs.ReadyList.{slot_at}
use Rattle.iop_thread.specs.declared.found.Found.{Found}
use Rattle.iop_thread.specs.declared.thread.Thread.{Thread}
use Rattle.iop_thread.specs.declared.threads.Threads.{Threads}
use Rattle.iop_thread.specs.Reading.{least_above, ready_at}
use Rattle.iop_thread.specs.Standing.{Holds, entry_in}
use Rattle.iop_thread.specs.ThreadPlaces.{id_above, place_of, thread_at}
use Rattle.iop_thread.specs.ThreadTable.{ThreadTable, thread_of, priority_of}
use Rattle.iop_thread.proofs.Holding.{thread_of-place}
use Rattle.iop_thread.proofs.LeastIds.{least_in_places}
use Rattle.iop_thread.proofs.LiveThreads.{thread_of_id}
use Rattle.iop_thread.proofs.MappedLists.{filter-map_agree}
use Rattle.iop_thread.proofs.PlaceLists.{place_of-Some}

-- the id of a thread that is found
pub id_found : (slot : ℕ) (o : Option Thread)
    → option_map (λ (found : Found). found.thread.id)
    (option_map (λ t. record { slot = slot; thread = t }) o)
    ≡ option_map (λ (u : Thread). u.id) o
id_found slot None = refl
id_found slot (Some u) = refl

-- where a test finds some in a list there is a first one
first_found : (p : ℕ → Bool) (ids : List ℕ)
    → is_some (slice_get (filter p ids) 0) ≡ list_any p ids
first_found p [] = refl
first_found p (id ∷ ids) = by (p id) (first_found p ids)
  where
    by : (b : Bool) → is_some (slice_get (filter p ids) 0) ≡ list_any p ids
        → is_some (slice_get (cond b (id ∷ filter p ids) (filter p ids)) 0)
        ≡ (b || list_any p ids)
    by true rest = refl
    by false rest = rest

some_mapped : (f : ℕ → ℕ) (o : Option ℕ) → is_some (option_map f o) ≡ is_some o
some_mapped f None = refl
some_mapped f (Some n) = refl

module _ {R : Type 0} (stands_for : R → List Entry → Type 0) (place : ℕ → ℕ) (t : Threads R)
    (s : ThreadTable) (h : Holds stands_for place t s) where
  -- an id has a place exactly where a live thread has it
  has_place : (id : ℕ) → is_some (thread_of s.live id) ≡ is_some (place_of t.places id)
  has_place id =
      ap is_some (thread_of-place stands_for place t s h id) ∙ by (place_of t.places id) refl
    where
      by : (o : Option ℕ) → place_of t.places id ≡ o
          → is_some (option_and_then (thread_at t.places) o) ≡ is_some o
      by None none = refl
      by (Some i) found = let there = (place_of-Some t.places id i found).1 in rw there refl

  -- the least id above another
  pub least_is : (id : ℕ) → reduce min (filter_map (id_above id) t.places) ≡ least_above s.live id
  least_is id = least_in_places s.live t.places has_place id

  -- the place of a thread that is ready
  slot_is : (priority k : ℕ) → slot_at priority k (map (entry_in place s.live) s.ready)
      ≡ option_map place (ready_at s priority k)
  slot_is priority k =
      let own = filter (λ id. priority_of s.live id == priority) s.ready in
      ap (λ es. option_map (λ (e : Entry). e.slot) (slice_get es k))
      (filter-map_agree (entry_in place s.live) (λ id. priority_of s.live id == priority)
      (λ e. e.priority == priority) s.ready (λ j d below. refl))
      ∙ ap (option_map (λ (e : Entry). e.slot)) (slice_get-map (entry_in place s.live) own k)
      ∙ either (slice_get own k)
    where
      either : (o : Option ℕ)
          → option_map (λ (e : Entry). e.slot) (option_map (entry_in place s.live) o)
          ≡ option_map place o
      either None = refl
      either (Some id) = refl

  -- whether a thread of a priority is ready
  pub some_ready : (priority : ℕ)
      → is_some (slot_at priority 0 (map (entry_in place s.live) s.ready))
      ≡ list_any (λ id. priority_of s.live id == priority) s.ready
  some_ready priority =
      ap is_some (slot_is priority 0)
      ∙ some_mapped place (ready_at s priority 0)
      ∙ first_found (λ id. priority_of s.live id == priority) s.ready

  -- a thread that is ready stands in its place
  stands_there : (id : ℕ) → is_some (thread_of s.live id) ≡ true
      → option_map (λ (u : Thread). u.id) (thread_at t.places (place id)) ≡ Some id
  stands_there id live = by (thread_of s.live id) refl
    where
      by : (o : Option Thread) → thread_of s.live id ≡ o
          → option_map (λ (u : Thread). u.id) (thread_at t.places (place id)) ≡ Some id
      by None none = let not_live = ap is_some none in cc
      by (Some u) found =
          ap (option_map (λ (u : Thread). u.id)) (h.there id u found)
          ∙ ap Some (thread_of_id s.live id u found)

  -- the id of the thread in the place that is found
  pub ready_at_is : (priority k : ℕ) (slot : Option ℕ)
      → slot ≡ slot_at priority k (map (entry_in place s.live) s.ready)
      → option_map (λ (u : Thread). u.id) (option_and_then (thread_at t.places) slot)
      ≡ ready_at s priority k
  ready_at_is priority k slot is = rw (is ∙ slot_is priority k) (by (ready_at s priority k) refl)
    where
      own : List ℕ
      own = filter (λ id. priority_of s.live id == priority) s.ready

      by : (o : Option ℕ) → slice_get own k ≡ o
          → option_map (λ (u : Thread). u.id)
          (option_and_then (thread_at t.places) (option_map place o)) ≡ o
      by None none = refl
      by (Some id) at =
          let live = All-filter (λ one. priority_of s.live one == priority)
          (λ one. is_some (thread_of s.live one) ≡ true) s.ready h.ready_live k id
          (slice_get_within own k id at) in
          stands_there id (rw (get_or_from_slice_get own k id id at) at live)
