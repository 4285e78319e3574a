-- What the program's table holds when threads are put back into it, and how they are placed so far.
use Rattle.std.proofs.Common.{◌≡◌, ℕ, ◌+◌, ◌<◌, ◌≤◌, ◌==◌, Bool, true, false, if◌then◌else◌, Option, Some, None, is_some, option_map, unwrap_or, List, [], ◌∷◌, ◌++◌, length, set, refl, ap, sym, ◌∙◌, subst, arith}
use Rattle.std.proofs.lemmas.Bool.{eq-eqb}
use Rattle.std.proofs.lemmas.Bool.Decides.{nat_tests}
use Rattle.std.proofs.lemmas.List.Elements.{All-contains, All-nil}
use Rattle.std.proofs.lemmas.List.Sums.{AllPass-from_list_all}
use Rattle.iop_base.specs.Numbers.{one_if}
use Rattle.iop_ready.specs.declared.entry.Entry.{Entry}
use Rattle.iop_thread.specs.declared.state.State.{State}
use Rattle.iop_thread.specs.declared.thread.Thread.{Thread}
use Rattle.iop_thread.specs.declared.thread.TheConstants.{LOADER}
use Rattle.iop_thread.specs.declared.threads.Threads.{Threads}
use Rattle.iop_thread.specs.Placing.{IsPlaced, times, is_in_state}
use Rattle.iop_thread.specs.Restoring.{no_threads, may_stand_beside, may_follow, with_last, is_unlisted, with_last_ready, is_listed, are_listed, may_be_next, with_next, ArePlacedSoFar}
use Rattle.iop_thread.specs.Standing.{Holds}
use Rattle.iop_thread.specs.States.{is_ready, is_running}
use Rattle.iop_thread.specs.ThreadPlaces.{thread_at, HasAlone}
use Rattle.iop_thread.specs.ThreadTable.{ThreadTable, thread_of, is_it}
use Rattle.iop_thread.proofs.Coming.{comes, place_with}
use Rattle.iop_thread.proofs.Holding.{one_running}
use Rattle.iop_thread.proofs.IdOrder.{added_in_order, all_before, later_in_order, none_in_order}
use Rattle.iop_thread.proofs.LiveThreads.{none_of_next, thread_of_added, thread_of_id, thread_of_is_live}
use Rattle.iop_thread.proofs.ReadyIds.{times_last}

-- a table of no thread
module _ {R : Type 0} (stands_for : R → List Entry → Type 0) (t : Threads R)
    (empty : HasAlone None t.places) (none : stands_for t.ready []) (idle : t.running ≡ None)
    (next : t.next ≡ LOADER) where
  pub holds_none : Holds stands_for (λ id. 0) t no_threads
  holds_none = record {
    there = λ id u found. cc;
    own = λ slot u found.
        let at = empty.at slot in absurd (grind (arith, nat_tests, at, found));
    count = sym empty.count;
    size = empty.size;
    ready = none;
    ready_live = All-nil (λ id. is_some (thread_of no_threads.live id) ≡ true);
    running = idle;
    next = sym next;
  }

pub placed_none : ArePlacedSoFar no_threads
placed_none = record {
  ready = λ id. grind (arith, nat_tests);
  running = λ id. grind (arith, nat_tests);
  ids = none_in_order;
}

module _ {R : Type 0} (stands_for : R → List Entry → Type 0) (place : ℕ → ℕ) (t : Threads R)
    (s : ThreadTable) (h : Holds stands_for place t s) where
  -- the next id changes
  pub holds_next : (n : ℕ) → Holds stands_for place (record t { next = n }) (with_next s n)
  holds_next n = record {
    there = h.there;
    own = h.own;
    count = h.count;
    size = h.size;
    ready = h.ready;
    ready_live = h.ready_live;
    running = h.running;
    next = refl;
  }

-- the threads of a table stay placed with another next id
pub next_placed : (s : ThreadTable) (n : ℕ) → IsPlaced s → may_be_next s n ≡ true
    → IsPlaced (with_next s n)
next_placed s n placed may = record {
  ready = placed.ready;
  running = placed.running;
  ids = later_in_order s.live s.next placed.ids n (grind (arith, nat_tests, may))
      (grind (arith, nat_tests, may));
}

module _ {R : Type 0} (stands_for : R → List Entry → Type 0) (place : ℕ → ℕ) (t : Threads R)
    (s : ThreadTable) (h : Holds stands_for place t s) where
  -- a thread comes back, and runs if that is its state
  module _ (at : ℕ) (u : Thread) (none : thread_of s.live u.id ≡ None)
      (inside : at < length t.places) (free : thread_at t.places at ≡ None)
      (live : (id : ℕ) → s.running ≡ Some id → is_some (thread_of s.live id) ≡ true) where
    abbrev place_now : ℕ → ℕ
    place_now id = place_with place u.id at id

    -- its place
    own_place : place_now u.id ≡ at
    own_place = rw (eq-eqb u.id u.id refl) refl

    comes_idle : Holds stands_for place_now
        (record t { places = set t.places at (Some u); next = u.id + 1 })
        (record s { live = s.live ++ u ∷ []; next = u.id + 1 })
    comes_idle =
        let came = comes stands_for place t s h at u none inside free live in
        holds_next stands_for place_now _ _ came (u.id + 1)

    comes_by : (b : Bool) → Holds stands_for (place_with place u.id at)
        (record t {
          places = set t.places at (Some u);
          running = if b then Some at else t.running;
          next = u.id + 1;
        })
        (record s {
          live = s.live ++ u ∷ [];
          running = if b then Some u.id else s.running;
          next = u.id + 1;
        })
    comes_by true =
        subst (λ slot. Holds stands_for place_now
        (record t {
          places = set t.places at (Some u);
          running = Some slot;
          next = u.id + 1;
        })
        (record s { live = s.live ++ u ∷ []; running = Some u.id; next = u.id + 1 }))
        own_place (one_running stands_for place_now _ _ comes_idle u.id)
    comes_by false = comes_idle

    pub comes_back : Holds stands_for (place_with place u.id at)
        (record t {
          places = set t.places at (Some u);
          running = if is_running u.state then Some at else t.running;
          next = u.id + 1;
        })
        (with_last s u)
    comes_back = comes_by (is_running u.state)

module _ (s : ThreadTable) (placed : ArePlacedSoFar s) where
  -- the running thread is live
  pub running_is_back : (id : ℕ) → s.running ≡ Some id → is_some (thread_of s.live id) ≡ true
  running_is_back id is = by (thread_of s.live id) refl
    where
      by : (o : Option Thread) → thread_of s.live id ≡ o → is_some o ≡ true
      by None none =
          let here = ap (λ o. is_it o id) is in
          absurd (grind (arith, nat_tests, placed.running id, here, none))
      by (Some t) found = refl

  -- a thread comes back behind all others
  module _ (u : Thread) (ahead : s.next ≤ u.id) where
    pub none_yet : thread_of s.live u.id ≡ None
    none_yet = none_of_next s.live u.id (all_before s.live s.next placed.ids u ahead)

    nowhere : (p : State → Bool) → is_in_state p s.live u.id ≡ false
    nowhere p = rw none_yet refl

    -- in which state the thread of each id is then
    state_then : (p : State → Bool) (id : ℕ) → is_in_state p (s.live ++ u ∷ []) id
        ≡ (if id == u.id then p u.state else is_in_state p s.live id)
    state_then p id =
        ap (λ o. unwrap_or (option_map (λ t. p t.state) o) false)
        (thread_of_added s.live u id none_yet)
        ∙ either (id == u.id)
      where
        either : (b : Bool) → let found = if b then Some u else thread_of s.live id in
            unwrap_or (option_map (λ t. p t.state) found) false
            ≡ (if b then p u.state else is_in_state p s.live id)
        either true = refl
        either false = refl

    -- the one that runs then
    runs_then : may_stand_beside s u ≡ true → (id : ℕ) (b : Bool) → is_running u.state ≡ b
        → (o : Option ℕ) → s.running ≡ o
        → is_it (if b then Some u.id else o) id ≡ (if id == u.id then b else is_it o id)
    runs_then beside id true runs None idle = grind (arith, nat_tests)
    runs_then beside id true runs (Some other) is = let alone = rw (runs, is) at beside in cc
    runs_then beside id false runs o is =
        let other : is_it o u.id ≡ false =
        ap (λ p. is_it p u.id) (sym is) ∙ placed.running u.id ∙ nowhere is_running in
        grind (arith, nat_tests, other)

    pub placed_last : may_follow s u ≡ true → ArePlacedSoFar (with_last s u)
    placed_last may = record {
      ready = λ id.
          let now = state_then is_ready id in
          let own = nowhere is_ready in
          let few = placed.ready id in
          grind (arith, nat_tests, now, own, few);
      running = λ id.
          runs_then (grind (arith, nat_tests, may)) id (is_running u.state) refl s.running refl
          ∙ ap (λ b. if id == u.id then is_running u.state else b) (placed.running id)
          ∙ sym (state_then is_running id);
      ids = added_in_order s.live s.next placed.ids u ahead (grind (arith, nat_tests, may))
          (grind (arith, nat_tests, may));
    }

  -- an id comes back into the ready list
  pub placed_last_ready : (id : ℕ) → is_unlisted s id ≡ true
      → ArePlacedSoFar (with_last_ready s id)
  placed_last_ready id unlisted = record {
    ready = λ other.
        let more = times_last other id s.ready in
        let few = placed.ready other in
        grind (arith, nat_tests, more, few, unlisted);
    running = placed.running;
    ids = placed.ids;
  }

  -- where each thread that is ready is in the ready list all are placed
  pub all_placed : are_listed s ≡ true → IsPlaced s
  all_placed listed = record {
    ready = λ id. by id (thread_of s.live id) refl;
    running = placed.running;
    ids = placed.ids;
  }
    where
      by : (id : ℕ) (o : Option Thread) → thread_of s.live id ≡ o
          → times id s.ready ≡ one_if (is_in_state is_ready s.live id)
      by id None none = let few = placed.ready id in grind (arith, nat_tests, few, none)
      by id (Some t) found =
          let own = thread_of_id s.live id t found in
          let there = thread_of_is_live s.live id t found in
          let some : is_listed s t ≡ true =
          All-contains (λ u. is_listed s u ≡ true) s.live t
          (AllPass-from_list_all (is_listed s) s.live listed) there in
          let few = placed.ready id in
          grind (arith, nat_tests, own, some, few, found)
