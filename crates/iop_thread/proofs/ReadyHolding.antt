-- What the program's table holds when a thread is put into the ready list, or taken out of it.
use Rattle.std.proofs.Common.{◌≡◌, ◌≢◌, ℕ, ◌==◌, true, false, not, Option, Some, None, is_some, List, [], ◌∷◌, ◌++◌, get_or, map, refl, ap, sym, ◌∙◌, subst, arith}
use Rattle.std.proofs.lemmas.Bool.Decides.{nat_tests}
use Rattle.std.proofs.lemmas.Bool.{eqb-true, eq-eqb}
use Rattle.std.proofs.lemmas.List.{map-append}
use Rattle.std.proofs.lemmas.List.Elements.{All-cons, All-filter, All-map, All-push, All-weaker}
use Rattle.iop_ready.specs.declared.entry.Entry.{Entry}
use Rattle.iop_ready.specs.ReadyList.{entry_of, HasNot}
use Rattle.iop_ready.specs.ReadyList.{without as without_entry}
use Rattle.iop_thread.specs.declared.thread.Thread.{Thread}
use Rattle.iop_thread.specs.declared.threads.Threads.{Threads}
use Rattle.iop_thread.specs.ThreadTable.{ThreadTable, thread_of, without}
use Rattle.iop_thread.specs.Moves.{HasNotId}
use Rattle.iop_thread.specs.Standing.{Holds, entry_in}
use Rattle.iop_thread.proofs.MappedLists.{filter-map_agree}
use Rattle.iop_thread.proofs.Holding.{one_place}

module _ {R : Type 0} (stands_for : R → List Entry → Type 0) (place : ℕ → ℕ) (t : Threads R)
    (s : ThreadTable) (h : Holds stands_for place t s) where
  -- a live thread is put into the ready list
  module _ (id : ℕ) (u : Thread) (found : thread_of s.live id ≡ Some u) where
    -- its entry has its priority
    entry_found : entry_in place s.live id ≡ entry_of (place id) u.priority
    entry_found = rw found refl

    -- its id is that of a live thread
    is_live : is_some (thread_of s.live id) ≡ true
    is_live = rw found refl

    -- it is put behind the others
    pub ready_behind : (r : R)
        → stands_for r (map (entry_in place s.live) s.ready ++ entry_of (place id) u.priority ∷ [])
        → Holds stands_for place (record t { ready = r }) (record s { ready = s.ready ++ id ∷ [] })
    ready_behind r now = record {
      there = h.there;
      own = h.own;
      count = h.count;
      size = h.size;
      ready = rw (map-append (entry_in place s.live) s.ready (id ∷ []), entry_found) now;
      ready_live = All-push (λ id. is_some (thread_of s.live id) ≡ true) s.ready id h.ready_live
          is_live;
      running = h.running;
      next = h.next;
    }

    -- it is put in front of them
    pub ready_in_front : (r : R)
        → stands_for r (entry_of (place id) u.priority ∷ map (entry_in place s.live) s.ready)
        → Holds stands_for place (record t { ready = r }) (record s { ready = id ∷ s.ready })
    ready_in_front r now = record {
      there = h.there;
      own = h.own;
      count = h.count;
      size = h.size;
      ready = rw entry_found now;
      ready_live = All-cons (λ id. is_some (thread_of s.live id) ≡ true) id s.ready is_live
          h.ready_live;
      running = h.running;
      next = h.next;
    }

    -- the other threads of the list have other places
    other_place : (other : ℕ) (o : Option Thread) → thread_of s.live other ≡ o → is_some o ≡ true
        → (place other == place id) ≡ (other == id)
    other_place other None is live = cc
    other_place other (Some v) is live =
        let apart = λ (e : place other ≡ place id). one_place stands_for place t s h other id v u is found e in
        same_tests apart (ap place)
      where
        same_tests : (place other ≡ place id → other ≡ id) → (other ≡ id → place other ≡ place id)
            → (place other == place id) ≡ (other == id)
        same_tests to back = grind (arith, nat_tests, to, back)

    -- so the two tests are one
    pub same_test : (other : ℕ) → is_some (thread_of s.live other) ≡ true
        → (place other == place id) ≡ (other == id)
    same_test other live = other_place other (thread_of s.live other) refl live

    -- the entries without its own
    entries_without : without_entry (place id) (map (entry_in place s.live) s.ready)
        ≡ map (entry_in place s.live) (without id s.ready)
    entries_without =
        filter-map_agree (entry_in place s.live) (λ other. not (other == id))
        (λ e. not (e.slot == place id)) s.ready
        (All-weaker (λ other. is_some (thread_of s.live other) ≡ true)
        (λ other. not (place other == place id) ≡ not (other == id))
        (λ other live. ap not (same_test other live)) s.ready h.ready_live)

    -- a thread is taken out of the ready list
    pub ready_without : (r : R)
        → stands_for r (without_entry (place id) (map (entry_in place s.live) s.ready))
        → Holds stands_for place (record t { ready = r }) (record s { ready = without id s.ready })
    ready_without r now = record {
      there = h.there;
      own = h.own;
      count = h.count;
      size = h.size;
      ready = subst (stands_for r) entries_without now;
      ready_live = All-filter (λ other. not (other == id))
          (λ id. is_some (thread_of s.live id) ≡ true) s.ready h.ready_live;
      running = h.running;
      next = h.next;
    }

    -- no entry of the list has the place of an id that is not in it
    pub has_not_place : HasNotId id s.ready → HasNot (place id) (map (entry_in place s.live) s.ready)
    has_not_place absent =
        All-map (λ (e : Entry). e.slot ≢ place id) (entry_in place s.live) s.ready
        (λ k d below. let other = get_or s.ready k d in λ same.
        absent k d below (eqb-true other id
        (sym (same_test other (h.ready_live k d below)) ∙ eq-eqb (place other) (place id) same)))

  -- a thread of the ready list is moved behind the others
  pub ready_moved_last : (id : ℕ) → is_some (thread_of s.live id) ≡ true → (r : R)
      → stands_for r (without_entry (place id) (map (entry_in place s.live) s.ready)
      ++ entry_in place s.live id ∷ [])
      → Holds stands_for place (record t { ready = r })
      (record s { ready = without id s.ready ++ id ∷ [] })
  ready_moved_last id live r now = by (thread_of s.live id) refl
    where
      by : (o : Option Thread) → thread_of s.live id ≡ o
          → Holds stands_for place (record t { ready = r })
          (record s { ready = without id s.ready ++ id ∷ [] })
      by None is = absurd (not_live (sym live ∙ ap is_some is))
        where
          not_live : true ≡ false → ⊥
          not_live e = cc
      by (Some u) found = record {
        there = h.there;
        own = h.own;
        count = h.count;
        size = h.size;
        ready = rw (map-append (entry_in place s.live) (without id s.ready) (id ∷ []))
            (subst (λ l. stands_for r (l ++ entry_in place s.live id ∷ []))
            (entries_without id u found) now);
        ready_live = All-push (λ id. is_some (thread_of s.live id) ≡ true) (without id s.ready) id
            (All-filter (λ other. not (other == id))
            (λ id. is_some (thread_of s.live id) ≡ true) s.ready h.ready_live) live;
        running = h.running;
        next = h.next;
      }
