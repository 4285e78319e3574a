-- What the program's table holds at first, and when a thread is made or deleted.
use Rattle.std.proofs.Common.{◌≡◌, ◌≢◌, ℕ, ◌+◌, ◌<◌, ◌==◌, Bool, true, false, if◌then◌else◌, Option, Some, None, is_some, is_none, nat_le, nat_lt, ◌&&◌, option_map, unwrap_or, List, [], ◌∷◌, ◌++◌, length, get_or, set, map, refl, ap, sym, ◌∙◌, subst, arith}
use Rattle.std.proofs.lemmas.Bool.Decides.{nat_tests}
use Rattle.std.proofs.lemmas.Bool.{eqb-true, eqb-false}
use Rattle.std.proofs.lemmas.Option.{same_Some}
use Rattle.std.proofs.lemmas.List.{length-set}
use Rattle.std.proofs.lemmas.List.Elements.{All-nil}
use Rattle.std.specs.List.{position}
use Rattle.iop_base.specs.Numbers.{one_if}
use Rattle.iop_base.specs.declared.limits.TheConstants.{LAST_ID}
use Rattle.iop_ready.specs.declared.slot.TheConstants.{MOST_THREADS}
use Rattle.iop_ready.specs.declared.entry.Entry.{Entry}
use Rattle.iop_ready.specs.ReadyList.{entry_of}
use Rattle.iop_thread.specs.declared.thread.Thread.{Thread}
use Rattle.iop_thread.specs.declared.thread.TheConstants.{LOADER, LOADER_STACK}
use Rattle.iop_thread.specs.declared.threads.Threads.{Threads}
use Rattle.iop_thread.specs.Operations.{dormant_thread, loader_param, opening}
use Rattle.iop_thread.specs.ThreadTable.{ThreadTable, thread_of, has_room}
use Rattle.iop_thread.specs.ThreadPlaces.{thread_at, HasAlone}
use Rattle.iop_thread.specs.Moves.{IsIn, HasNotId}
use Rattle.iop_thread.specs.Standing.{Holds, entry_in}
use Rattle.iop_thread.proofs.LiveThreads.{without_thread, HaveOwnIds, thread_of_without, thread_of_added, length-without_thread, length-added}
use Rattle.iop_thread.proofs.PlaceLists.{free-None, free-Some, taken-lt, thread_at-set, thread_at-within, taken-set}
use Rattle.iop_thread.proofs.Holding.{one_place}
use Rattle.iop_thread.proofs.MappedLists.{map_agree}

-- the places when the thread of an id has a new one, and the others have theirs
abbrev pub place_with : (ℕ → ℕ) → (own at id : ℕ) → ℕ
place_with place own at id = if id == own then at else place id

module _ {R : Type 0} (stands_for : R → List Entry → Type 0) (place : ℕ → ℕ) (t : Threads R)
    (s : ThreadTable) (h : Holds stands_for place t s) where
  -- a thread that is not in the ready list goes, and its place is free
  module _ (at : ℕ) (u : Thread) (is : IsIn place s.live at u) (absent : HasNotId u.id s.ready) where
    -- the threads that are left
    abbrev live : List Thread
    live = without_thread u.id s.live

    -- it stands in its place
    at_is : thread_at t.places at ≡ Some u
    at_is = ap (thread_at t.places) (sym is.slot) ∙ h.there u.id u is.found

    -- which is one of the places
    at_inside : at < length t.places
    at_inside = thread_at-within t.places at u at_is

    -- what stands in each place then
    at_after : (j : ℕ) → thread_at (set t.places at None) j
        ≡ (if j == at then None else thread_at t.places j)
    at_after j = thread_at-set t.places at j None at_inside

    -- each thread that is left stands in its place
    there_left : (id : ℕ) (v : Thread) → thread_of live id ≡ Some v
        → thread_at (set t.places at None) (place id) ≡ Some v
    there_left id v found =
        let left = thread_of_without s.live u.id id in
        let other : (id == u.id) ≡ false = grind (arith, nat_tests, left, found) in
        let now : thread_of s.live id ≡ Some v = grind (arith, nat_tests, left, found, other) in
        let apart : place id ≢ at = λ e. eqb-false id u.id other
        (one_place stands_for place t s h id u.id v u now is.found (e ∙ sym is.slot)) in
        grind (arith, nat_tests, at_after (place id), h.there id v now, apart)

    -- and nothing else stands in any
    own_left : (j : ℕ) (v : Thread) → thread_at (set t.places at None) j ≡ Some v
        → IsIn place live j v
    own_left j v found =
        let other : (j == at) ≡ false = grind (arith, nat_tests, at_after j, found) in
        let before : thread_at t.places j ≡ Some v =
        grind (arith, nat_tests, at_after j, other, found) in
        let own = h.own j v before in
        let apart : v.id ≢ u.id = λ e. eqb-false j at other (sym own.slot ∙ ap place e ∙ is.slot) in
        record {
          found = grind (arith, nat_tests, thread_of_without s.live u.id v.id, own.found, apart);
          slot = own.slot;
        }

    -- an id that is not its own finds what it found
    same_left : (id : ℕ) → id ≢ u.id → thread_of live id ≡ thread_of s.live id
    same_left id other = grind (arith, nat_tests, thread_of_without s.live u.id id, other)

    -- the entries of the ready list stay
    entries_left : map (entry_in place s.live) s.ready ≡ map (entry_in place live) s.ready
    entries_left =
        map_agree (entry_in place s.live) (entry_in place live) s.ready
        (λ k d below. let id = get_or s.ready k d in
        ap (λ o. entry_of (place id) (unwrap_or (option_map (λ (v : Thread). v.priority) o) 0))
        (sym (same_left id (absent k d below))))

    -- the table holds the threads that are left
    pub goes : HaveOwnIds s.live
        → Holds stands_for place (record t { places = set t.places at None })
        (record s { live = live })
    goes ids = record {
      there = there_left;
      own = own_left;
      count = let less = taken-set t.places at None at_inside in
          let one = ap (λ o. one_if (is_some o)) at_is in
          omega (arith, length-without_thread s.live u.id u ids is.found, h.count, less, one);
      size = length-set t.places at None ∙ h.size;
      ready = subst (stands_for t.ready) entries_left h.ready;
      ready_live = λ k d below.
          ap is_some (same_left (get_or s.ready k d) (absent k d below)) ∙ h.ready_live k d below;
      running = h.running;
      next = h.next;
    }

  -- a thread comes, and has a place that was free
  module _ (at : ℕ) (u : Thread) (none : thread_of s.live u.id ≡ None)
      (inside : at < length t.places) (free : thread_at t.places at ≡ None) where
    -- the places then
    abbrev place_now : ℕ → ℕ
    place_now id = place_with place u.id at id

    -- the threads then
    abbrev live_now : List Thread
    live_now = s.live ++ u ∷ []

    -- what stands in each place then
    at_now : (j : ℕ) → thread_at (set t.places at (Some u)) j
        ≡ (if j == at then Some u else thread_at t.places j)
    at_now j = thread_at-set t.places at j (Some u) inside

    -- each thread stands in its place then
    there_by : (id : ℕ) (v : Thread) (b : Bool) → (id == u.id) ≡ b → thread_of live_now id ≡ Some v
        → thread_at (set t.places at (Some u)) (if b then at else place id) ≡ Some v
    there_by id v true same found =
        let now = thread_of_added s.live u id none in
        grind (arith, nat_tests, at_now at, now, same, found)
    there_by id v false other found =
        let now = thread_of_added s.live u id none in
        let before : thread_of s.live id ≡ Some v = grind (arith, nat_tests, now, other, found) in
        let there = h.there id v before in
        let apart : place id ≢ at =
        λ e. none_some (sym free ∙ ap (thread_at t.places) (sym e) ∙ there) in
        grind (arith, nat_tests, at_now (place id), there, apart)
      where
        none_some : None ≡ Some v → ⊥
        none_some e = cc

    -- and nothing else stands in any
    own_by : (j : ℕ) (v : Thread) (b : Bool) → (j == at) ≡ b
        → thread_at (set t.places at (Some u)) j ≡ Some v → IsIn place_now live_now j v
    own_by j v true same found =
        let is : u ≡ v = same_Some u v (grind (arith, nat_tests, at_now j, same, found)) in
        let here : at ≡ j = sym (eqb-true j at same) in
        let now = thread_of_added s.live u u.id none in
        subst (IsIn place_now live_now j) is
        (record {
          found = grind (arith, nat_tests, now);
          slot = grind (arith, nat_tests, here);
        })
    own_by j v false other found =
        let before : thread_at t.places j ≡ Some v =
        grind (arith, nat_tests, at_now j, other, found) in
        let own = h.own j v before in
        let apart : v.id ≢ u.id =
        λ e. none_some (sym none ∙ ap (thread_of s.live) (sym e) ∙ own.found) in
        record {
          found = grind (arith, nat_tests, thread_of_added s.live u v.id none, own.found, apart);
          slot = grind (arith, nat_tests, own.slot, apart);
        }
      where
        none_some : None ≡ Some v → ⊥
        none_some e = cc

    -- the id of a live thread is not its own
    apart_now : (id : ℕ) → is_some (thread_of s.live id) ≡ true → id ≢ u.id
    apart_now id live = λ e. not_some (sym (ap (λ id. is_some (thread_of s.live id)) e ∙ ap is_some none) ∙ live)
      where
        not_some : false ≡ true → ⊥
        not_some e = cc

    -- the entries of the ready list stay
    entries_now : map (entry_in place s.live) s.ready ≡ map (entry_in place_now live_now) s.ready
    entries_now =
        map_agree (entry_in place s.live) (entry_in place_now live_now) s.ready
        (λ k d below. let id = get_or s.ready k d in
        let apart = apart_now id (h.ready_live k d below) in
        let now = thread_of_added s.live u id none in
        grind (arith, nat_tests, apart, now))

    -- the thread that runs keeps its place
    running_now : (o : Option ℕ) → ((id : ℕ) → o ≡ Some id → is_some (thread_of s.live id) ≡ true)
        → option_map place o ≡ option_map place_now o
    running_now None live = refl
    running_now (Some id) live = let apart = apart_now id (live id refl) in grind (arith, nat_tests, apart)

    -- the table holds the threads and this one
    pub comes : ((id : ℕ) → s.running ≡ Some id → is_some (thread_of s.live id) ≡ true)
        → Holds stands_for place_now
        (record t { places = set t.places at (Some u); next = t.next + 1 })
        (record s { live = live_now; next = s.next + 1 })
    comes live = record {
      there = λ id v found. there_by id v (id == u.id) refl found;
      own = λ j v found. own_by j v (j == at) refl found;
      count = let more = taken-set t.places at (Some u) inside in
          let zero = ap (λ o. one_if (is_some o)) free in
          omega (arith, length-added s.live u, h.count, more, zero);
      size = length-set t.places at (Some u) ∙ h.size;
      ready = subst (stands_for t.ready) entries_now h.ready;
      ready_live = λ k d below. let id = get_or s.ready k d in
          let apart = apart_now id (h.ready_live k d below) in
          let now = thread_of_added s.live u id none in
          grind (arith, nat_tests, apart, now, h.ready_live k d below);
      running = h.running ∙ running_now s.running live;
      next = ap (λ n. n + 1) h.next;
    }

  -- fewer than all threads are live exactly where a place is free
  pub room_by : (o : Option ℕ) → position is_none t.places ≡ o
      → nat_lt (length s.live) MOST_THREADS ≡ is_some o
  room_by None none =
      let full = free-None t.places none in
      grind (arith, nat_tests, full, h.count, h.size)
  room_by (Some i) found =
      let free = free-Some t.places i found in
      let less = taken-lt t.places i free.0 free.1 in
      grind (arith, nat_tests, less, h.count, h.size)

  -- one more thread can be made exactly where a place is free and an id is left
  pub has_room-free : (o : Option ℕ) → o ≡ position is_none t.places
      → has_room s ≡ (is_some o && nat_le t.next LAST_ID)
  has_room-free o is =
      ap (λ b. b && nat_le s.next LAST_ID) (room_by o (sym is))
      ∙ ap (λ n. is_some o && nat_le n LAST_ID) h.next

-- the loader's thread alone
module _ {R : Type 0} (stands_for : R → List Entry → Type 0) (t : Threads R)
    (alone : HasAlone (Some (dormant_thread LOADER loader_param LOADER_STACK 0)) t.places)
    (none : stands_for t.ready []) (idle : t.running ≡ None) (next : t.next ≡ LOADER + 1) where
  -- the table holds it
  pub opens : Holds stands_for (λ id. 0) t opening
  opens = record {
    there = λ id u found. alone.at 0 ∙ grind (arith, nat_tests, found);
    own = λ slot u found. own_at slot u (sym (alone.at slot) ∙ found);
    count = sym alone.count;
    size = alone.size;
    ready = none;
    ready_live = All-nil (λ id. is_some (thread_of opening.live id) ≡ true);
    running = idle;
    next = sym next;
  }
    where
      loader : Thread
      loader = dormant_thread LOADER loader_param LOADER_STACK 0

      own_at : (slot : ℕ) (u : Thread)
          → (if slot == 0 then Some (dormant_thread LOADER loader_param LOADER_STACK 0) else None)
          ≡ Some u
          → IsIn (λ id. 0) opening.live slot u
      own_at slot u found =
          let zero : slot ≡ 0 = grind (arith, nat_tests, found) in
          let is : dormant_thread LOADER loader_param LOADER_STACK 0 ≡ u =
          same_Some _ u (grind (arith, nat_tests, found, zero)) in
          subst (IsIn (λ id. 0) opening.live slot) is
          (record { found = grind (arith, nat_tests); slot = sym zero })
