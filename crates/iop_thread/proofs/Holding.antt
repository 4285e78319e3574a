-- What the program's table holds when a thread changes, or another one runs, and which threads stand in
-- its places.
use Rattle.std.proofs.Common.{◌≡◌, ◌≢◌, ℕ, ◌<◌, ◌==◌, Bool, true, false, if◌then◌else◌, ◌⊎◌, inl, inr, Option, Some, None, is_some, option_map, option_and_then, MatchOption, List, length, get_or, set, map, refl, ap, sym, ◌∙◌, subst, arith}
use Rattle.std.proofs.lemmas.Bool.Decides.{nat_tests}
use Rattle.std.proofs.lemmas.Bool.{eqb-true, eqb-false}
use Rattle.std.proofs.lemmas.Option.{same_Some}
use Rattle.std.proofs.lemmas.List.{length-set}
use Rattle.std.proofs.lemmas.List.Elements.{All-weaker}
use Rattle.iop_base.specs.Numbers.{one_if}
use Rattle.iop_ready.specs.declared.entry.Entry.{Entry}
use Rattle.iop_ready.specs.ReadyList.{entry_of}
use Rattle.iop_thread.specs.declared.found.Found.{Found}
use Rattle.iop_thread.specs.declared.thread.Thread.{Thread}
use Rattle.iop_thread.specs.declared.threads.Threads.{Threads}
use Rattle.iop_thread.specs.ThreadTable.{ThreadTable, thread_of, priority_of, with_thread}
use Rattle.iop_thread.specs.ThreadPlaces.{thread_at, place_of}
use Rattle.iop_thread.specs.Moves.{IsIn, IsThere, HasNotId, CanBecome}
use Rattle.iop_thread.specs.Standing.{Holds, entry_in}
use Rattle.iop_thread.proofs.LiveThreads.{changed, thread_of_changed, thread_of_id, length-changed}
use Rattle.iop_thread.proofs.MappedLists.{map_agree}
use Rattle.iop_thread.proofs.PlaceLists.{thread_at-set, thread_at-within, taken-set, place_of-Some, place_of-None}

-- a change keeps who is live
is_some-changed : (live : List Thread) (u : Thread) (id : ℕ)
    → is_some (thread_of (changed u live) id) ≡ is_some (thread_of live id)
is_some-changed live u id =
    ap is_some (thread_of_changed live u id) ∙ either (thread_of live id) (id == u.id)
  where
    either : (o : Option Thread) (b : Bool)
        → is_some (if b then option_map (λ t. u) o else o) ≡ is_some o
    either None true = refl
    either None false = refl
    either (Some t) true = refl
    either (Some t) false = refl

-- the priority of a thread that was not changed, or kept its priority
priority_of-changed : (live : List Thread) (u was : Thread) (id : ℕ) → thread_of live u.id ≡ Some was
    → (id ≢ u.id) ⊎ (u.priority ≡ was.priority)
    → priority_of (changed u live) id ≡ priority_of live id
priority_of-changed live u was id found (inl other) =
    let at = thread_of_changed live u id in grind (arith, nat_tests, at, other)
priority_of-changed live u was id found (inr same) =
    let at = thread_of_changed live u id in grind (arith, nat_tests, at, same, found)

module _ {R : Type 0} (stands_for : R → List Entry → Type 0) (place : ℕ → ℕ) (t : Threads R)
    (s : ThreadTable) (h : Holds stands_for place t s) where
  -- two live threads have two places
  pub one_place : (id other : ℕ) (u v : Thread) → thread_of s.live id ≡ Some u
      → thread_of s.live other ≡ Some v → place id ≡ place other → id ≡ other
  one_place id other u v found too same =
      let both : Some u ≡ Some v =
      sym (h.there id u found) ∙ ap (thread_at t.places) same ∙ h.there other v too in
      sym (thread_of_id s.live id u found) ∙ ap (λ (w : Thread). w.id) (same_Some u v both)
      ∙ thread_of_id s.live other v too

  -- the thread of an id is the one that stands in the place that is found
  pub thread_of-place : (id : ℕ)
      → thread_of s.live id ≡ option_and_then (thread_at t.places) (place_of t.places id)
  thread_of-place id = by (place_of t.places id) refl (thread_of s.live id) refl
    where
      by : (p : Option ℕ) → place_of t.places id ≡ p → (o : Option Thread)
          → thread_of s.live id ≡ o → o ≡ option_and_then (thread_at t.places) p
      by None none None is = refl
      by None none (Some u) is =
          absurd (place_of-None t.places id (place id) u none (h.there id u is)
          (thread_of_id s.live id u is))
      by (Some i) found o is =
          let f = place_of-Some t.places id i found in
          sym is ∙ ap (thread_of s.live) (sym f.2) ∙ (h.own i f.0 f.1).found ∙ sym f.1

  -- a live thread is replaced by one of the same id
  module _ (at : ℕ) (u : Thread) (can : CanBecome place s at u) where
    -- the thread that it replaces stands there
    at_was : thread_at t.places at ≡ Some can.was
    at_was = ap (thread_at t.places) (sym can.slot) ∙ h.there u.id can.was can.found

    -- its place is one of the places
    at_inside : at < length t.places
    at_inside = thread_at-within t.places at can.was at_was

    -- what stands in each place then
    at_after : (j : ℕ) → thread_at (set t.places at (Some u)) j
        ≡ (if j == at then Some u else thread_at t.places j)
    at_after j = thread_at-set t.places at j (Some u) at_inside

    -- each thread stands in its place then
    there_by : (id : ℕ) (v : Thread) (b : Bool) → (id == u.id) ≡ b
        → thread_of (changed u s.live) id ≡ Some v
        → thread_at (set t.places at (Some u)) (place id) ≡ Some v
    there_by id v true same found =
        let is = eqb-true id u.id same in
        let here = ap place is ∙ can.slot in
        let now = thread_of_changed s.live u id in
        let was = ap (thread_of s.live) is ∙ can.found in
        grind (arith, nat_tests, at_after (place id), here, now, was, found, same)
    there_by id v false other found =
        let now : thread_of s.live id ≡ Some v =
        grind (arith, nat_tests, thread_of_changed s.live u id, other, found) in
        let apart : place id ≢ at = λ e. eqb-false id u.id other
        (one_place id u.id v can.was now can.found (e ∙ sym can.slot)) in
        grind (arith, nat_tests, at_after (place id), h.there id v now, apart)

    -- and nothing else stands in any
    own_by : (j : ℕ) (v : Thread) (b : Bool) → (j == at) ≡ b
        → thread_at (set t.places at (Some u)) j ≡ Some v
        → IsIn place (changed u s.live) j v
    own_by j v true same found =
        let is : u ≡ v = same_Some u v (grind (arith, nat_tests, at_after j, same, found)) in
        let here : at ≡ j = sym (eqb-true j at same) in
        let now = thread_of_changed s.live u u.id in
        subst (IsIn place (changed u s.live) j) is
        (record { found = grind (arith, nat_tests, now, can.found); slot = can.slot ∙ here })
    own_by j v false other found =
        let before : thread_at t.places j ≡ Some v =
        grind (arith, nat_tests, at_after j, other, found) in
        let own = h.own j v before in
        let apart : v.id ≢ u.id = λ e. eqb-false j at other
        (sym own.slot ∙ ap place e ∙ can.slot) in
        record {
          found = grind (arith, nat_tests, thread_of_changed s.live u v.id, own.found, apart);
          slot = own.slot;
        }

    -- the entries of the ready list stay
    entries_after : (ids : List ℕ) → HasNotId u.id ids ⊎ (u.priority ≡ can.was.priority)
        → map (entry_in place s.live) ids ≡ map (entry_in place (changed u s.live)) ids
    entries_after ids (inl absent) =
        map_agree (entry_in place s.live) (entry_in place (changed u s.live)) ids
        (All-weaker (λ id. id ≢ u.id)
        (λ id. entry_in place s.live id ≡ entry_in place (changed u s.live) id)
        (λ id other. ap (entry_of (place id))
        (sym (priority_of-changed s.live u can.was id can.found (inl other)))) ids absent)
    entries_after ids (inr same) =
        map_agree (entry_in place s.live) (entry_in place (changed u s.live)) ids
        (λ k d below. let id = get_or ids k d in ap (entry_of (place id))
        (sym (priority_of-changed s.live u can.was id can.found (inr same))))

    -- the table holds the threads with this one changed
    pub becomes : Holds stands_for place (record t { places = set t.places at (Some u) })
        (with_thread s u)
    becomes = record {
      there = λ id v found. there_by id v (id == u.id) refl found;
      own = λ j v found. own_by j v (j == at) refl found;
      count = let more = taken-set t.places at (Some u) at_inside in
          let one = ap (λ o. one_if (is_some o)) at_was in
          omega (arith, length-changed u s.live, h.count, more, one);
      size = length-set t.places at (Some u) ∙ h.size;
      ready = subst (stands_for t.ready) (entries_after s.ready can.priority) h.ready;
      ready_live = All-weaker (λ id. is_some (thread_of s.live id) ≡ true)
          (λ id. is_some (thread_of (changed u s.live) id) ≡ true)
          (λ id live. is_some-changed s.live u id ∙ live) s.ready h.ready_live;
      running = h.running;
      next = h.next;
    }

  -- none runs
  pub none_running : Holds stands_for place (record t { running = None })
      (record s { running = None })
  none_running = record {
    there = h.there;
    own = h.own;
    count = h.count;
    size = h.size;
    ready = h.ready;
    ready_live = h.ready_live;
    running = refl;
    next = h.next;
  }

  -- another thread runs
  pub one_running : (id : ℕ) → Holds stands_for place (record t { running = Some (place id) })
      (record s { running = Some id })
  one_running id = record {
    there = h.there;
    own = h.own;
    count = h.count;
    size = h.size;
    ready = h.ready;
    ready_live = h.ready_live;
    running = refl;
    next = h.next;
  }

-- what is found in a place
pub match_found : (places : List (Option Thread)) (slot : ℕ) (r : Option Found) (o : Option Thread)
    → r ≡ option_map (λ t. record { slot = slot; thread = t }) (thread_at places slot)
    → o ≡ thread_at places slot
    → MatchOption r (o ≡ None) (λ found. (o ≡ Some found.thread) × IsThere places found)
match_found places slot r o is same = by (thread_at places slot) refl r is
  where
    by : (p : Option Thread) → thread_at places slot ≡ p → (r : Option Found)
        → r ≡ option_map (λ t. record { slot = slot; thread = t }) p
        → MatchOption r (o ≡ None) (λ found. (o ≡ Some found.thread) × IsThere places found)
    by None at None is = same ∙ at
    by None at (Some found) is = cc
    by (Some t) at None is = cc
    by (Some t) at (Some found) is =
        let found_is : record { slot = slot; thread = t } ≡ found = sym (same_Some _ _ is) in
        subst (λ (found : Found). (o ≡ Some found.thread) × IsThere places found) found_is
        (same ∙ at, at)
