-- Which threads of the program's table are in the ready list, and which may be put back into it.
use Rattle.std.proofs.Common.{◌≡◌, ℕ, ◌<◌, ◌==◌, nat_lt, Bool, true, false, Option, Some, None, is_some, option_map, option_and_then, List, [], ◌∷◌, map, All, Contains, refl, ap, sym, ◌∙◌, subst, arith}
use Rattle.std.specs.List.{list_any}
use Rattle.std.proofs.lemmas.Bool.Decides.{nat_tests}
use Rattle.std.proofs.lemmas.List.Elements.{All-contains_itself, All-head, All-tail, All-weaker}
use Rattle.std.proofs.lemmas.List.Folds.{list_all_at}
use Rattle.std.proofs.lemmas.List.Sums.{list_all-from_AllPass}
use Rattle.iop_ready.specs.declared.entry.Entry.{Entry}
use Rattle.iop_ready.specs.declared.slot.TheConstants.{MOST_THREADS}
use Rattle.iop_ready.specs.ReadyList.{HasNot}
use Rattle.iop_thread.specs.declared.found.Found.{Found}
use Rattle.iop_thread.specs.declared.thread.Thread.{Thread}
use Rattle.iop_thread.specs.declared.threads.Threads.{Threads}
use Rattle.iop_thread.specs.Placing.{times}
use Rattle.iop_thread.specs.Restoring.{is_unlisted, is_listed, is_listed_in, are_listed}
use Rattle.iop_thread.specs.Standing.{Holds, entry_in}
use Rattle.iop_thread.specs.States.{is_ready}
use Rattle.iop_thread.specs.ThreadPlaces.{place_of, thread_at}
use Rattle.iop_thread.specs.ThreadTable.{ThreadTable, thread_of}
use Rattle.iop_thread.proofs.Handling.{has_not_id}
use Rattle.iop_thread.proofs.Holding.{thread_of-place}
use Rattle.iop_thread.proofs.LiveThreads.{HaveOwnIds, contains_thread_of, thread_of_id, thread_of_is_live}
use Rattle.iop_thread.proofs.PlaceLists.{thread_at-within}
use Rattle.iop_thread.proofs.ReadyHolding.{has_not_place, same_test}

-- an id is in a list exactly where an entry of it has its slot
any_times : (entry : ℕ → Entry) (at id : ℕ) (ids : List ℕ)
    → All (λ other. ((entry other).slot == at) ≡ (other == id)) ids
    → list_any (λ e. e.slot == at) (map entry ids) ≡ nat_lt 0 (times id ids)
any_times entry at id [] same = grind (arith, nat_tests)
any_times entry at id (other ∷ ids) same =
    let P : ℕ → Type 0 = λ one. ((entry one).slot == at) ≡ (one == id) in
    let here = All-head P other ids same in
    let rest = any_times entry at id ids (All-tail P other ids same) in
    grind (arith, nat_tests, here, rest)

-- what was found in a place
pub in_place_none : (slot : ℕ) (o : Option Thread)
    → ◌≡◌ {A = Option Found} None (option_map (λ t. record { slot = slot; thread = t }) o)
    → o ≡ None
in_place_none slot None is = refl
in_place_none slot (Some t) is = cc

pub in_place_some : (slot : ℕ) (o : Option Thread) (found : Found)
    → Some found ≡ option_map (λ t. record { slot = slot; thread = t }) o
    → (o ≡ Some found.thread) × (found.slot ≡ slot)
in_place_some slot None found is = cc
in_place_some slot (Some t) found is = (cc, cc)

module _ (s : ThreadTable) (id : ℕ) where
  -- an id may not be put into the ready list where no thread has it, or one that is not ready
  pub none_may : thread_of s.live id ≡ None → is_unlisted s id ≡ false
  none_may none = rw none refl

  pub idle_may_not : (u : Thread) → thread_of s.live id ≡ Some u → is_ready u.state ≡ false
      → is_unlisted s id ≡ false
  idle_may_not u found idle = rw (found, idle) refl

module _ {R : Type 0} (stands_for : R → List Entry → Type 0) (place : ℕ → ℕ) (t : Threads R)
    (s : ThreadTable) (h : Holds stands_for place t s) where
  -- whether the thread of an id has an entry in the ready list
  pub listed_entry : (id : ℕ) (u : Thread) → thread_of s.live id ≡ Some u
      → list_any (λ e. e.slot == place id) (map (entry_in place s.live) s.ready)
      ≡ nat_lt 0 (times id s.ready)
  listed_entry id u found =
      any_times (entry_in place s.live) (place id) id s.ready
      (All-weaker (λ other. is_some (thread_of s.live other) ≡ true)
      (λ other. (place other == place id) ≡ (other == id))
      (λ other live. same_test stands_for place t s h id u found other live) s.ready h.ready_live)

  -- the thread of an id is the one in the place that is found
  pub found_at : (id slot : ℕ) (o : Option Thread) → Some slot ≡ place_of t.places id
      → thread_at t.places slot ≡ o → thread_of s.live id ≡ o
  found_at id slot o at is =
      thread_of-place stands_for place t s h id
      ∙ ap (option_and_then (thread_at t.places)) (sym at) ∙ is

  module _ (slot : ℕ) (u : Thread) (at : thread_at t.places slot ≡ Some u) where
    -- whether the thread in a place has an entry in the ready list
    pub listed_there : list_any (λ e. e.slot == slot) (map (entry_in place s.live) s.ready)
        ≡ nat_lt 0 (times u.id s.ready)
    listed_there =
        let own = h.own slot u at in
        subst (λ n. list_any (λ e. e.slot == n) (map (entry_in place s.live) s.ready)
        ≡ nat_lt 0 (times u.id s.ready)) own.slot (listed_entry u.id u own.found)

    -- it is in the ready list, if it is ready, exactly where it has one
    pub listed_in_place : is_ready u.state ≡ true
        → list_any (λ e. e.slot == slot) (map (entry_in place s.live) s.ready)
        ≡ is_listed_in s (thread_at t.places slot)
    listed_in_place ready = rw (at, ready) listed_there

    -- the thread of an id may be put there exactly where it has none
    module _ (id : ℕ) (found : thread_of s.live id ≡ Some u) (ready : is_ready u.state ≡ true) where
      abbrev pub has_entry : Bool
      has_entry = list_any (λ e. e.slot == slot) (map (entry_in place s.live) s.ready)

      own_id : u.id ≡ id
      own_id = thread_of_id s.live id u found

      pub listed_may_not : has_entry ≡ true → is_unlisted s id ≡ false
      listed_may_not has =
          let some : nat_lt 0 (times u.id s.ready) ≡ true = sym listed_there ∙ has in
          rw (found, ready) (grind (arith, nat_tests, some, own_id))

      pub unlisted_may : has_entry ≡ false → is_unlisted s id ≡ true
      unlisted_may none =
          let some : nat_lt 0 (times u.id s.ready) ≡ false = sym listed_there ∙ none in
          rw (found, ready) (grind (arith, nat_tests, some, own_id))

  -- a thread that may be put into the ready list has no entry there, and this is its place
  module _ (id slot : ℕ) (u : Thread) (found : thread_of s.live id ≡ Some u)
      (at : thread_at t.places slot ≡ Some u) where
    pub place_is : place id ≡ slot
    place_is =
        ap place (sym (thread_of_id s.live id u found)) ∙ (h.own slot u at).slot

    pub no_entry : is_unlisted s id ≡ true → HasNot slot (map (entry_in place s.live) s.ready)
    no_entry may =
        let none : times id s.ready ≡ 0 = grind (arith, nat_tests, may) in
        subst (λ n. HasNot n (map (entry_in place s.live) s.ready)) place_is
        (has_not_place stands_for place t s h id u found (has_not_id id s.ready none))

  -- one that is ready and is not in the ready list
  pub not_all : (slot : ℕ) → is_listed_in s (thread_at t.places slot) ≡ false
      → are_listed s ≡ false
  not_all slot fails = by (thread_at t.places slot) refl fails
    where
      by : (o : Option Thread) → thread_at t.places slot ≡ o → is_listed_in s o ≡ false
          → are_listed s ≡ false
      by None at fails = cc
      by (Some u) at fails =
          let own = h.own slot u at in
          let (k, below, there) = thread_of_is_live s.live u.id u own.found in
          list_all_at (is_listed s) s.live k u below
          (ap (is_listed s) there ∙ fails)

  -- where no place has such a thread, all that are ready are in the list
  pub all_are : HaveOwnIds s.live
      → ((slot : ℕ) → slot < MOST_THREADS → is_listed_in s (thread_at t.places slot) ≡ true)
      → are_listed s ≡ true
  all_are ids each =
      list_all-from_AllPass (is_listed s) s.live
      (All-weaker (Contains s.live) (λ u. is_listed s u ≡ true)
      (λ u live.
      let there = h.there u.id u (contains_thread_of s.live u ids live) in
      let inside = thread_at-within t.places (place u.id) u there in
      let below : place u.id < MOST_THREADS = omega (arith, inside, h.size) in
      sym (ap (is_listed_in s) there) ∙ each (place u.id) below)
      s.live (All-contains_itself s.live))
