-- Threads in order: they are placed, are read so, and what stands for them stands for the threads.
use Rattle.std.proofs.Common.{◌≡◌, ◌↔◌, ℕ, zero, suc, ◌+◌, ◌<◌, ◌≤◌, ◌==◌, Bool, true, cond, not, is_some, Option, Some, None, List, [], ◌∷◌, length, map, filter, slice_get, refl, ap, sym, ◌∙◌, arith}
use mathlib.Core.Path.{fun_ext}
use Rattle.std.specs.List.{flat_map}
use Rattle.std.specs.List.Sorted.{IsPermutation}
use Rattle.std.proofs.lemmas.Bool.{ne_eqb}
use Rattle.std.proofs.lemmas.Bool.Decides.{nat_tests}
use Rattle.std.proofs.lemmas.List.Elements.{All-weaker}
use Rattle.std.proofs.lemmas.List.Filters.{length-filter_both}
use Rattle.std.proofs.lemmas.List.Sums.{length-filter}
use Rattle.std.proofs.lemmas.List.Sorted.{All-permutation, IsPermutation-map, IsPermutation-sym, sum_by-IsPermutation}
use Rattle.std.proofs.lemmas.Map.Keys.{IsDistinct-from_apart, IsDistinct-IsPermutation, apart_from_distinct}
use Rattle.iop_ready.specs.KernelReady.{KernelStands}
use Rattle.iop_ready.specs.Priorities.{IsPriority}
use Rattle.iop_ready.specs.ReadyList.{IsReadyList, StandsFor, of_priority}
use Rattle.iop_ready.specs.declared.entry.Entry.{Entry}
use Rattle.iop_ready.specs.declared.priority.TheConstants.{LOWEST_PRIORITY}
use Rattle.iop_ready.specs.declared.slot.TheConstants.{MOST_THREADS}
use Rattle.iop_ready.proofs.Holding.{holds_any}
use Rattle.iop_thread.specs.declared.threads.Threads.{Threads}
use Rattle.iop_thread.specs.Ordering.{by_number, in_order, HavePriorities, priorities, all_from, all_ready_at, ReadyThreadsAreReadInOrder, TablesStandInOrder}
use Rattle.iop_thread.specs.Placing.{IsPlaced, times}
use Rattle.iop_thread.specs.Reading.{ready_at}
use Rattle.iop_thread.specs.Standing.{Stands, entry_in}
use Rattle.iop_thread.specs.ThreadTable.{ThreadTable, thread_of, priority_of}
use Rattle.iop_thread.proofs.MappedLists.{All-mapped, filter-map_agree}
use Rattle.iop_thread.proofs.SortedLists.{permuted, same_with, sorted_by_numbers}

-- an id is as often in a list in another order
times_permuted : (id : ℕ) (xs ys : List ℕ) → IsPermutation xs ys → times id ys ≡ times id xs
times_permuted id xs ys permutes =
    length-filter (λ other. other == id) ys
    ∙ sum_by-IsPermutation (λ other. cond (other == id) 1 0) xs ys permutes
    ∙ sym (length-filter (λ other. other == id) xs)

-- threads are placed with the ready list in any order
placed_permuted : (s : ThreadTable) (ids : List ℕ) → IsPermutation s.ready ids → IsPlaced s
    → IsPlaced (record s { ready = ids })
placed_permuted s ids permutes placed = record {
  ready = λ id. times_permuted id s.ready ids permutes ∙ placed.ready id;
  running = placed.running;
  ids = placed.ids;
}

-- the ready list and the same in order
in_other_order : (s : ThreadTable) → IsPermutation s.ready (in_order s).ready
in_other_order s = permuted (priority_of s.live) s.ready

pub placed_in_order : (s : ThreadTable) → IsPlaced s → IsPlaced (in_order s)
placed_in_order s = placed_permuted s (in_order s).ready (in_other_order s)

-- all that are found from the first place on are the list
all_found : (at : ℕ → Option ℕ) (most place : ℕ) (ids : List ℕ)
    → ((k : ℕ) → at (place + k) ≡ slice_get ids k) → length ids ≤ most
    → all_from most at place ≡ ids
all_found at zero place [] same few = refl
all_found at zero place (id ∷ ids) same few = absurd (omega (arith, few))
all_found at (suc most) place [] same few =
    let none : at place ≡ None = ap at (omega arith) ∙ same 0 in rw none refl
all_found at (suc most) place (id ∷ ids) same few =
    let some : at place ≡ Some id = ap at (omega arith) ∙ same 0 in
    let rest = all_found at most (place + 1) ids
    (λ k. ap at (omega arith) ∙ same (suc k)) (omega (arith, few)) in
    rw some (ap (λ l. id ∷ l) rest)

own_in_order : (s : ThreadTable) (priority : ℕ)
    → all_ready_at s priority ≡ filter (λ id. priority_of s.live id == priority) s.ready
own_in_order s priority =
    let is : ℕ → Bool = λ id. priority_of s.live id == priority in
    all_found (ready_at s priority) (length s.ready) 0 (filter is s.ready)
    (λ k. ap (ready_at s priority) (omega arith)) (few is s.ready)
  where
    few : (is : ℕ → Bool) (ids : List ℕ) → length (filter is ids) ≤ length ids
    few is ids =
        let all = length-filter_both is (λ id. not (is id)) (λ id. refl) ids in omega (arith, all)

all_in_order : (s : ThreadTable) → HavePriorities s
    → flat_map (all_ready_at s) priorities ≡ (in_order s).ready
all_in_order s have =
    ap (λ f. flat_map f priorities) (fun_ext (own_in_order s))
    ∙ sorted_by_numbers (priority_of s.live) 1 LOWEST_PRIORITY s.ready
    (All-weaker (λ id. IsPriority (priority_of s.live id))
    (λ id. (1 ≤ priority_of s.live id) × (priority_of s.live id < 1 + LOWEST_PRIORITY))
    (λ id is. (is.0, omega (arith, is.1))) s.ready have)

pub ready_in_order : ReadyThreadsAreReadInOrder
ready_in_order = record { own = own_in_order; all = all_in_order }

-- a list of ready threads is one in any order
sound_permuted : (xs ys : List Entry) → IsPermutation xs ys → IsReadyList xs → IsReadyList ys
sound_permuted xs ys permutes h =
    let same : Entry → Entry → Bool = λ x y. x.slot == y.slot in
    let apart = IsDistinct-IsPermutation same (λ x y. grind (arith, nat_tests)) xs ys permutes
    (IsDistinct-from_apart same xs (λ i j d less below. ne_eqb _ _ (h.distinct i j d less below))) in
    record {
      slots = All-permutation (λ e. e.slot < MOST_THREADS) xs ys permutes h.slots;
      priorities = All-permutation (λ e. IsPriority e.priority) xs ys permutes h.priorities;
      distinct = λ i j d less below.
          let other = apart_from_distinct same ys i j d apart less below in
          λ is. grind (arith, nat_tests, other, is);
    }

module _ {R : Type 0} (stands_for : R → List Entry → Type 0)
    (sound : (r : R) (xs : List Entry) → stands_for r xs → IsReadyList xs)
    (any : (r : R) (xs ys : List Entry) → stands_for r xs → StandsFor xs ys → stands_for r ys) where
  -- those that are ready have priorities that can be
  pub have_priorities : (t : Threads R) (s : ThreadTable) → Stands stands_for t s
      → HavePriorities s
  have_priorities t s h =
      All-mapped (λ (e : Entry). IsPriority e.priority) (entry_in h.place s.live) s.ready
      (sound t.ready (map (entry_in h.place s.live) s.ready) h.holds.ready).priorities

  module _ (t : Threads R) (s : ThreadTable) (ids : List ℕ) (permutes : IsPermutation s.ready ids)
      (same : (p : ℕ) → filter (λ id. priority_of s.live id == p) s.ready
      ≡ filter (λ id. priority_of s.live id == p) ids)
    where
      -- a table stands for the threads with the ready list in another order, if each priority has the
      -- same in one order
      stands_permuted : Stands stands_for t s → Stands stands_for t (record s { ready = ids })
      stands_permuted h =
          let entry = entry_in h.place s.live in
          let was = sound t.ready (map entry s.ready) h.holds.ready in
          let own : (p : ℕ) (l : List ℕ) → of_priority p (map entry l)
          ≡ map entry (filter (λ id. priority_of s.live id == p) l) =
          λ p l. filter-map_agree entry (λ id. priority_of s.live id == p) (λ e. e.priority == p) l
          (λ j d below. refl) in
          record {
            place = h.place;
            holds = record {
              there = h.holds.there;
              own = h.holds.own;
              count = h.holds.count;
              size = h.holds.size;
              ready = any t.ready (map entry s.ready) (map entry ids) h.holds.ready (record {
                same = λ p. own p s.ready ∙ ap (map entry) (same p) ∙ sym (own p ids);
                left = was;
                right = sound_permuted (map entry s.ready) (map entry ids)
                    (IsPermutation-map entry s.ready ids permutes) was;
              });
              ready_live = All-permutation (λ id. is_some (thread_of s.live id) ≡ true) s.ready ids
                  permutes h.holds.ready_live;
              running = h.holds.running;
              next = h.holds.next;
            };
            placed = placed_permuted s ids permutes h.placed;
          }

  pub stands_in_order : (t : Threads R) (s : ThreadTable)
      → Stands stands_for t (in_order s) ↔ Stands stands_for t s
  stands_in_order t s =
      let number = priority_of s.live in
      let ids = by_number number s.ready in
      let permutes = in_other_order s in (
        stands_permuted t (in_order s) s.ready (IsPermutation-sym s.ready ids permutes)
            (λ p. same_with number p s.ready),
        stands_permuted t s ids permutes (λ p. sym (same_with number p s.ready)),
      )

pub tables_in_order : TablesStandInOrder
tables_in_order = record {
  priorities = have_priorities KernelStands (λ r xs hold. hold.sound) holds_any;
  either = stands_in_order KernelStands (λ r xs hold. hold.sound) holds_any;
}
