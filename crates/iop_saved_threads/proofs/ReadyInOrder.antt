-- The ready threads of one priority after the other are all that are ready, in order.
use mathlib.Core.Path.{fun_ext}
use Rattle.std.proofs.Common.{◌≡◌, ℕ, zero, suc, ◌+◌, ◌-◌, ◌<◌, ◌≤◌, ◌==◌, Bool, not, Some, None, ◌⊎◌, inl, inr, List, [], ◌∷◌, ◌++◌, append-nil, length, take, get_or, map, filter, All, refl, ap, sym, ◌∙◌, subst, arith, length-append}
use Rattle.std.proofs.lemmas.List.{length-map}
use Rattle.std.specs.List.{flat_map, range_with_len, slice_get}
use Rattle.std.proofs.lemmas.List.Concat.{flat_map-append}
use Rattle.std.proofs.lemmas.List.Filters.{length-filter_both}
use Rattle.std.proofs.lemmas.List.Sorted.{length_permutation}
use Rattle.std.proofs.lemmas.Option.{slice_get_cases}
use Rattle.iop_ready.proofs.Lists.{length-le_from_distinct}
use Rattle.iop_ready.specs.Priorities.{IsPriority}
use Rattle.iop_ready.specs.ReadyList.{IsReadyList}
use Rattle.iop_ready.specs.declared.entry.Entry.{Entry}
use Rattle.iop_ready.specs.declared.priority.TheConstants.{LOWEST_PRIORITY}
use Rattle.iop_ready.specs.declared.slot.TheConstants.{MOST_THREADS}
use Rattle.iop_thread.proofs.InOrder.{ready_in_order}
use Rattle.iop_thread.proofs.MappedLists.{All-mapped}
use Rattle.iop_thread.proofs.SortedLists.{permuted}
use Rattle.iop_thread.specs.Ordering.{in_order, HavePriorities, priorities, all_ready_at}
use Rattle.iop_thread.specs.Standing.{Stands, entry_in}
use Rattle.iop_thread.specs.ThreadTable.{ThreadTable, priority_of}
use Rattle.iop_thread.specs.declared.threads.Threads.{Threads}
use Rattle.iop_saved_threads.specs.Tables.{ready_of}

-- ---- one priority

-- one more of a list is taken
take_push : (xs : List ℕ) (k x : ℕ) → k < length xs → get_or xs k x ≡ x
    → take (suc k) xs ≡ take k xs ++ x ∷ []
take_push [] k x lt e = absurd (omega (arith, lt))
take_push (y ∷ ys) zero x lt e = ap (λ z. z ∷ []) e
take_push (y ∷ ys) (suc k) x lt e = ap (λ zs. y ∷ zs) (take_push ys k x (omega (arith, lt)) e)

-- what is found at a place of a list is inside, and the next one that is taken
pub record IsNext (xs : List ℕ) (k x : ℕ) : Type 0 where
  pub inside : k < length xs
  pub taken : take (k + 1) xs ≡ take k xs ++ x ∷ []

pub next_found : (xs : List ℕ) (k x : ℕ) → slice_get xs k ≡ Some x → IsNext xs k x
next_found xs k x found = elim (slice_get_cases xs k).1 [
  | inl there ↦
      let same : there.0 ≡ x = cc (there.2, found) in
      let next : k + 1 ≡ suc k = omega arith in
      record {
        inside = there.1;
        taken = ap (λ n. take n xs) next
            ∙ take_push xs k x there.1 (subst (λ y. get_or xs k y ≡ y) same there.3);
      }
  | inr past ↦ absurd (cc (past.1, found))
]

-- where none is found, all are taken
pub none_found : (xs : List ℕ) (k : ℕ) → slice_get xs k ≡ None → length xs ≤ k
none_found xs k none = elim (slice_get_cases xs k).1
    [ inl there ↦ absurd (cc (there.2, none)) | inr past ↦ past.0 ]

-- ---- all priorities

-- a range, and the number behind it
range_more : (a n k : ℕ) → a + n ≡ k
    → range_with_len a (suc n) ≡ range_with_len a n ++ k ∷ []
range_more a zero k is = ap (λ m. m ∷ []) (omega (arith, is))
range_more a (suc n) k is =
    ap (λ ks. a ∷ ks) (range_more (a + 1) n k (omega (arith, is)))

-- the lists of the numbers of a range, and that of the number behind it
pub lists_more : (f : ℕ → List ℕ) (a n m k : ℕ) → n + 1 ≡ m → a + n ≡ k
    → flat_map f (range_with_len a m) ≡ flat_map f (range_with_len a n) ++ f k
lists_more f a n m k next is =
    let same : m ≡ suc n = omega (arith, next) in
    ap (λ j. flat_map f (range_with_len a j)) same
    ∙ ap (flat_map f) (range_more a n k is) ∙ flat_map-append f (range_with_len a n) (k ∷ [])
    ∙ ap (λ ks. flat_map f (range_with_len a n) ++ ks) (append-nil (f k))

-- those of a shorter range are not longer together
shorter : (f : ℕ → List ℕ) (a n k m : ℕ) → n + k ≡ m
    → length (flat_map f (range_with_len a n)) ≤ length (flat_map f (range_with_len a m))
shorter f a n zero m is =
    let whole : n ≡ m = omega (arith, is) in
    let same = ap (λ j. length (flat_map f (range_with_len a j))) whole in omega (arith, same)
shorter f a n (suc k) m is =
    let rest = shorter f a n k (n + k) refl in
    let more = ap length (lists_more f a (n + k) m (a + (n + k)) (omega (arith, is)) refl) in
    let sum = length-append (flat_map f (range_with_len a (n + k))) (f (a + (n + k))) in
    omega (arith, rest, more, sum)

module _ {R : Type 0} (stands_for : R → List Entry → Type 0)
    (sound : (r : R) (xs : List Entry) → stands_for r xs → IsReadyList xs)
    {threads : Threads R} {s : ThreadTable} (h : Stands stands_for threads s) where
  abbrev entries : List Entry
  entries = map (entry_in h.place s.live) s.ready

  ready_list : IsReadyList entries
  ready_list = sound threads.ready entries h.holds.ready

  -- no more are ready than can be live
  few : length s.ready ≤ MOST_THREADS
  few =
      let slots = length-le_from_distinct (λ e. e.slot) MOST_THREADS entries ready_list.slots
      ready_list.distinct in
      omega (arith, slots, length-map s.ready (entry_in h.place s.live))

  pub few_of : (priority : ℕ) → length (ready_of s priority) ≤ MOST_THREADS
  few_of priority =
      let is : ℕ → Bool = λ id. priority_of s.live id == priority in
      let both = length-filter_both is (λ id. not (is id)) (λ id. refl) s.ready in
      omega (arith, both, few)

  have : HavePriorities s
  have =
      All-mapped (λ (e : Entry). IsPriority e.priority) (entry_in h.place s.live) s.ready
      ready_list.priorities

  -- of one priority after the other they are all, in order
  pub all_ready : flat_map (ready_of s) (range_with_len 1 LOWEST_PRIORITY) ≡ (in_order s).ready
  all_ready =
      ap (λ f. flat_map f priorities) (sym (fun_ext (ready_in_order.own s)))
      ∙ ready_in_order.all s have

  -- there is room for those of the next priority behind those of the better ones
  pub room_for : (k priority : ℕ) → k < LOWEST_PRIORITY → priority ≡ k + 1
      → length (flat_map (ready_of s) (range_with_len 1 k)) + length (ready_of s priority)
      ≤ MOST_THREADS
  room_for k priority lt is =
      let more = ap length
      (lists_more (ready_of s) 1 k (k + 1) priority refl (omega (arith, is))) in
      let sum = length-append (flat_map (ready_of s) (range_with_len 1 k)) (ready_of s priority) in
      let within = shorter (ready_of s) 1 (k + 1) (LOWEST_PRIORITY - (k + 1)) LOWEST_PRIORITY
      (omega (arith, lt)) in
      let whole = ap length all_ready in
      let same = length_permutation s.ready (in_order s).ready
      (permuted (priority_of s.live) s.ready) in
      omega (arith, more, sum, within, whole, same, few)
