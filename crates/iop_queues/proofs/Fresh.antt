-- The nodes of new queues, which are put into the list of the free ones one after the other.
use Rattle.std.proofs.Common.{◌≡◌, ℕ, zero, suc, ◌+◌, ◌<◌, ◌^◌, true, false, is_some, ⊎_elim, Option, None, List, [], ◌∷◌, ◌++◌, length, map, get_or, replicate, refl, ap, sym, ◌∙◌, arith}
use Rattle.std.specs.List.{range_with_len}
use Rattle.std.proofs.lemmas.Bool.{cases_lt}
use Rattle.std.proofs.lemmas.List.{map-id, length-replicate, get_or-replicate, get_or_past}
use Rattle.std.proofs.lemmas.List.Elements.{All-nil}
use Rattle.std.proofs.lemmas.List.Folds.{sum_by-replicate}
use Rattle.std.proofs.lemmas.List.FromFn.{length-range_with_len, get_or-range_with_len, map-range_with_len_more}
use Rattle.iop_base.proofs.Searching.{position-none}
use Rattle.iop_cblock.specs.Lists.{Lists, AreDisjoint, no_lists, holds, list_at, list_of, pushed_back}
use Rattle.iop_queues.specs.Nodes.{queues_in, AreQueues}
use Rattle.iop_queues.specs.Queues.{total}
use Rattle.iop_queues.specs.Walks.{item_at, items_of, AreFilled}
use Rattle.iop_queues.specs.declared.queued.Queued.{Queued}
use Rattle.iop_queues.proofs.Distinct.{lacks-all}

-- the lists once so many nodes are free
abbrev pub filling : (room queues : ℕ) → ℕ → Lists
filling room queues i =
    record { nodes = room; lists = range_with_len 0 i ∷ replicate queues [] }

pub filling_none : (room queues : ℕ) → no_lists room (queues + 1) ≡ filling room queues 0
filling_none room queues =
    let next : queues + 1 ≡ suc queues = omega arith in
    ap (no_lists room) next

range-more : (i : ℕ) → range_with_len 0 i ++ i ∷ [] ≡ range_with_len 0 (i + 1)
range-more i =
    let same : ℕ → ℕ = λ n. n in
    ap (λ ns. ns ++ i ∷ []) (sym (map-id (range_with_len 0 i)))
    ∙ sym (map-range_with_len_more same 0 i i (omega arith)) ∙ map-id (range_with_len 0 (i + 1))

pub filling_more : (room queues i : ℕ)
    → pushed_back 0 i (filling room queues i) ≡ filling room queues (i + 1)
filling_more room queues i =
    ap (λ ns. let s : Lists = record { nodes = room; lists = ns ∷ replicate queues [] } in s)
    (range-more i)

-- empty lists stand everywhere
pub empty_at : {X : Type 0} (count k : ℕ) → get_or (replicate {A = List X} count []) k [] ≡ []
empty_at {X} count k =
    ⊎_elim
    (λ below. get_or-replicate {A = List X} count k [] [] below)
    (λ past. get_or_past (replicate {A = List X} count []) k []
    (omega (arith, past, length-replicate {A = List X} count [])))
    (cases_lt k count)

pub filling_free : (room queues i : ℕ) → list_of i (filling room queues i) ≡ None
filling_free room queues i =
    position-none (holds i) (range_with_len 0 i ∷ replicate queues []) [] lacks
  where
    lacks : (k : ℕ) → k < length (range_with_len 0 i ∷ replicate {A = List ℕ} queues [])
        → holds i (get_or (range_with_len 0 i ∷ replicate queues []) k []) ≡ false
    lacks zero below =
        lacks-all i (range_with_len 0 i)
        (λ k d less e.
        let long = length-range_with_len 0 i in
        let at = get_or-range_with_len 0 i k d (omega (arith, less, long)) in
        omega (arith, e, at, less, long))
    lacks (suc k) below = ap (holds i) (empty_at queues k)

module _ {T : Type 0} (room queues : ℕ) (items : List (Option (Queued T))) where
  none_queued : (n : ℕ) → map (items_of items) (replicate n []) ≡ replicate n []
  none_queued zero = refl
  none_queued (suc n) = ap (λ qs. [] ∷ qs) (none_queued n)

  filled_at : (list : ℕ) → 0 < list → AreFilled items (list_at list (filling room queues room))
  filled_at zero some = absurd (omega (arith, some))
  filled_at (suc k) some =
      rw (empty_at {X = ℕ} queues k) (All-nil (λ n. is_some (item_at items n) ≡ true))

  module _ (s : Lists) (full : s ≡ filling room queues room) where
    -- the new queues are empty
    pub queues-new : queues_in items s.lists ≡ replicate queues []
    queues-new = ap (λ s. queues_in items s.lists) full ∙ none_queued queues

    pub sound-new : length items ≡ room → queues + 1 < 2 ^ 32 → AreDisjoint s
        → AreQueues items s 0 room
    sound-new long fits disjoint = record {
      nodes_are = rw full refl;
      items_are = long;
      disjoint = disjoint;
      has_free = rw full (omega arith);
      lists_below =
          let count = length-replicate {A = List ℕ} queues [] in
          rw full (omega (arith, fits, count));
      filled = rw full filled_at;
      queued =
          ap total queues-new
          ∙ sum_by-replicate {X = List (Queued T)} length queues [] ∙ omega arith;
      free = rw full (omega (arith, length-range_with_len 0 room));
    }
