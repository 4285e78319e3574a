-- The live threads stay in the order of their ids when one changes, goes or comes.
use Rattle.std.proofs.Common.{◌≡◌, ℕ, ◌+◌, ◌<◌, ◌≤◌, ◌==◌, not, if◌then◌else◌, List, [], ◌∷◌, ◌++◌, length, get_or, All, refl, arith}
use Rattle.std.proofs.lemmas.Bool.Decides.{nat_tests}
use Rattle.std.proofs.lemmas.List.{get_or-map, length_push}
use Rattle.std.proofs.lemmas.List.Elements.{All-filter, All-map, All-nil, All-push, All-weaker}
use Rattle.std.proofs.lemmas.List.Filters.{length-filter_both}
use Rattle.std.proofs.lemmas.List.Kept.{AllPairs-filter}
use Rattle.std.proofs.lemmas.List.Quantifiers.{all_pairs_push}
use Rattle.iop_base.specs.declared.limits.TheConstants.{LAST_ID}
use Rattle.iop_ready.specs.declared.slot.TheConstants.{MOST_THREADS}
use Rattle.iop_thread.specs.declared.thread.Thread.{Thread}
use Rattle.iop_thread.specs.declared.thread.TheConstants.{LOADER}
use Rattle.iop_thread.specs.Placing.{AreRising, AreInIdOrder}
use Rattle.iop_thread.proofs.LiveThreads.{changed, without_thread, HaveOwnIds, length-changed}

-- where ids rise no two threads have one
pub rising_distinct : (live : List Thread) → AreRising live → HaveOwnIds live
rising_distinct live rising = λ i j d less below.
    let above = rising i j d less below in λ same. omega (arith, above, same)

-- no thread is in order
pub none_in_order : AreInIdOrder [] LOADER
none_in_order = record {
  rising = λ i j d less below. absurd (omega (arith, less, below));
  first = All-nil (λ t. LOADER ≤ t.id);
  given = All-nil (λ t. t.id < LOADER);
  few = omega arith;
  next_first = omega arith;
  next_last = omega arith;
}

-- a change keeps the id of each
changed_id : (t u : Thread) → (if u.id == t.id then t else u).id ≡ u.id
changed_id t u = grind (arith, nat_tests)

module _ (live : List Thread) (next : ℕ) (h : AreInIdOrder live next) where
  -- no two threads have one id
  pub own_ids : HaveOwnIds live
  own_ids = rising_distinct live h.rising

  -- a thread changes
  pub changed_in_order : (t : Thread) → AreInIdOrder (changed t live) next
  changed_in_order t =
      let change = λ (u : Thread). if u.id == t.id then t else u in
      record {
        rising = λ i j d less below.
            let inside : j < length live = omega (arith, below, length-changed t live) in
            let before : i < length live = omega (arith, less, inside) in
            let above = h.rising i j d less inside in
            rw (get_or-map change live i d d before, get_or-map change live j d d inside)
            (omega (arith, above, changed_id t (get_or live i d), changed_id t (get_or live j d)));
        first = All-map (λ u. LOADER ≤ u.id) change live
            (All-weaker (λ u. LOADER ≤ u.id) (λ u. LOADER ≤ (change u).id)
            (λ u from. omega (arith, from, changed_id t u)) live h.first);
        given = All-map (λ u. u.id < next) change live
            (All-weaker (λ u. u.id < next) (λ u. (change u).id < next)
            (λ u small. omega (arith, small, changed_id t u)) live h.given);
        few = omega (arith, h.few, length-changed t live);
        next_first = h.next_first;
        next_last = h.next_last;
      }

  -- a thread goes
  pub without_in_order : (id : ℕ) → AreInIdOrder (without_thread id live) next
  without_in_order id =
      let stays = λ (u : Thread). not (u.id == id) in
      let all = length-filter_both stays (λ u. not (stays u)) (λ u. refl) live in
      record {
        rising = AllPairs-filter (λ t u. t.id < u.id) stays live h.rising;
        first = All-filter stays (λ u. LOADER ≤ u.id) live h.first;
        given = All-filter stays (λ u. u.id < next) live h.given;
        few = omega (arith, h.few, all);
        next_first = h.next_first;
        next_last = h.next_last;
      }

  -- a thread comes behind all others, with an id that was still to be given
  module _ (t : Thread) (ahead : next ≤ t.id) where
    pub all_before : All (λ u. u.id < t.id) live
    all_before =
        All-weaker (λ u. u.id < next) (λ u. u.id < t.id) (λ u less. omega (arith, less, ahead))
        live h.given

    pub added_in_order : t.id ≤ LAST_ID → length live < MOST_THREADS
        → AreInIdOrder (live ++ t ∷ []) (t.id + 1)
    added_in_order last room =
        let from : LOADER ≤ t.id = omega (arith, h.next_first, ahead) in
        record {
          rising = all_pairs_push (λ u v. u.id < v.id) live t h.rising all_before;
          first = All-push (λ u. LOADER ≤ u.id) live t h.first from;
          given = All-push (λ u. u.id < t.id + 1) live t
              (All-weaker (λ u. u.id < t.id) (λ u. u.id < t.id + 1) (λ u less. omega (arith, less))
              live all_before)
              (omega arith);
          few = omega (arith, length_push live t, room);
          next_first = omega (arith, from);
          next_last = omega (arith, last);
        }

  -- the next id is a later one
  pub later_in_order : (n : ℕ) → next ≤ n → n ≤ LAST_ID + 1 → AreInIdOrder live n
  later_in_order n le last = record {
    rising = h.rising;
    first = h.first;
    given = All-weaker (λ t. t.id < next) (λ t. t.id < n) (λ t less. omega (arith, less, le)) live
        h.given;
    few = h.few;
    next_first = omega (arith, h.next_first, le);
    next_last = last;
  }
