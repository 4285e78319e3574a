-- Threads whose ids rise are found one after the other, in their order.
use Rattle.std.proofs.Common.{◌≡◌, ℕ, ◌<◌, ◌≤◌, nat_lt, Bool, true, false, Option, Some, None, is_some, option_and_then, List, [], ◌∷◌, ◌++◌, length, map, filter, find, All, refl, ap, ◌∙◌, subst, append_assoc, arith}
use Rattle.std.proofs.lemmas.Bool.Decides.{nat_tests}
use Rattle.std.proofs.lemmas.List.Elements.{All-nil, All-head, All-tail, All-push, All-weaker}
use Rattle.iop_base.proofs.Searching.{AllPairs-head, AllPairs-tail}
use Rattle.iop_thread.specs.declared.thread.Thread.{Thread}
use Rattle.iop_thread.specs.Placing.{AreRising}
use Rattle.iop_thread.specs.Reading.{least_above, next_above, and_on, all_above, ThreadsAreReadInOrder}
use Rattle.iop_thread.specs.ThreadTable.{thread_of}
use Rattle.iop_thread.proofs.LeastIds.{has-ids, has-above, reduce-least, reduce-there}

-- an id that is found is above another, where all are
above_found : (id n : ℕ) (live : List Thread) → All (λ t. id < t.id) live
    → is_some (thread_of live n) ≡ true → id < n
above_found id n [] all found = cc
above_found id n (t ∷ live) all found =
    let here = All-head (λ u. id < u.id) t live all in
    let rest = above_found id n live (All-tail (λ u. id < u.id) t live all) in
    grind (arith, nat_tests, here, rest, found)

module _ (t : Thread) (live : List Thread) (rising : AreRising (t ∷ live)) (id : ℕ) where
  -- the first thread is the next above an id if it is above it
  next_here : nat_lt id t.id ≡ true → next_above (t ∷ live) id ≡ Some t
  next_here above =
      let ids = filter (nat_lt id) (map (λ u. u.id) live) in
      let least : least_above (t ∷ live) id ≡ Some t.id =
      rw above (reduce-least (t.id ∷ ids) t.id (record {
        there = grind (arith, nat_tests);
        least = λ n is.
            let others = AllPairs-head (λ u v. u.id < v.id) t live rising in
            let later = above_found t.id n live others in
            let known = has-above id n (map (λ u. u.id) live) in
            let own = has-ids live n in
            grind (arith, nat_tests, later, known, own, is);
      })) in
      ap (option_and_then (thread_of (t ∷ live))) least ∙ grind (arith, nat_tests)

  -- else it is the next of those behind
  next_behind : nat_lt id t.id ≡ false → next_above (t ∷ live) id ≡ next_above live id
  next_behind not_above =
      rw not_above (by (least_above live id) refl)
    where
      by : (o : Option ℕ) → least_above live id ≡ o
          → option_and_then (thread_of (t ∷ live)) o ≡ option_and_then (thread_of live) o
      by None none = refl
      by (Some n) is =
          let there = reduce-there (filter (nat_lt id) (map (λ u. u.id) live)) n is in
          let known = has-above id n (map (λ u. u.id) live) in
          grind (arith, nat_tests, there, known, not_above)

  -- so it is the first one above it, if the next of those behind is
  next_by : next_above live id ≡ find (λ u. nat_lt id u.id) live → (b : Bool) → nat_lt id t.id ≡ b
      → next_above (t ∷ live) id ≡ find (λ u. nat_lt id u.id) (t ∷ live)
  next_by later true above = next_here above ∙ rw above refl
  next_by later false not_above = next_behind not_above ∙ later ∙ rw not_above refl

-- where ids rise the next thread above an id is the first one above it
pub next_rising : (live : List Thread) (id : ℕ) → AreRising live
    → next_above live id ≡ find (λ t. nat_lt id t.id) live
next_rising [] id rising = refl
next_rising (t ∷ live) id rising =
    next_by t live rising id
    (next_rising live id (AllPairs-tail (λ u v. u.id < v.id) t live rising))
    (nat_lt id t.id) refl

-- behind those that are not above an id the first one above it is found
find_behind : (id : ℕ) (done : List Thread) (t : Thread) (rest : List Thread)
    → All (λ u. u.id ≤ id) done → id < t.id
    → find (λ u. nat_lt id u.id) (done ++ t ∷ rest) ≡ Some t
find_behind id [] t rest older above = grind (arith, nat_tests, above)
find_behind id (u ∷ done) t rest older above =
    let here = All-head (λ v. v.id ≤ id) u done older in
    let later =
    find_behind id done t rest (All-tail (λ v. v.id ≤ id) u done older) above in
    grind (arith, nat_tests, here, later)

-- those behind are found, in their order
found_behind : (done rest : List Thread) (id : ℕ) → AreRising (done ++ rest)
    → All (λ u. u.id ≤ id) done → All (λ u. id < u.id) rest → AreRising rest
    → all_above (length rest) (done ++ rest) id ≡ rest
found_behind done [] id rising older newer behind = refl
found_behind done (t ∷ rest) id rising older newer behind =
    let live = done ++ t ∷ rest in
    let above : id < t.id = All-head (λ u. id < u.id) t rest newer in
    let next : next_above live id ≡ Some t =
    next_rising live id rising ∙ find_behind id done t rest older above in
    let grouped : (done ++ t ∷ []) ++ rest ≡ live = append_assoc done (t ∷ []) rest in
    let others : all_above (length rest) live t.id ≡ rest =
    subst (λ l. all_above (length rest) l t.id ≡ rest) grouped
    (found_behind (done ++ t ∷ []) rest t.id (rw grouped rising)
    (All-push (λ u. u.id ≤ t.id) done t
    (All-weaker (λ u. u.id ≤ id) (λ u. u.id ≤ t.id) (λ u le. omega (arith, le, above)) done older)
    (omega arith))
    (AllPairs-head (λ u v. u.id < v.id) t rest behind)
    (AllPairs-tail (λ u v. u.id < v.id) t rest behind)) in
    ap (and_on (all_above (length rest) live)) next ∙ ap (λ l. t ∷ l) others

pub read_in_order : ThreadsAreReadInOrder
read_in_order = record {
  next = next_rising;
  all = λ live rising first.
      found_behind [] live 0 rising (All-nil (λ u. u.id ≤ 0)) first rising;
}
