-- How many threads are live: no more than before where no others are, and no fewer than any ids
-- that are theirs.
use Rattle.std.proofs.Common.{◌≡◌, ◌≢◌, ℕ, ◌≤◌, ◌<◌, true, false, is_some, Some, List, [], ◌∷◌, length, map, nat_eq, refl, ap, ◌∙◌, sym, arith}
use Rattle.std.specs.List.{AllByRecursion, IsDistinct, list_any}
use Rattle.std.proofs.lemmas.Bool.{eq-eqb}
use Rattle.std.proofs.lemmas.Bool.Decides.{nat_tests}
use Rattle.std.proofs.lemmas.Cmp.{nat_eq_equiv}
use Rattle.std.proofs.lemmas.List.{length-map}
use Rattle.std.proofs.lemmas.List.Elements.{All-contains}
use Rattle.std.proofs.lemmas.Map.Keys.{IsDistinct-cons, IsDistinct-from_apart}
use Rattle.std.proofs.lemmas.Map.Made.{length-le_from_is_member}
use Rattle.iop_base.specs.Numbers.{one_if}
use Rattle.iop_base.proofs.Searching.{AllPairs-head, AllPairs-tail}
use Rattle.iop_thread.specs.Placing.{IsPlaced, times}
use Rattle.iop_thread.specs.ThreadTable.{ThreadTable, thread_of}
use Rattle.iop_thread.specs.Waits.{is_live}
use Rattle.iop_thread.specs.declared.thread.Thread.{Thread}
use Rattle.iop_thread.proofs.IdOrder.{own_ids}
use Rattle.iop_thread.proofs.LiveThreads.{HaveOwnIds, thread_of_id, thread_of_is_live}
use Rattle.iop_thread.proofs.ReadyIds.{times_first}
use Rattle.iop_time.specs.declared.clock.TheConstants.{MOST_DELAYS}

-- the ids of some threads
abbrev ids_of : List Thread → List ℕ
ids_of live = map (λ t. t.id) live

-- an id finds a thread where it is among the ids
finds_member : (live : List Thread) (id : ℕ)
    → is_some (thread_of live id) ≡ list_any (nat_eq id) (ids_of live)
finds_member [] id = refl
finds_member (t ∷ live) id = grind (arith, nat_tests, finds_member live id)

-- an id that is not in a list differs from each in it
absent : (id : ℕ) (ids : List ℕ) → times id ids ≡ 0
    → AllByRecursion (λ other. nat_eq id other ≡ false) ids
absent id [] none = tt
absent id (other ∷ ids) none =
    (grind (arith, nat_tests, none), absent id ids (grind (arith, nat_tests, none)))

-- ids of which none is there twice are all different
different : (ids : List ℕ) → ((id : ℕ) → times id ids ≤ 1) → IsDistinct nat_eq ids
different [] once =
    IsDistinct-from_apart nat_eq [] (λ i j d less below. absurd (omega (arith, below)))
different (one ∷ ids) once =
    IsDistinct-cons nat_eq one ids
    (absent one ids
    (omega (arith, once one, times_first one one ids, ap one_if (eq-eqb one one refl))))
    (different ids (λ id. omega (arith, once id, times_first id one ids)))

-- one that is found in a list is there at least once
member_often : (q : ℕ) (ids : List ℕ) → list_any (nat_eq q) ids ≡ true → 0 < times q ids
member_often q [] is = cc
member_often q (x ∷ ids) is = grind (arith, nat_tests, is, member_often q ids)

-- ids that are those of live threads, each there once at most, are no more than these
pub few : (live : List Thread) (ids : List ℕ)
    → ((id : ℕ) → times id ids ≤ one_if (is_some (thread_of live id))) → length ids ≤ length live
few live ids own =
    let inside = length-le_from_is_member nat_eq_equiv ids (ids_of live)
    (different ids (λ id. grind (arith, own id)))
    (λ q is. let some = member_often q ids is in
    sym (finds_member live q) ∙ grind (arith, own q, some)) in
    omega (arith, inside, length-map live (λ t. t.id))

-- the id of each live thread is there once at most
once_live : (live : List Thread) → HaveOwnIds live → (id : ℕ)
    → times id (ids_of live) ≤ one_if (is_some (thread_of live id))
once_live [] own id = omega arith
once_live (t ∷ live) own id =
    let later = once_live live (AllPairs-tail (λ t u. t.id ≢ u.id) t live own) id in
    grind (arith, nat_tests, later, apart)
  where
    apart : (u : Thread) → thread_of live id ≡ Some u → t.id ≢ id
    apart u found same =
        All-contains (λ u. t.id ≢ u.id) live u (AllPairs-head (λ t u. t.id ≢ u.id) t live own)
        (thread_of_is_live live id u found) (same ∙ sym (thread_of_id live id u found))

-- where each live thread was live, no more are
pub no_more_live : (old left : ThreadTable) → IsPlaced left
    → ((id : ℕ) → is_live left id ≡ true → is_live old id ≡ true)
    → length left.live ≤ length old.live
no_more_live old left placed was =
    let own = own_ids left.live left.next placed.ids in
    let fewer = few old.live (ids_of left.live)
    (λ id. grind (arith, once_live left.live own id, was id)) in
    omega (arith, fewer, length-map left.live (λ t. t.id))

-- so there is still room for a delay of each where the same are live
pub live_room : (old left : ThreadTable) → IsPlaced left
    → ((id : ℕ) → is_live left id ≡ is_live old id) → length old.live ≤ MOST_DELAYS
    → length left.live ≤ MOST_DELAYS
live_room old left placed live room =
    let fewer = no_more_live old left placed (λ id is. sym (live id) ∙ is) in
    omega (arith, fewer, room)
