-- Where no thread waits twice, and one does not wait, fewer wait than there are threads.
use Rattle.std.proofs.Common.{◌≡◌, ◌≢◌, ℕ, ◌≤◌, Bool, true, false, ◌||◌, List, [], ◌∷◌, map, length, All, AllPairs, Contains, flat_map, nat_eq, refl, ap, ◌∙◌, sym, subst, arith}
use Rattle.std.specs.List.{IsDistinct, list_any}
use Rattle.std.proofs.lemmas.Cmp.{nat_eq_equiv}
use Rattle.std.proofs.lemmas.Bool.Decides.{nat_tests}
use Rattle.std.proofs.lemmas.List.{length-append, length-map}
use Rattle.std.proofs.lemmas.List.Elements.{All-cons, All-head, All-tail, Contains-get_or}
use Rattle.std.proofs.lemmas.List.Folds.{list_any_at}
use Rattle.std.proofs.lemmas.List.Kept.{AllPairs-cons}
use Rattle.std.proofs.lemmas.List.Sums.{sum_by-cons}
use Rattle.std.proofs.lemmas.Map.Keys.{IsDistinct-from_apart}
use Rattle.std.proofs.lemmas.Map.Made.{length-le_from_is_member}
use Rattle.iop_objects.specs.Objects.{Object, waiting}
use Rattle.iop_objects.specs.Laws.{threads_waiting, threads_of, WaitersLeaveRoom}

abbrev Differ : ℕ → ℕ → Type 0
Differ a b = a ≢ b

-- what stands in a list of members of another stands in that
members : (xs ys : List ℕ) → All (Contains ys) xs → (q : ℕ) → list_any (nat_eq q) xs ≡ true
    → list_any (nat_eq q) ys ≡ true
members [] ys all q is = cc
members (x ∷ xs) ys all q is =
    either (nat_eq q x) refl (All-head (Contains ys) x xs all)
    (members xs ys (All-tail (Contains ys) x xs all) q) is
  where
    either : (b : Bool) → nat_eq q x ≡ b → Contains ys x
        → (list_any (nat_eq q) xs ≡ true → list_any (nat_eq q) ys ≡ true)
        → (b || list_any (nat_eq q) xs) ≡ true → list_any (nat_eq q) ys ≡ true
    either true same (k, below, at) later found =
        list_any_at (nat_eq q) ys k x below (ap (nat_eq q) at ∙ same)
    either false apart there later found = later found

-- numbers that are all different, each of them in a list, are no more than it has
at_most : (xs ys : List ℕ) → AllPairs Differ xs → All (Contains ys) xs
    → length xs ≤ length ys
at_most xs ys differ all =
    let distinct : IsDistinct nat_eq xs =
    IsDistinct-from_apart nat_eq xs
    (λ i j d less below. let apart = differ i j d less below in grind (arith, nat_tests, apart)) in
    omega (arith, length-le_from_is_member nat_eq_equiv xs ys distinct (members xs ys all))

module _ {A W : Type 0} where
  length-threads_of : (live : List (Object A W))
      → length (flat_map threads_of live) ≡ waiting (record { live = live; next = 0 })
  length-threads_of [] = refl
  length-threads_of (o ∷ live) =
      omega (
        arith,
        length-append (threads_of o) (flat_map threads_of live),
        length-map o.waiters (λ x. x.item.thread),
        sum_by-cons (λ n. n) (length o.waiters) (map (λ p. length p.waiters) live),
        length-threads_of live,
      )

  pub leave_room : WaitersLeaveRoom A W
  leave_room s threads thread differ all own none =
      let ws = threads_waiting s in
      let away : All (Differ thread) ws =
      λ k d below e. none (subst (Contains ws) (sym e) (Contains-get_or ws k d below)) in
      let few = at_most (thread ∷ ws) threads (AllPairs-cons Differ thread ws away differ)
      (All-cons (Contains threads) thread ws own all) in
      omega (arith, length-threads_of s.live, few)
