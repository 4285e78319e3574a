-- All items stand in those of the queues that are not empty.
use Rattle.std.proofs.Common.{◌≡◌, ◌≢◌, ℕ, ◌+◌, ◌<◌, ◌≤◌, cond, List, [], ◌∷◌, length, set, sum_by, All, refl, ap, ◌∙◌, arith}
use Rattle.std.specs.Prelude.{◌==◌}
use Rattle.std.proofs.lemmas.Bool.Decides.{nat_tests}
use Rattle.std.proofs.lemmas.List.{length-set, get_or-set_same, get_or-set_other, get_or_default}
use Rattle.std.proofs.lemmas.List.Elements.{All-head, All-tail}
use Rattle.std.proofs.lemmas.List.Sums.{sum_by-cons, sum_by-le, sum_by-set}
use Rattle.iop_queues.specs.Numbers.{uses}
use Rattle.iop_queues.specs.Queues.{queue_at, total}
use Rattle.iop_queues.specs.declared.queued.Queued.{Queued}

module _ {T : Type 0} where
  abbrev count_at : List (List (Queued T)) → ℕ → ℕ
  count_at queues n = length (queue_at n queues)

  counts_of_others : (queues : List (List (Queued T))) (n : ℕ) (ns : List ℕ) → uses n ns ≡ 0
      → sum_by (count_at (set queues n [])) ns ≡ sum_by (count_at queues) ns
  counts_of_others queues n [] none = refl
  counts_of_others queues n (k ∷ ns) none =
      let uses_are = sum_by-cons (λ m. cond (m == n) 1 0) k ns in
      let apart : k ≢ n = grind (arith, nat_tests, uses_are, none) in
      omega (
        arith,
        sum_by-cons (count_at (set queues n [])) k ns,
        sum_by-cons (count_at queues) k ns,
        ap length (get_or-set_other queues n k [] [] apart),
        counts_of_others queues n ns (omega (arith, uses_are, none)),
      )

  -- where all queues but those of some numbers are empty, these have all items
  pub total-counted : (queues : List (List (Queued T))) (ns : List ℕ)
      → All (λ n. n < length queues) ns → ((n : ℕ) → uses n ns ≤ 1)
      → ((n : ℕ) → uses n ns ≡ 0 → queue_at n queues ≡ [])
      → total queues ≡ sum_by (count_at queues) ns
  total-counted queues [] below once empty =
      let none = sum_by-le length 0 queues
      (λ k d inside.
      omega (arith, ap length (get_or_default queues k d [] inside ∙ empty k refl))) in
      omega (arith, none)
  total-counted queues (n ∷ ns) below once empty =
      let inside = All-head (λ k. k < length queues) n ns below in
      let uses_are : (k : ℕ) → uses k (n ∷ ns) ≡ cond (n == k) 1 0 + uses k ns =
      λ k. sum_by-cons (λ m. cond (m == k) 1 0) n ns in
      let own : ◌≡◌ {A = ℕ} (cond (n == n) 1 0) 1 = grind (arith, nat_tests) in
      let others = total-counted (set queues n []) ns
      (rw (length-set queues n []) (All-tail (λ k. k < length queues) n ns below))
      (λ k. omega (arith, uses_are k, once k))
      (λ k none.
      let same = get_or-set_same queues n [] [] inside in
      let other = get_or-set_other queues n k [] [] in
      grind (arith, nat_tests, uses_are k, none, same, other, empty k)) in
      omega (
        arith,
        others,
        counts_of_others queues n ns (omega (arith, uses_are n, once n, own)),
        sum_by-set length queues n [] [] inside,
        sum_by-cons (count_at queues) n ns,
      )
