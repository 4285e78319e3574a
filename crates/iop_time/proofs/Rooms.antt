-- Where each delay is of another thread of some, fewer delays stand than there are threads.
use Rattle.std.proofs.Common.{◌≡◌, ◌≢◌, ℕ, ◌<◌, ◌≤◌, ◌==◌, Bool, true, false, ◌||◌, cond, not, List, [], ◌∷◌, map, filter, length, get_or, suc, zero, ap, ◌∙◌, sym, arith}
use Rattle.std.specs.List.{list_any, All, AllPairs, Contains}
use Rattle.std.proofs.lemmas.Bool.{eqb-true, eqb-false}
use Rattle.std.proofs.lemmas.Bool.Decides.{nat_tests}
use Rattle.std.proofs.lemmas.List.{get_or-map, length-map}
use Rattle.std.proofs.lemmas.List.Elements.{All-cons, All-map}
use Rattle.std.proofs.lemmas.List.Folds.{list_any_at}
use Rattle.std.proofs.lemmas.List.Kept.{AllPairs-cons}
use Rattle.std.proofs.lemmas.List.Sums.{length-filter, count_by-le-length}
use Rattle.std.proofs.lemmas.Map.Views.{any-filter_same}
use Rattle.iop_time.specs.Timers.{Timers, AreTimers, is_delay_of}
use Rattle.iop_time.specs.declared.delay.Delay.{Delay}
use Rattle.iop_time.proofs.Keeping.{fails_at}

-- whether a number stands in a list
abbrev has : List ℕ → ℕ → Bool
has ys x = list_any (λ y. y == x) ys

abbrev without : List ℕ → ℕ → List ℕ
without ys x = filter (λ y. not (y == x)) ys

shorter_by : (x y : ℕ) (ys : List ℕ) (b : Bool)
    → (has ys x ≡ true → length (without ys x) < length ys)
    → (b || has ys x) ≡ true
    → length (cond (not b) (y ∷ without ys x) (without ys x)) < suc (length ys)
shorter_by x y ys true rest found =
    omega (
      arith,
      length-filter (λ z. not (z == x)) ys,
      count_by-le-length (λ z. not (z == x)) ys,
    )
shorter_by x y ys false rest found = let less = rest found in omega arith

shorter : (x : ℕ) (ys : List ℕ) → has ys x ≡ true → length (without ys x) < length ys
shorter x [] found = cc
shorter x (y ∷ ys) found = shorter_by x y ys (y == x) (shorter x ys) found

still_there : (x z : ℕ) (ys : List ℕ) → x ≢ z → has ys z ≡ true → has (without ys x) z ≡ true
still_there x z ys differ found =
    any-filter_same (λ y. y == z) (λ y. not (y == x)) true
    (λ y is. let e = eqb-true y z is in grind (arith, nat_tests)) ys
    ∙ found

-- numbers that are all different, each of them in a list, are no more than it has
at_most : (xs ys : List ℕ) → AllPairs (λ x z. x ≢ z) xs → All (λ x. has ys x ≡ true) xs
    → length xs ≤ length ys
at_most [] ys differ all = omega arith
at_most (x ∷ xs) ys differ all =
    let rest = at_most xs (without ys x)
    (λ i j d before below. differ (suc i) (suc j) d (omega arith) (omega arith))
    (λ i d below. still_there x (get_or xs i d) ys (differ zero (suc i) d (omega arith)
    (omega arith)) (all (suc i) d (omega arith))) in
    let less = shorter x ys (all zero x (omega arith)) in
    omega arith

there : (ys : List ℕ) (x : ℕ) → Contains ys x → has ys x ≡ true
there ys x (k, below, at) =
    list_any_at (λ y. y == x) ys k x below (ap (λ y. y == x) at ∙ grind (arith, nat_tests))

abbrev thread_of : Delay → ℕ
thread_of delay = delay.thread

abbrev no_delay : Delay
no_delay = record { number = 0; moment = 0; thread = 0 }

module _ (timers : Timers) (h : AreTimers timers) (thread : ℕ)
    (none : list_any (is_delay_of thread) timers.delays ≡ false) where
  abbrev waiting : List ℕ
  waiting = map thread_of timers.delays

  others_wait : All (λ z. thread ≢ z) waiting
  others_wait =
      All-map (λ z. thread ≢ z) thread_of timers.delays
      (λ k d below e.
      eqb-false _ thread (fails_at (is_delay_of thread) timers.delays none k d below) (sym e))

  no_two_wait : AllPairs (λ x z. x ≢ z) waiting
  no_two_wait i j d before below =
      let short : j < length timers.delays = omega (arith, length-map timers.delays thread_of) in
      rw (
        get_or-map thread_of timers.delays i no_delay d (omega arith),
        get_or-map thread_of timers.delays j no_delay d short,
      )
      (λ e. eqb-false _ _ (h.delays_differ i j no_delay before short).1 e)

  pub room : (threads : List ℕ) → All (λ delay. Contains threads delay.thread) timers.delays
      → Contains threads thread → length timers.delays < length threads
  room threads all own =
      let few = at_most (thread ∷ waiting) threads
      (AllPairs-cons (λ x z. x ≢ z) thread waiting others_wait no_two_wait)
      (All-cons (λ x. has threads x ≡ true) thread waiting (there threads thread own)
      (All-map (λ x. has threads x ≡ true) thread_of timers.delays
      (λ k d below. there threads _ (all k d below)))) in
      omega (arith, length-map timers.delays thread_of, few)
