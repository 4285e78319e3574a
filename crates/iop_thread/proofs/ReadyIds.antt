-- How often an id is in a list, when one comes or goes.
use Rattle.std.proofs.Common.{◌≡◌, ℕ, zero, suc, ◌+◌, ◌<◌, ◌≤◌, ◌==◌, Bool, true, false, if◌then◌else◌, Option, Some, None, List, [], ◌∷◌, ◌++◌, find, Contains, refl, arith}
use Rattle.std.proofs.lemmas.Bool.{eqb-true}
use Rattle.std.proofs.lemmas.Bool.Decides.{nat_tests}
use Rattle.iop_base.specs.Choosing.{better, best}
use Rattle.iop_base.specs.Numbers.{one_if}
use Rattle.iop_thread.specs.ThreadTable.{without}
use Rattle.iop_thread.specs.Placing.{times}

-- one id more in front
pub times_first : (id one : ℕ) (ids : List ℕ) →
    times id (one ∷ ids) ≡ one_if (one == id) + times id ids
times_first id one ids = grind (arith, nat_tests)

-- one id more behind
pub times_last : (id one : ℕ) (ids : List ℕ) →
    times id (ids ++ one ∷ []) ≡ one_if (one == id) + times id ids
times_last id one [] = grind (arith, nat_tests)
times_last id one (other ∷ ids) = grind (arith, nat_tests, times_last id one ids)

-- an id that is taken out is there no more, the others are there as often as before
pub times_without : (id one : ℕ) (ids : List ℕ) →
    times id (without one ids) ≡ (if id == one then 0 else times id ids)
times_without id one [] = grind (arith, nat_tests)
times_without id one (other ∷ ids) = grind (arith, nat_tests, times_without id one ids)

-- an id that is there no times is not taken out
without_absent : (id : ℕ) (ids : List ℕ) → times id ids ≡ 0 → without id ids ≡ ids
without_absent id [] none = grind (arith, nat_tests)
without_absent id (one ∷ ids) none = grind (arith, nat_tests, none, without_absent id ids)

-- an id that stands between others is there
times_between : (id : ℕ) (before after : List ℕ) → 0 < times id (before ++ id ∷ after)
times_between id [] after = grind (arith, nat_tests)
times_between id (one ∷ before) after = grind (arith, nat_tests, times_between id before after)

-- where an id is there once, the others are left without it
pub without_once : (id : ℕ) (before after : List ℕ) → times id (before ++ id ∷ after) ≤ 1
    → without id (before ++ id ∷ after) ≡ before ++ after
without_once id [] after once = grind (arith, nat_tests, once, without_absent id after)
without_once id (one ∷ before) after once =
    grind (arith, nat_tests, once, without_once id before after, times_between id before after)

-- an id that is there no times is not in the list
pub not_contained : (id : ℕ) (ids : List ℕ) → times id ids ≡ 0 → Contains ids id → ⊥
not_contained id [] none (k, below, here) = omega (arith, below)
not_contained id (one ∷ ids) none (zero, below, here) =
    let same : one ≡ id = here in grind (arith, nat_tests, none, same)
not_contained id (one ∷ ids) none (suc k, below, here) =
    let inside : Contains ids id = (k, omega (arith, below), here) in
    let rest : times id ids ≡ 0 = grind (arith, nat_tests, none) in
    not_contained id ids rest inside

-- and one that is there some times is
contained_by : (id one : ℕ) (ids : List ℕ) (b : Bool) → (one == id) ≡ b
    → 0 < times id (one ∷ ids) → (0 < times id ids → Contains ids id) → Contains (one ∷ ids) id
contained_by id one ids true is some rest = (0, omega arith, eqb-true one id is)
contained_by id one ids false is some rest =
    let more = rest (grind (arith, nat_tests, is, some)) in
    (suc more.0, omega (arith, more.1), more.2)

pub contained : (id : ℕ) (ids : List ℕ) → 0 < times id ids → Contains ids id
contained id [] some = absurd (omega (arith, some))
contained id (one ∷ ids) some =
    contained_by id one ids (one == id) refl some (contained id ids)

-- the id that is found first is there
pub times_found : (p : ℕ → Bool) (ids : List ℕ) (id : ℕ) → find p ids ≡ Some id → 0 < times id ids
times_found p [] id found = cc
times_found p (one ∷ ids) id found = grind (arith, nat_tests, found, times_found p ids id)

module _ (number : ℕ → ℕ) where
  -- the better one of two that are there
  better_by : (one : ℕ) (ids : List ℕ) (o : Option ℕ) (id : ℕ) →
      Some (better number one o) ≡ Some id → (o ≡ Some id → 0 < times id ids) →
      0 < times id (one ∷ ids)
  better_by one ids None id chosen later = grind (arith, nat_tests, chosen)
  better_by one ids (Some other) id chosen later = grind (arith, nat_tests, chosen, later)

  -- the best id is there
  pub times_best : (ids : List ℕ) (id : ℕ) → best number ids ≡ Some id → 0 < times id ids
  times_best [] id chosen = cc
  times_best (one ∷ ids) id chosen =
      better_by one ids (best number ids) id chosen (times_best ids id)
