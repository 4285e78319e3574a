-- The places in which threads stand: what is read after a write, how many are taken, what is found.
use Rattle.std.proofs.Common.{◌≡◌, ◌≢◌, ℕ, zero, suc, ◌+◌, ◌<◌, ◌≤◌, ◌==◌, Bool, true, false, if◌then◌else◌, Option, Some, None, is_some, is_none, List, [], ◌∷◌, length, get_or, set, filter, replicate, nat_lt, All, refl, ap, sym, ◌∙◌, arith}
use Rattle.std.specs.List.{position, position_or_len}
use Rattle.std.proofs.lemmas.Bool.Decides.{nat_tests}
use Rattle.std.proofs.lemmas.List.Quantifiers.{position-Some}
use Rattle.std.proofs.lemmas.List.Elements.{All-tail}
use Rattle.std.proofs.lemmas.List.{length-set, length-replicate}
use Rattle.std.proofs.lemmas.List.Sums.{fails_before_first}
use Rattle.iop_base.specs.Numbers.{one_if}
use Rattle.iop_ready.specs.declared.slot.TheConstants.{MOST_THREADS}
use Rattle.iop_thread.specs.declared.thread.Thread.{Thread}
use Rattle.iop_thread.specs.ThreadPlaces.{has_id, thread_at, place_of, HasAlone}

-- the thread in a place after a write
pub thread_at-set : (places : List (Option Thread)) (i j : ℕ) (o : Option Thread) →
    i < length places → thread_at (set places i o) j ≡ (if j == i then o else thread_at places j)
thread_at-set [] i j o below = absurd (omega (arith, below))
thread_at-set (p ∷ places) zero zero o below = grind (arith, nat_tests)
thread_at-set (p ∷ places) zero (suc j) o below = grind (arith, nat_tests)
thread_at-set (p ∷ places) (suc i) zero o below = grind (arith, nat_tests)
thread_at-set (p ∷ places) (suc i) (suc j) o below =
    let next = thread_at-set places i j o (omega (arith, below)) in
    grind (arith, nat_tests, next)

-- a thread stands in no place beyond the last
pub thread_at-within : (places : List (Option Thread)) (i : ℕ) (t : Thread) →
    thread_at places i ≡ Some t → i < length places
thread_at-within [] i t found = cc
thread_at-within (p ∷ places) zero t found = omega arith
thread_at-within (p ∷ places) (suc i) t found =
    omega (arith, thread_at-within places i t found)

-- how many places are taken
abbrev pub taken : List (Option Thread) → ℕ
taken places = length (filter is_some places)

-- how many are taken after a write
pub taken-set : (places : List (Option Thread)) (i : ℕ) (o : Option Thread) → i < length places →
    taken (set places i o) + one_if (is_some (thread_at places i))
    ≡ taken places + one_if (is_some o)
taken-set [] i o below = absurd (omega (arith, below))
taken-set (None ∷ places) zero None below = refl
taken-set (None ∷ places) zero (Some t) below = omega arith
taken-set (Some p ∷ places) zero None below = omega arith
taken-set (Some p ∷ places) zero (Some t) below = refl
taken-set (None ∷ places) (suc i) o below = taken-set places i o (omega (arith, below))
taken-set (Some p ∷ places) (suc i) o below =
    omega (arith, taken-set places i o (omega (arith, below)))

-- the thread in a place is what is read there
thread_at-get_or : (places : List (Option Thread)) (i : ℕ) → thread_at places i ≡ get_or places i None
thread_at-get_or [] i = refl
thread_at-get_or (p ∷ places) zero = refl
thread_at-get_or (p ∷ places) (suc i) = thread_at-get_or places i

-- a place that passes the test has a thread of the id
has_id-Some : (id : ℕ) (o : Option Thread) → has_id id o ≡ true →
    (t : Thread) × (o ≡ Some t) × (t.id ≡ id)
has_id-Some id None same = cc
has_id-Some id (Some t) same = (t, refl, grind (arith, nat_tests, same))

-- and so has the place that is found
pub place_of-Some : (places : List (Option Thread)) (id i : ℕ) → place_of places id ≡ Some i →
    (t : Thread) × (thread_at places i ≡ Some t) × (t.id ≡ id)
place_of-Some places id i found =
    let at = position-Some (has_id id) places i None found in
    let here = has_id-Some id (get_or places i None) at.1 in
    (here.0, thread_at-get_or places i ∙ here.1, here.2)

module _ {X : Type 0} (p : X → Bool) (xs : List X) where
  -- the test of the length tells that none was found
  none_by : (n m : ℕ) → (if nat_lt n m then Some n else None) ≡ None → m ≤ n
  none_by n m is = grind (arith, nat_tests)

  -- where no place is found none passes
  pub position-None : position p xs ≡ None → (k : ℕ) (d : X) → k < length xs →
      p (get_or xs k d) ≡ false
  position-None none k d below =
      let all = none_by (position_or_len p xs) (length xs) none in
      fails_before_first p xs k d (omega (arith, below, all))

-- no place is found where no thread has the id
pub place_of-None : (places : List (Option Thread)) (id i : ℕ) (t : Thread) →
    place_of places id ≡ None → thread_at places i ≡ Some t → t.id ≢ id
place_of-None places id i t none is =
    let fails = position-None (has_id id) places none i None (thread_at-within places i t is) in
    let here : get_or places i None ≡ Some t = sym (thread_at-get_or places i) ∙ is in
    let same : has_id id (Some t) ≡ false = ap (has_id id) (sym here) ∙ fails in
    grind (arith, nat_tests, same)

-- the free place that is found is inside, and no thread stands there
pub free-Some : (places : List (Option Thread)) (i : ℕ) → position is_none places ≡ Some i →
    (i < length places) × (thread_at places i ≡ None)
free-Some places i found =
    let at = position-Some is_none places i None found in
    (at.0, thread_at-get_or places i ∙ is_none-true (get_or places i None) at.1)
  where
    is_none-true : (o : Option Thread) → is_none o ≡ true → o ≡ None
    is_none-true None is = refl
    is_none-true (Some t) is = cc

-- no more than all are taken
pub taken-le : (places : List (Option Thread)) → taken places ≤ length places
taken-le [] = omega arith
taken-le (None ∷ places) = omega (arith, taken-le places)
taken-le (Some t ∷ places) = omega (arith, taken-le places)

-- fewer than all are taken where one is free
pub taken-lt : (places : List (Option Thread)) (i : ℕ) → i < length places →
    thread_at places i ≡ None → taken places < length places
taken-lt [] i below free = absurd (omega (arith, below))
taken-lt (None ∷ places) zero below free = omega (arith, taken-le places)
taken-lt (Some t ∷ places) zero below free = cc
taken-lt (None ∷ places) (suc i) below free =
    omega (arith, taken-lt places i (omega (arith, below)) free)
taken-lt (Some t ∷ places) (suc i) below free =
    omega (arith, taken-lt places i (omega (arith, below)) free)

-- all are taken where none is empty
taken-full : (places : List (Option Thread)) → All (λ o. is_none o ≡ false) places →
    taken places ≡ length places
taken-full [] full = refl
taken-full (None ∷ places) full = absurd (grind (arith, full 0 None (omega arith)))
taken-full (Some t ∷ places) full =
    let rest = taken-full places (All-tail (λ o. is_none o ≡ false) (Some t) places full) in
    omega (arith, rest)

-- all are taken where none is found free
pub free-None : (places : List (Option Thread)) → position is_none places ≡ None →
    taken places ≡ length places
free-None places none = taken-full places (position-None is_none places none)

-- where no thread stands in any place
at-empty : (n i : ℕ) → thread_at (replicate n None) i ≡ None
at-empty zero i = refl
at-empty (suc n) zero = refl
at-empty (suc n) (suc i) = at-empty n i

-- and none is taken
taken-empty : (n : ℕ) → taken (replicate n None) ≡ 0
taken-empty zero = refl
taken-empty (suc n) = taken-empty n

-- where one is put into the first of such places, or none
pub has_alone : (n : ℕ) (first : Option Thread) (places : List (Option Thread)) →
    places ≡ set (replicate n None) 0 first → n ≡ MOST_THREADS → HasAlone first places
has_alone n first places is most =
    let size : length (replicate {A = Option Thread} n None) ≡ n = length-replicate n None in
    let inside : 0 < length (replicate {A = Option Thread} n None) = omega (arith, size, most) in
    record {
      at = λ slot. ap (λ l. thread_at l slot) is
          ∙ thread_at-set (replicate n None) 0 slot first inside
          ∙ ap (λ o. if slot == 0 then first else o) (at-empty n slot);
      count = let more = taken-set (replicate n None) 0 first inside in
          let empty = ap (λ o. one_if (is_some o)) (at-empty n 0) in
          omega (arith, ap taken is, more, empty, taken-empty n);
      size = ap length is ∙ length-set (replicate n None) 0 first ∙ size ∙ most;
    }

-- where the one in the first place is gone
pub has_none : (t : Thread) (places : List (Option Thread)) → HasAlone (Some t) places →
    HasAlone None (set places 0 None)
has_none t places h =
    let inside : 0 < length places = omega (arith, h.size) in
    record {
      at = λ slot. let now = thread_at-set places 0 slot None inside in
          let was = h.at slot in
          grind (arith, nat_tests, now, was);
      count = let left = taken-set places 0 None inside in
          let one = ap (λ o. one_if (is_some o)) (h.at 0) in
          omega (arith, left, h.count, one);
      size = length-set places 0 None ∙ h.size;
    }
