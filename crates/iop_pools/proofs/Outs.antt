-- What one range more or less among those of all pools is to the ranges of each.
use Rattle.std.proofs.Common.{◌≡◌, ◌≢◌, ℕ, suc, ◌+◌, ◌-◌, Bool, true, false, cond, not, Option, Some, None, is_some, option_map, unwrap_or, List, [], ◌∷◌, length, map, filter, take, drop, get_or, add-one, refl, sym, ap, ◌∙◌, arith, nat_lt, nat_le}
use Rattle.std.specs.Prelude.{◌==◌, ◌&&◌, if◌then◌else◌}
use Rattle.std.specs.List.{insert, remove, position, position_or_len}
use Rattle.std.proofs.lemmas.Bool.{eqb-true, eq-eqb, ne_eqb}
use Rattle.std.proofs.lemmas.Bool.Decides.{nat_tests}
use Rattle.std.proofs.lemmas.List.{length-drop, take_all}
use Rattle.iop_pools.specs.Ranges.{is_out, with_range, without}
use Rattle.iop_pools.specs.Standing.{ranges_of}
use Rattle.iop_pools.specs.Walks.{is_this, is_behind, with_out, without_out}
use Rattle.iop_pools.specs.declared.out.Out.{Out}
use Rattle.iop_pools.proofs.RangesOf.{ranges_of-own, ranges_of-other}

module _ {X : Type 0} (p : X → Bool) where
  -- the place of the first that passes, where one stands in front
  pub position-cons : (x : X) (xs : List X)
      → position p (x ∷ xs) ≡ cond (p x) (Some 0) (option_map suc (position p xs))
  position-cons x xs = by (p x) (nat_lt (position_or_len p xs) (length xs)) refl
    where
      by : (b c : Bool) → nat_lt (position_or_len p xs) (length xs) ≡ c
          → cond (nat_lt (cond (not b) (1 + position_or_len p xs) 0) (suc (length xs)))
          (Some (cond (not b) (1 + position_or_len p xs) 0)) None
          ≡ cond b (Some 0) (option_map suc (cond c (Some (position_or_len p xs)) None))
      by true c is = let less : nat_lt 0 (suc (length xs)) ≡ true = grind (arith, nat_tests) in
          rw less refl
      by false true is =
          let less : nat_lt (1 + position_or_len p xs) (suc (length xs)) ≡ true =
          grind (arith, nat_tests, is) in
          let same : 1 + position_or_len p xs ≡ suc (position_or_len p xs) = omega arith in
          rw less (ap Some same)
      by false false is =
          let less : nat_lt (1 + position_or_len p xs) (suc (length xs)) ≡ false =
          grind (arith, nat_tests, is) in
          rw less refl

-- an item that is put where the first that passes stands, or behind all
put_at : (o : Out) (xs : List Out)
    → insert xs (unwrap_or (position (is_behind o.pool o.range.start) xs) (length xs)) o
    ≡ with_out o xs
put_at o [] = refl
put_at o (x ∷ xs) =
    rw (position-cons (is_behind o.pool o.range.start) x xs)
    (by (is_behind o.pool o.range.start x) (position (is_behind o.pool o.range.start) xs)
    (put_at o xs))
  where
    by : (b : Bool) (place : Option ℕ)
        → insert xs (unwrap_or place (length xs)) o ≡ with_out o xs
        → insert (x ∷ xs) (unwrap_or (cond b (Some 0) (option_map suc place)) (suc (length xs))) o
        ≡ (if b then o ∷ x ∷ xs else x ∷ with_out o xs)
    by true place later = refl
    by false None later = ap (λ l. x ∷ l) later
    by false (Some k) later = ap (λ l. x ∷ l) later

pub put-is : (o : Out) (xs : List Out) (place : Option ℕ)
    → place ≡ position (is_behind o.pool o.range.start) xs
    → insert xs (unwrap_or place (length xs)) o ≡ with_out o xs
put-is o xs place is = rw is (put_at o xs)

-- the first that passes is taken out
taken_at : (id block : ℕ) (xs : List Out) (place : ℕ)
    → position (is_this id block) xs ≡ Some place → remove xs place ≡ without_out id block xs
taken_at id block [] place is = cc
taken_at id block (x ∷ xs) place is =
    by (is_this id block x) (position (is_this id block) xs) (taken_at id block xs)
    (sym (position-cons (is_this id block) x xs) ∙ is)
  where
    by : (b : Bool) (later : Option ℕ)
        → ((k : ℕ) → later ≡ Some k → remove xs k ≡ without_out id block xs)
        → cond b (Some 0) (option_map suc later) ≡ Some place
        → remove (x ∷ xs) place ≡ (if b then xs else x ∷ without_out id block xs)
    by true later rest e = let zero_is : 0 ≡ place = cc in rw (sym zero_is) refl
    by false None rest e = cc
    by false (Some k) rest e =
        let next : suc k ≡ place = cc in rw (sym next) (ap (λ l. x ∷ l) (rest k refl))

pub taken-is : (id block : ℕ) (xs : List Out) (place : ℕ)
    → Some place ≡ position (is_this id block) xs → remove xs place ≡ without_out id block xs
taken-is id block xs place is = taken_at id block xs place (sym is)

-- it is found exactly where a range of the pool starts there
pub found-is : (id block : ℕ) (xs : List Out)
    → is_some (position (is_this id block) xs) ≡ is_out block (ranges_of id xs)
found-is id block [] = refl
found-is id block (x ∷ xs) =
    ap is_some (position-cons (is_this id block) x xs)
    ∙ by (x.pool == id) (x.range.start == block) refl refl (position (is_this id block) xs)
    (found-is id block xs)
  where
    some_later : (later : Option ℕ) → is_some (option_map suc later) ≡ is_some later
    some_later None = refl
    some_later (Some k) = refl

    by : (own here : Bool) → (x.pool == id) ≡ own → (x.range.start == block) ≡ here
        → (later : Option ℕ) → is_some later ≡ is_out block (ranges_of id xs)
        → is_some (cond (own && here) (Some 0) (option_map suc later))
        ≡ is_out block (ranges_of id (x ∷ xs))
    by true true own here later same =
        sym (ap (is_out block) (ranges_of-own id x xs own) ∙ rw here refl)
    by true false own here later same =
        some_later later ∙ same
        ∙ sym (ap (is_out block) (ranges_of-own id x xs own) ∙ rw here refl)
    by false here own is later same =
        some_later later ∙ same ∙ sym (ap (is_out block) (ranges_of-other id x xs own))

-- the ranges of its pool have it, and those of all others stay
pub ranges_of-with : (o : Out) (xs : List Out)
    → ranges_of o.pool (with_out o xs) ≡ with_range o.range (ranges_of o.pool xs)
ranges_of-with o [] = ranges_of-own o.pool o [] (eq-eqb o.pool o.pool refl)
ranges_of-with o (x ∷ xs) =
    by (x.pool == o.pool) (nat_le o.range.start x.range.start) refl refl (ranges_of-with o xs)
  where
    by : (own less : Bool) → (x.pool == o.pool) ≡ own
        → nat_le o.range.start x.range.start ≡ less
        → ranges_of o.pool (with_out o xs) ≡ with_range o.range (ranges_of o.pool xs)
        → ranges_of o.pool (if own && less then o ∷ x ∷ xs else x ∷ with_out o xs)
        ≡ with_range o.range (ranges_of o.pool (x ∷ xs))
    by true true own less later =
        let no : nat_lt x.range.start o.range.start ≡ false = grind (arith, nat_tests, less) in
        ranges_of-own o.pool o (x ∷ xs) (eq-eqb o.pool o.pool refl)
        ∙ ap (λ l. o.range ∷ l) (ranges_of-own o.pool x xs own)
        ∙ sym (ap (with_range o.range) (ranges_of-own o.pool x xs own) ∙ rw no refl)
    by true false own less later =
        let yes : nat_lt x.range.start o.range.start ≡ true = grind (arith, nat_tests, less) in
        ranges_of-own o.pool x (with_out o xs) own ∙ ap (λ l. x.range ∷ l) later
        ∙ sym (ap (with_range o.range) (ranges_of-own o.pool x xs own) ∙ rw yes refl)
    by false less own is later =
        ranges_of-other o.pool x (with_out o xs) own ∙ later
        ∙ sym (ap (with_range o.range) (ranges_of-other o.pool x xs own))

pub ranges_of-with_other : (o : Out) (id : ℕ) → o.pool ≢ id → (xs : List Out)
    → ranges_of id (with_out o xs) ≡ ranges_of id xs
ranges_of-with_other o id apart [] = ranges_of-other id o [] (ne_eqb o.pool id apart)
ranges_of-with_other o id apart (x ∷ xs) =
    by (is_behind o.pool o.range.start x) (ranges_of-with_other o id apart xs)
  where
    own : (b : Bool) (l m : List Out) → ranges_of id l ≡ ranges_of id m
        → map (λ o. o.range) (cond b (x ∷ filter (λ o. o.pool == id) l)
        (filter (λ o. o.pool == id) l))
        ≡ map (λ o. o.range) (cond b (x ∷ filter (λ o. o.pool == id) m)
        (filter (λ o. o.pool == id) m))
    own true l m same = ap (λ l. x.range ∷ l) same
    own false l m same = same

    by : (b : Bool) → ranges_of id (with_out o xs) ≡ ranges_of id xs
        → ranges_of id (if b then o ∷ x ∷ xs else x ∷ with_out o xs) ≡ ranges_of id (x ∷ xs)
    by true later = ranges_of-other id o (x ∷ xs) (ne_eqb o.pool id apart)
    by false later = own (x.pool == id) (with_out o xs) xs later

pub ranges_of-without : (id block : ℕ) (xs : List Out)
    → ranges_of id (without_out id block xs) ≡ without block (ranges_of id xs)
ranges_of-without id block [] = refl
ranges_of-without id block (x ∷ xs) =
    by (x.pool == id) (x.range.start == block) refl refl (ranges_of-without id block xs)
  where
    by : (own here : Bool) → (x.pool == id) ≡ own → (x.range.start == block) ≡ here
        → ranges_of id (without_out id block xs) ≡ without block (ranges_of id xs)
        → ranges_of id (if own && here then xs else x ∷ without_out id block xs)
        ≡ without block (ranges_of id (x ∷ xs))
    by true true own here later =
        sym (ap (without block) (ranges_of-own id x xs own) ∙ rw here refl)
    by true false own here later =
        ranges_of-own id x (without_out id block xs) own ∙ ap (λ l. x.range ∷ l) later
        ∙ sym (ap (without block) (ranges_of-own id x xs own) ∙ rw here refl)
    by false here own is later =
        ranges_of-other id x (without_out id block xs) own ∙ later
        ∙ sym (ap (without block) (ranges_of-other id x xs own))

pub ranges_of-without_other : (id block other : ℕ) → id ≢ other → (xs : List Out)
    → ranges_of other (without_out id block xs) ≡ ranges_of other xs
ranges_of-without_other id block other apart [] = refl
ranges_of-without_other id block other apart (x ∷ xs) =
    by (x.pool == id) (x.range.start == block) refl (ranges_of-without_other id block other apart
    xs)
  where
    own : (b : Bool) (l m : List Out) → ranges_of other l ≡ ranges_of other m
        → map (λ o. o.range) (cond b (x ∷ filter (λ o. o.pool == other) l)
        (filter (λ o. o.pool == other) l))
        ≡ map (λ o. o.range) (cond b (x ∷ filter (λ o. o.pool == other) m)
        (filter (λ o. o.pool == other) m))
    own true l m same = ap (λ l. x.range ∷ l) same
    own false l m same = same

    by : (mine here : Bool) → (x.pool == id) ≡ mine
        → ranges_of other (without_out id block xs) ≡ ranges_of other xs
        → ranges_of other (if mine && here then xs else x ∷ without_out id block xs)
        ≡ ranges_of other (x ∷ xs)
    by true true is later =
        let same = eqb-true x.pool id is in
        sym (ranges_of-other other x xs (ne_eqb x.pool other (λ e. apart (sym same ∙ e))))
    by true false is later = own (x.pool == other) (without_out id block xs) xs later
    by false here is later = own (x.pool == other) (without_out id block xs) xs later

-- the first range of the pool, and those behind it
pub none_own : (id : ℕ) (outs : List Out) → None ≡ position (λ o. o.pool == id) outs
    → ranges_of id outs ≡ []
none_own id [] none = refl
none_own id (o ∷ outs) none =
    by (o.pool == id) (position (λ o. o.pool == id) outs) (none_own id outs)
    (none ∙ position-cons (λ o. o.pool == id) o outs)
  where
    by : (b : Bool) (place : Option ℕ) → (None ≡ place → ranges_of id outs ≡ [])
        → None ≡ cond b (Some 0) (option_map suc place)
        → map (λ o. o.range) (cond b (o ∷ filter (λ o. o.pool == id) outs)
        (filter (λ o. o.pool == id) outs)) ≡ []
    by true place later is = cc
    by false None later is = later refl
    by false (Some k) later is = cc

pub first_own : (id : ℕ) (outs : List Out) (place : ℕ)
    → Some place ≡ position (λ o. o.pool == id) outs → (d : Out)
    → ranges_of id outs ≡ (get_or outs place d).range ∷ ranges_of id (drop (suc place) outs)
first_own id [] place is d = cc
first_own id (o ∷ outs) place is d =
    by (o.pool == id) (position (λ o. o.pool == id) outs)
    (λ k at. first_own id outs k at d)
    (is ∙ position-cons (λ o. o.pool == id) o outs)
  where
    by : (b : Bool) (later : Option ℕ)
        → ((k : ℕ) → Some k ≡ later
        → ranges_of id outs ≡ (get_or outs k d).range ∷ ranges_of id (drop (suc k) outs))
        → Some place ≡ cond b (Some 0) (option_map suc later)
        → map (λ o. o.range) (cond b (o ∷ filter (λ o. o.pool == id) outs)
        (filter (λ o. o.pool == id) outs))
        ≡ (get_or (o ∷ outs) place d).range ∷ ranges_of id (drop (suc place) (o ∷ outs))
    by true later rest e = let zero_is : 0 ≡ place = cc in rw (sym zero_is) refl
    by false None rest e = cc
    by false (Some k) rest e = let next : suc k ≡ place = cc in rw (sym next) (rest k refl)

-- what a walk has left that came to a place
pub left-is : (outs : List Out) (place : ℕ)
    → take (length outs - (place + 1)) (drop (place + 1) outs) ≡ drop (suc place) outs
left-is outs place =
    take_all (length outs - (place + 1)) (drop (place + 1) outs)
    (omega (arith, length-drop (place + 1) outs))
    ∙ ap (λ k. drop k outs) (add-one place)
