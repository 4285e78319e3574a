-- The stubs of a table, counted one after another.
use Rattle.std.proofs.Common.{◌≡◌, ℕ, ◌+◌, ◌-◌, ◌*◌, ◌/◌, ◌<◌, ◌≤◌, ◌^◌, Bool, true, false, Some, None, List, length, map, take, refl, ap, sym, ◌∙◌, arith, cond, nat_le, nat_lt, nat_eq, ◌&&◌, option_map}
use Rattle.std.specs.List.{prefix_len, slice_get}
use Rattle.std.proofs.lemmas.List.{length-map, get_or-map, get_or-take}
use Rattle.std.proofs.lemmas.List.Folds.{length-prefix_len}
use Rattle.std.proofs.lemmas.List.Sums.{prefix_len_passes, prefix_len-le-length}
use Rattle.std.proofs.lemmas.Option.{slice_get-get_or, cond_some}
use Rattle.std.proofs.lemmas.Bool.{eqb-true, ltb-true, leb-true, le-leb, lt-leb, and_parts, and_from, and_left, and_right}
use Rattle.iop_base.specs.Numbers.{word_at}
use Rattle.iop_base.specs.declared.words.TheConstants.{JUMP_BACK, STUB_INDEX}
use Rattle.irx_tables.specs.Places.{places}
use Rattle.irx_tables.specs.Imports.{has_index, is_stub, is_end, stub_at, stubs_from, ended_stubs}
use Rattle.irx_tables.specs.Results.{pair_at}
use Rattle.irx_tables.specs.declared.import_tables.Pair.TheVariants.{Stub, Zeroes, Other}
use Rattle.irx_tables.proofs.Rows.{length-places, get_or-places, prefix_len_places}

zeroes_are : (stub both : Bool) → cond stub Stub (cond both Zeroes Other) ≡ Zeroes
    → (stub ≡ false) × (both ≡ true)
zeroes_are true both e = absurd (cc)
zeroes_are false true e = (refl, refl)
zeroes_are false false e = absurd (cc)

other_is : (stub both : Bool) → cond stub Stub (cond both Zeroes Other) ≡ Other
    → (stub ≡ false) × (both ≡ false)
other_is true both e = absurd (cc)
other_is false true e = absurd (cc)
other_is false false e = (refl, refl)

module _ (memory : List ℕ) (stop p : ℕ) where
  -- how many pairs of words the range has
  abbrev pairs : ℕ
  pairs = (stop - p) / 8

  length-stubs : length (stubs_from memory stop p) ≡ prefix_len (is_stub memory) (places 8 p pairs)
  unfolding stubs_from
  length-stubs = length-map _ _ ∙ length-prefix_len (is_stub memory) (places 8 p pairs)

  stubs_are : (k : ℕ) → k ≤ pairs → ((j : ℕ) → j < k → is_stub memory (p + 8 * j) ≡ true)
      → (k < pairs → is_stub memory (p + 8 * k) ≡ false) → length (stubs_from memory stop p) ≡ k
  stubs_are k le passes stops =
      length-stubs ∙ prefix_len_places (is_stub memory) 8 p pairs k le passes stops

  -- whether the two words 0 stand behind k stubs
  abbrev is_ended : ℕ → Bool
  is_ended k = nat_le (p + 8 * k + 8) stop && is_end memory (p + 8 * k)

  ended_after : (k : ℕ) → length (stubs_from memory stop p) ≡ k → is_ended k ≡ true
      → option_map length (ended_stubs memory stop p) ≡ Some k
  unfolding ended_stubs
  ended_after k e t = rw (e, t) (ap Some e)

  not_ended_after : (k : ℕ) → length (stubs_from memory stop p) ≡ k → is_ended k ≡ false
      → option_map length (ended_stubs memory stop p) ≡ None
  unfolding ended_stubs
  not_ended_after k e t = rw (e, t) refl

  module _ (k : ℕ) (passes : (j : ℕ) → j < k → is_stub memory (p + 8 * j) ≡ true) where
    pub stubs_end : k < pairs → pair_at memory (p + 8 * k) ≡ Zeroes
        → Some k ≡ option_map length (ended_stubs memory stop p)
    stubs_end lt e =
        let tests = zeroes_are (is_stub memory (p + 8 * k)) (is_end memory (p + 8 * k)) e in
        let inside : nat_le (p + 8 * k + 8) stop ≡ true =
        le-leb (p + 8 * k + 8) stop (omega arith) in
        sym (ended_after k (stubs_are k (omega arith) passes (λ _. tests.0))
        (and_from _ _ inside tests.1))

    pub stubs_break : k < pairs → pair_at memory (p + 8 * k) ≡ Other
        → None ≡ option_map length (ended_stubs memory stop p)
    stubs_break lt e =
        let tests = other_is (is_stub memory (p + 8 * k)) (is_end memory (p + 8 * k)) e in
        sym (not_ended_after k (stubs_are k (omega arith) passes (λ _. tests.0))
        (and_right _ _ tests.1))

    pub stubs_run_out : k ≡ pairs → None ≡ option_map length (ended_stubs memory stop p)
    stubs_run_out e =
        let outside : nat_le (p + 8 * k + 8) stop ≡ false =
        lt-leb (p + 8 * k + 8) stop (omega arith) in
        sym (not_ended_after k (stubs_are k (omega arith) passes (λ lt. absurd (omega arith)))
        (and_left _ _ outside))

module _ (memory : List ℕ) (stop p i : ℕ) (lt : i < length (stubs_from memory stop p)) where
  pub passes_at : is_stub memory (p + 8 * i) ≡ true
  passes_at =
      let below : i < prefix_len (is_stub memory) (places 8 p (pairs memory stop p)) =
      omega (arith, length-stubs memory stop p) in
      let inside : i < pairs memory stop p =
      omega (
        arith,
        prefix_len-le-length (is_stub memory) (places 8 p (pairs memory stop p)),
        length-places 8 p (pairs memory stop p),
      ) in
      sym (ap (is_stub memory) (get_or-places 8 p (pairs memory stop p) i 0 inside))
      ∙ prefix_len_passes (is_stub memory) (places 8 p (pairs memory stop p)) i 0 below

  stub_is : slice_get (stubs_from memory stop p) i ≡ Some (stub_at memory (p + 8 * i))
  unfolding stubs_from
  stub_is =
      let row : List ℕ = places 8 p (pairs memory stop p) in
      let n : ℕ = prefix_len (is_stub memory) row in
      let below : i < n = omega (arith, length-stubs memory stop p) in
      let inside : i < pairs memory stop p =
      omega (
        arith,
        prefix_len-le-length (is_stub memory) row,
        length-places 8 p (pairs memory stop p),
      ) in
      slice_get-get_or (map (stub_at memory) (take n row)) i (0, 0) lt
      ∙ ap Some
      (get_or-map (stub_at memory) (take n row) i 0 (0, 0)
      (omega (arith, length-prefix_len (is_stub memory) row))
      ∙ ap (stub_at memory)
      (get_or-take n row i 0 below ∙ get_or-places 8 p (pairs memory stop p) i 0 inside))

pub stubs_given : (memory : List ℕ) (stop p : ℕ) (stubs : List (ℕ × ℕ))
    → ended_stubs memory stop p ≡ Some stubs
    → (stubs_from memory stop p ≡ stubs) × (p + 8 * length stubs + 8 ≤ stop)
unfolding ended_stubs
stubs_given memory stop p stubs e =
    let got = cond_some (is_ended memory stop p (length (stubs_from memory stop p)))
    (stubs_from memory stop p) stubs e in
    let tests = and_parts (nat_le (p + 8 * length (stubs_from memory stop p) + 8) stop)
    (is_end memory (p + 8 * length (stubs_from memory stop p))) got.0 in
    (got.1, omega (arith, leb-true _ _ tests.0, ap length got.1))

-- the words of a stub
pub record HasStubWords (memory : List ℕ) (place : ℕ) : Type 0 where
  pub jump : word_at memory place ≡ JUMP_BACK
  pub low : STUB_INDEX ≤ word_at memory (place + 4)
  pub high : word_at memory (place + 4) < STUB_INDEX + 2 ^ 16

pub stub_words : (memory : List ℕ) (place : ℕ) → is_stub memory place ≡ true
    → HasStubWords memory place
stub_words memory place test =
    let index : ℕ = word_at memory (place + 4) in
    let parts = and_parts (nat_eq (word_at memory place) JUMP_BACK) (has_index index) test in
    let bounds = and_parts (nat_le STUB_INDEX index) (nat_lt index (STUB_INDEX + 2 ^ 16)) parts.1 in
    record {
      jump = eqb-true _ _ parts.0;
      low = leb-true _ _ bounds.0;
      high = ltb-true _ _ bounds.1;
    }

-- what stands at a stub's place
pub record StandsAt (memory : List ℕ) (stubs : List (ℕ × ℕ)) (i place : ℕ) : Type 0 where
  pub words : HasStubWords memory place
  pub gives : slice_get stubs i ≡ Some (stub_at memory place)

pub stub_stands : (memory : List ℕ) (stop p i : ℕ) (stubs : List (ℕ × ℕ))
    → ended_stubs memory stop p ≡ Some stubs → i < length stubs
    → StandsAt memory stubs i (p + 8 * i)
stub_stands memory stop p i stubs e lt =
    let same = (stubs_given memory stop p stubs e).0 in
    let below : i < length (stubs_from memory stop p) = omega (arith, ap length same) in
    record {
      words = stub_words memory (p + 8 * i) (passes_at memory stop p i below);
      gives = ap (λ xs. slice_get xs i) (sym same) ∙ stub_is memory stop p i below;
    }
