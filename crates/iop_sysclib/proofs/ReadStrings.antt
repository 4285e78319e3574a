-- Strings that are read where they were written.
use Rattle.std.proofs.Common.{◌≡◌, ℕ, suc, ◌+◌, ◌-◌, ◌<◌, Bool, true, false, not, cond, Option, Some, None, List, [], ◌∷◌, ◌++◌, length, take, drop, replicate, append_assoc, take_all, refl, ap, sym, ◌∙◌, arith, eqb-true}
use Rattle.std.specs.Prelude.{◌==◌}
use Rattle.std.specs.List.{position_or_len}
use Rattle.std.proofs.Math.Seq.{take-append_seam}
use Rattle.std.proofs.lemmas.Bool.{and_parts}
use Rattle.std.proofs.lemmas.List.{length-append, length-take, length-take-le, length-drop, length-replicate, take-append-drop}
use Rattle.iop_base.specs.Places.{range_at}
use Rattle.iop_base.specs.Strings.{before_zero}
use Rattle.iop_printf.specs.Texts.{string_at}
use Rattle.iop_sysclib.specs.Outcomes.{bytes_at}
use Rattle.iop_sysclib.specs.StringCalls.{filled}
use Rattle.iop_sysclib.proofs.RangePlaces.{has_place}
use Rattle.iop_sysclib.proofs.StringOrder.{has_no_zero, before_zero_is}
use Rattle.iop_sysclib.proofs.StringRanges.{filled_is}

ends_by : (zero_first : Bool) (k n : ℕ) → not zero_first ≡ true → k ≡ n
    → cond (not zero_first) (1 + k) 0 ≡ suc n
ends_by true k n some is = cc
ends_by false k n some is = omega (arith, is)

-- the first zero stands behind a text that has none
first_zero_behind : (text rest : List ℕ) → has_no_zero text ≡ true
    → position_or_len (λ b. b == 0) (text ++ 0 ∷ rest) ≡ length text
first_zero_behind [] rest none = refl
first_zero_behind (x ∷ text) rest none =
    let parts = and_parts (not (x == 0)) (has_no_zero text) none in
    ends_by (x == 0) (position_or_len (λ b. b == 0) (text ++ 0 ∷ rest)) (length text) parts.0
    (first_zero_behind text rest parts.1)

pub before_zero-text : (text rest : List ℕ) → has_no_zero text ≡ true
    → before_zero (text ++ 0 ∷ rest) ≡ text
before_zero-text text rest none =
    before_zero_is (text ++ 0 ∷ rest)
    ∙ ap (λ k. take k (text ++ 0 ∷ rest)) (first_zero_behind text rest none)
    ∙ take-append_seam text (0 ∷ rest)

-- what stands from a place on where a text and a zero stand in front
pub string_from : (xs : List ℕ) (n : ℕ) (text rest : List ℕ) → has_no_zero text ≡ true
    → take n xs ≡ text ++ 0 ∷ rest → before_zero xs ≡ text
string_from xs n text rest none is =
    ap before_zero
    (sym (take-append-drop n xs) ∙ ap (λ front. front ++ drop n xs) is
    ∙ append_assoc text (0 ∷ rest) (drop n xs))
    ∙ before_zero-text text (rest ++ drop n xs) none

no_empty : (text rest : List ℕ) → Some [] ≡ Some (text ++ 0 ∷ rest) → ⊥
no_empty text rest is =
    let same : [] ≡ text ++ 0 ∷ rest = cc in
    omega (arith, ap (λ (t : List ℕ). length t) same, length-append text (0 ∷ rest))

module _ (ram : List ℕ) (at n : ℕ) where
  held_at : (p : ℕ) → (n == 0) ≡ false → range_at (length ram) at n ≡ Some p
      → bytes_at ram at n ≡ Some (take n (drop p ram))
  held_at p some is = rw (some, is) refl

  held_nowhere : (n == 0) ≡ false → range_at (length ram) at n ≡ None → bytes_at ram at n ≡ None
  held_nowhere some is = rw (some, is) refl

  held_none : (n == 0) ≡ true → bytes_at ram at n ≡ Some []
  held_none none = rw none refl

  length_by : (empty : Bool) (place : Option ℕ) (bytes : List ℕ) → (n == 0) ≡ empty
      → range_at (length ram) at n ≡ place → bytes_at ram at n ≡ Some bytes → length bytes ≡ n
  length_by true place bytes none is held =
      let same : [] ≡ bytes = cc (held_none none, held) in
      ap (λ (t : List ℕ). length t) (sym same) ∙ sym (eqb-true n 0 none)
  length_by false None bytes some is held = absurd (cc (held_nowhere some is, held))
  length_by false (Some p) bytes some is held =
      let same : take n (drop p ram) ≡ bytes = cc (held_at p some is, held) in
      let inside = (has_place (length ram) at n p is).inside in
      ap (λ (t : List ℕ). length t) (sym same)
      ∙ length-take-le n (drop p ram) (omega (arith, inside, length-drop p ram))

  -- a range has as many bytes as are asked for
  pub bytes_at-length : (bytes : List ℕ) → bytes_at ram at n ≡ Some bytes → length bytes ≡ n
  bytes_at-length bytes held = length_by (n == 0) (range_at (length ram) at n) bytes refl refl held

  module _ (text rest : List ℕ) (none : has_no_zero text ≡ true)
      (held : bytes_at ram at n ≡ Some (text ++ 0 ∷ rest)) where
    front_by : (empty : Bool) (place : Option ℕ) → (n == 0) ≡ empty
        → range_at (length ram) at n ≡ place → string_at ram at ≡ text
    unfolding string_at
    front_by true place empty is = absurd (no_empty text rest (sym (held_none empty) ∙ held))
    front_by false None some is = absurd (cc (held_nowhere some is, held))
    front_by false (Some p) some is =
        let same : take n (drop p ram) ≡ text ++ 0 ∷ rest = cc (held_at p some is, held) in
        let place = (has_place (length ram) at n p is).place in
        rw place (string_from (drop p ram) n text rest none same)

    -- a range that begins with a text and a zero begins with this string
    pub string_front : string_at ram at ≡ text
    string_front = front_by (n == 0) (range_at (length ram) at n) refl refl

module _ (len : ℕ) (text : List ℕ) where
  pub filled-length : length (filled len text) ≡ len
  filled-length =
      length-take-le len (text ++ replicate len 0)
      (omega (arith, length-append text (replicate len 0), length-replicate {A = ℕ} len 0))

  -- the zeros are as many as a string is too short
  pub filled_zeros : filled len text ≡ take len text ++ replicate (len - length text) 0
  filled_zeros =
      let same : len - length (take len text) ≡ len - length text =
      omega (arith, length-take len text) in
      filled_is len text ∙ ap (λ k. take len text ++ replicate k 0) same

  pub filled_short : length text < len
      → filled len text ≡ text ++ 0 ∷ replicate (len - length text - 1) 0
  filled_short short =
      let some : len - length text ≡ suc (len - length text - 1) = omega (arith, short) in
      filled_zeros
      ∙ ap (λ front. front ++ replicate (len - length text) 0)
      (take_all len text (omega (arith, short)))
      ∙ ap (λ k. text ++ replicate k 0) some
