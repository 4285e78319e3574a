-- The strings that are read, a front of them.
use Rattle.std.proofs.Common.{◌≡◌, ℕ, zero, suc, ◌+◌, ◌-◌, ◌≤◌, min, not, nat_le, ◌==◌, Bool, true, false, cond, Option, Some, None, List, [], ◌∷◌, length, take, drop, refl, ap, sym, ◌∙◌, arith, take_all, ⊎_elim}
use Rattle.std.specs.List.{prefix_len, position_or_len}
use Rattle.std.specs.Option.{option_map_or}
use Rattle.std.specs.Prelude.{option_map}
use Rattle.std.proofs.lemmas.Bool.{cases_lt}
use Rattle.std.proofs.lemmas.List.{length-drop, length-take, take-take, take_min}
use Rattle.iop_base.specs.Places.{phys, range_at}
use Rattle.iop_base.specs.Strings.{before_zero}
use Rattle.iop_ram.specs.Windows.{window_of}
use Rattle.iop_printf.proofs.Fronts.{place_or_len}
use Rattle.iop_printf.specs.Texts.{string_at}

min_more : (b : Bool) (n k m : ℕ) → m ≡ min n k
    → cond b (1 + m) 0 ≡ min (suc n) (cond b (1 + k) 0)
min_more true n k m e = omega (arith, e)
min_more false n k m e = omega arith

prefix_len-take : (p : ℕ → Bool) (n : ℕ) (xs : List ℕ)
    → prefix_len p (take n xs) ≡ min n (prefix_len p xs)
prefix_len-take p zero xs = omega arith
prefix_len-take p (suc n) [] = omega arith
prefix_len-take p (suc n) (x ∷ xs) =
    min_more (p x) n (prefix_len p xs) (prefix_len p (take n xs)) (prefix_len-take p n xs)

take_both : (n k : ℕ) (xs : List ℕ) → take (min n k) (take n xs) ≡ take n (take k xs)
take_both n k xs =
    ⊎_elim
    (λ less. let is : min n k ≡ n = omega (arith, less) in
    ap (λ m. take m (take n xs)) is ∙ take-take n n xs (omega arith)
    ∙ sym (take-take n k xs (omega (arith, less))))
    (λ most. let is : min n k ≡ k = omega (arith, most) in
    ap (λ m. take m (take n xs)) is ∙ take-take k n xs most
    ∙ sym (take_all n (take k xs) (omega (arith, length-take k xs, most))))
    (cases_lt n k)

before_zero_is : (xs : List ℕ) → before_zero xs ≡ take (position_or_len (λ byte. byte == 0) xs) xs
before_zero_is xs = ap (λ k. take k xs) (place_or_len (λ byte. byte == 0) xs)

-- a front of a string is the string in a front
before_zero-take : (n : ℕ) (xs : List ℕ) → before_zero (take n xs) ≡ take n (before_zero xs)
before_zero-take n xs =
    let k = position_or_len (λ byte. byte == 0) xs in
    before_zero_is (take n xs)
    ∙ ap (λ m. take m (take n xs)) (prefix_len-take (λ byte. not (byte == 0)) n xs)
    ∙ take_both n k xs ∙ sym (ap (λ t. take n t) (before_zero_is xs))

module _ (ram : List ℕ) (at place len : ℕ) (is_place : phys (length ram) at ≡ Some place) where
  window_by : (b : Bool) (bytes : List ℕ) → nat_le (place + len) (length ram) ≡ b
      → window_of ram at len ≡ Some bytes → bytes ≡ take len (drop place ram)
  window_by true bytes t e =
      let r : range_at (length ram) at len ≡ Some place = rw (is_place, t) refl in
      let s = sym e ∙ ap (option_map (λ p. take len (drop p ram))) r in
      cc s
  window_by false bytes t e =
      let r : range_at (length ram) at len ≡ None = rw (is_place, t) refl in
      let s = sym e ∙ ap (option_map (λ p. take len (drop p ram))) r in
      absurd (cc s)

  -- the string in the bytes of a window
  pub string_is : (most : ℕ) (bytes text : List ℕ) → len ≡ min (length ram - place) most
      → window_of ram at len ≡ Some bytes → text ≡ before_zero bytes
      → text ≡ take most (string_at ram at)
  unfolding string_at
  string_is most bytes text e w f =
      let xs = drop place ram in
      let bytes_are = window_by (nat_le (place + len) (length ram)) bytes refl w in
      let few : len ≡ min most (length xs) = omega (arith, e, length-drop place ram) in
      f ∙ ap before_zero (bytes_are ∙ ap (λ k. take k xs) few ∙ take_min most xs)
      ∙ before_zero-take most xs
      ∙ sym (ap (λ t. take most (option_map_or (λ p. before_zero (drop p ram)) t [])) is_place)

length-before_zero : (xs : List ℕ) → length (before_zero xs) ≤ length xs
length-before_zero xs =
    let k = position_or_len (λ byte. byte == 0) xs in
    let is = ap (λ (t : List ℕ). length t) (before_zero_is xs) in
    omega (arith, is, length-take k xs)

string_fits : (ram : List ℕ) (place : Option ℕ)
    → length (option_map_or (λ p. before_zero (drop p ram)) place []) ≤ length ram
string_fits ram None = omega arith
string_fits ram (Some p) = omega (arith, length-before_zero (drop p ram), length-drop p ram)

-- a string is no longer than RAM
pub string_whole : (ram : List ℕ) (at size : ℕ) → size ≡ length ram
    → take size (string_at ram at) ≡ string_at ram at
unfolding string_at
string_whole ram at size whole =
    let fits = string_fits ram (phys (length ram) at) in
    take_all size (string_at ram at) (rw whole fits)
