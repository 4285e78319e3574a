-- The law of the conversions that are read.
use Rattle.std.proofs.Common.{nat_le, min, ◌≡◌, ◌≢◌, ℕ, ◌+◌, ◌-◌, ◌*◌, ◌<◌, ◌≤◌, ◌==◌, Bool, true, false, Option, Some, None, option_map, unwrap_or, List, [], ◌∷◌, ◌++◌, length, take, drop, fold, refl, ap, sym, ◌∙◌, append_assoc, ⊎_elim, eqb-true, ne_eqb, arith}
use Rattle.std.specs.Char.{is_ascii_digit, digit_value}
use Rattle.std.specs.List.{list_all, list_any}
use Rattle.std.specs.Option.{option_map_or}
use Rattle.std.specs.Str.Parse.{digits_value_after}
use Rattle.std.proofs.lemmas.Bool.{and_parts, or_cases, or_from, false_from_ne_true, leb-true}
use Rattle.std.proofs.lemmas.List.{length-append}
use Rattle.std.proofs.lemmas.Str.{digit_value_digit}
use Rattle.iop_printf.proofs.Fronts.{Stops, front-append, behind-append}
use Rattle.iop_printf.specs.Conversions.{minus, zero_digit, is_flag, is_size, front, behind, value_of, behind_point, precision_at, behind_precision, letter_of, letter_at, behind_flags, behind_width, from_letter, conversion_at}
use Rattle.iop_printf.specs.Laws.{Parts, parts_text, AreParts, IsConversion, ConversionsAreRead, cut_value}
use Rattle.iop_printf.specs.declared.TheConstants.{LONGEST}
use Rattle.iop_printf.specs.declared.letter.Letter.{Letter}

-- a byte that is a digit
in_digits : (b : ℕ) → is_ascii_digit b ≡ true → (48 ≤ b) × (b ≤ 57)
in_digits b digit =
    let both = and_parts (nat_le 48 b) (nat_le b 57) digit in
    (leb-true 48 b both.0, leb-true b 57 both.1)

-- the value of digits
digits_fold : (n : ℕ) (digits : List ℕ) → list_all is_ascii_digit digits ≡ true
    → fold (λ m b. m * 10 + (b - 0x30)) n digits ≡ digits_value_after 10 n digits
digits_fold n [] all = refl
digits_fold n (b ∷ digits) all =
    let both = and_parts (is_ascii_digit b) (list_all is_ascii_digit digits) all in
    let value : n * 10 + (b - 0x30) ≡ n * 10 + digit_value b =
    omega (arith, digit_value_digit b (in_digits b both.0), in_digits b both.0) in
    digits_fold (n * 10 + (b - 0x30)) digits both.1
    ∙ ap (λ m. digits_value_after 10 m digits) value

-- a byte that is no letter
no_letter : (b : ℕ) → b < 0x58 → b ≢ 0x25 → letter_of b ≡ None
unfolding letter_of
no_letter b low other =
    let far : (m : ℕ) → 0x58 ≤ m → (b == m) ≡ false =
    λ m high. ne_eqb b m (λ same. omega (arith, low, high, same)) in
    rw (
      far 0x64 (omega arith),
      far 0x69 (omega arith),
      far 0x75 (omega arith),
      far 0x6F (omega arith),
      far 0x78 (omega arith),
      far 0x58 (omega arith),
      far 0x70 (omega arith),
      far 0x63 (omega arith),
      far 0x73 (omega arith),
      ne_eqb b 0x25 other,
    ) refl

low_flag : (b : ℕ) → is_flag b ≡ true → (b < 0x58) × (b ≢ 0x25)
low_flag b flag =
    ⊎_elim
    (λ is. let same = eqb-true b minus is in
    (omega (arith, same), λ e. omega (arith, same, e)))
    (λ is. let same = eqb-true b zero_digit is in
    (omega (arith, same), λ e. omega (arith, same, e)))
    (or_cases (b == minus) (b == zero_digit) flag)

low_digit : (b : ℕ) → is_ascii_digit b ≡ true → (b < 0x58) × (b ≢ 0x25)
low_digit b digit =
    let both = in_digits b digit in (omega (arith, both.1), λ e. omega (arith, both.0, e))

-- a test that no size passes
size_fails : (test : ℕ → Bool) → test 0x68 ≡ false → test 0x6C ≡ false → (b : ℕ)
    → is_size b ≡ true → test b ≡ false
size_fails test h l b size =
    ⊎_elim (λ is. ap test (eqb-true b 0x68 is) ∙ h) (λ is. ap test (eqb-true b 0x6C is) ∙ l)
    (or_cases (b == 0x68) (b == 0x6C) size)

-- a test that no letter passes
letter_fails : (test : ℕ → Bool) (b : ℕ) (kind : Letter) → (test b ≡ true → letter_of b ≡ None)
    → letter_of b ≡ Some kind → test b ≡ false
letter_fails test b kind none some =
    false_from_ne_true (test b)
    (λ passes. let wrong = sym (none passes) ∙ some in absurd (cc wrong))

size_no_letter : (b : ℕ) → is_size b ≡ true → letter_of b ≡ None
unfolding letter_of
size_no_letter b size =
    ⊎_elim (λ is. ap letter_of (eqb-true b 0x68 is)) (λ is. ap letter_of (eqb-true b 0x6C is))
    (or_cases (b == 0x68) (b == 0x6C) size)

sizes_stop : (test : ℕ → Bool) → test 0x68 ≡ false → test 0x6C ≡ false → (sizes rest : List ℕ)
    → list_all is_size sizes ≡ true → Stops test rest → Stops test (sizes ++ rest)
sizes_stop test h l [] rest all stops = stops
sizes_stop test h l (b ∷ sizes) rest all stops =
    size_fails test h l b (and_parts (is_size b) (list_all is_size sizes) all).0

abbrev point_text : Option (List ℕ) → List ℕ
point_text precision = option_map_or (λ digits. 0x2E ∷ digits) precision []

point_stops : (test : ℕ → Bool) → test 0x2E ≡ false → (precision : Option (List ℕ))
    (rest : List ℕ) → Stops test rest → Stops test (point_text precision ++ rest)
point_stops test point None rest stops = stops
point_stops test point (Some digits) rest stops = point

-- a digit that is not `0` is no flag
width_stops : (width rest : List ℕ) → list_all is_ascii_digit width ≡ true
    → take 1 width ≢ zero_digit ∷ [] → Stops is_flag rest → Stops is_flag (width ++ rest)
width_stops [] rest all begins stops = stops
width_stops (b ∷ width) rest all begins stops =
    let digit = in_digits b (and_parts (is_ascii_digit b) (list_all is_ascii_digit width) all).0 in
    or_from (b == minus) (b == zero_digit)
    (ne_eqb b minus (λ e. omega (arith, digit.0, e)))
    (ne_eqb b zero_digit (λ e. begins (ap (λ d. d ∷ []) e)))

no_point : (rest : List ℕ) → Stops (λ b. b == 0x2E) rest → behind_point rest ≡ None
no_point [] stops = refl
no_point (b ∷ rest) stops = rw stops refl

value_is : (digits : List ℕ) → list_all is_ascii_digit digits ≡ true
    → value_of digits ≡ cut_value digits
value_is digits all = ap (λ n. min LONGEST n) (digits_fold 0 digits all)

-- a precision, where digits end and no other point stands
module _ (rest : List ℕ) (no_digit : Stops is_ascii_digit rest)
    (other : Stops (λ b. b == 0x2E) rest) where
  precision_is : (precision : Option (List ℕ))
      → list_all is_ascii_digit (unwrap_or precision []) ≡ true
      → precision_at (point_text precision ++ rest) ≡ option_map cut_value precision
  precision_is None all =
      ap (λ p. option_map (λ digits. value_of (front is_ascii_digit digits)) p) (no_point rest other)
  precision_is (Some digits) all =
      ap (λ d. Some (value_of d)) (front-append is_ascii_digit digits rest all no_digit)
      ∙ ap (λ n. Some n) (value_is digits all)

  behind_precision_is : (precision : Option (List ℕ))
      → list_all is_ascii_digit (unwrap_or precision []) ≡ true
      → behind_precision (point_text precision ++ rest) ≡ rest
  behind_precision_is None all =
      ap (λ p. option_map_or (behind is_ascii_digit) p rest) (no_point rest other)
  behind_precision_is (Some digits) all = behind-append is_ascii_digit digits rest all no_digit

module _ (parts : Parts) (kind : Letter) (rest : List ℕ) (are : AreParts parts kind) where
  abbrev bytes : List ℕ
  bytes = parts_text parts ++ rest

  abbrev at_letter : List ℕ
  at_letter = parts.byte ∷ rest

  abbrev at_sizes : List ℕ
  at_sizes = parts.sizes ++ at_letter

  abbrev at_point : List ℕ
  at_point = point_text parts.precision ++ at_sizes

  abbrev at_width : List ℕ
  at_width = parts.width ++ at_point

  by_parts : bytes ≡ parts.flags ++ at_width
  by_parts = simp append_assoc refl

  no_flag : Stops is_flag at_width
  no_flag =
      width_stops parts.width at_point are.width are.width_begins
      (point_stops is_flag refl parts.precision at_sizes
      (sizes_stop is_flag refl refl parts.sizes at_letter are.sizes
      (letter_fails is_flag parts.byte kind (λ flag. let low = low_flag parts.byte flag in
      no_letter parts.byte low.0 low.1) are.letter)))

  no_digit : Stops is_ascii_digit at_sizes
  no_digit =
      sizes_stop is_ascii_digit refl refl parts.sizes at_letter are.sizes
      (letter_fails is_ascii_digit parts.byte kind (λ digit. let low = low_digit parts.byte digit in
      no_letter parts.byte low.0 low.1) are.letter)

  no_other_point : Stops (λ b. b == 0x2E) at_sizes
  no_other_point =
      sizes_stop (λ b. b == 0x2E) refl refl parts.sizes at_letter are.sizes
      (letter_fails (λ b. b == 0x2E) parts.byte kind (λ is. let same = eqb-true parts.byte 0x2E is in
      no_letter parts.byte (omega (arith, same)) (λ e. omega (arith, same, e))) are.letter)

  no_size : Stops is_size at_letter
  no_size = letter_fails is_size parts.byte kind (size_no_letter parts.byte) are.letter

  flags_are : front is_flag bytes ≡ parts.flags
  flags_are =
      ap (front is_flag) by_parts ∙ front-append is_flag parts.flags at_width are.flags no_flag

  width_from : behind_flags bytes ≡ at_width
  width_from =
      ap (behind is_flag) by_parts ∙ behind-append is_flag parts.flags at_width are.flags no_flag

  no_more_digit : Stops is_ascii_digit at_point
  no_more_digit = point_stops is_ascii_digit refl parts.precision at_sizes no_digit

  point_from : behind_width bytes ≡ at_point
  point_from =
      ap (behind is_ascii_digit) width_from
      ∙ behind-append is_ascii_digit parts.width at_point are.width no_more_digit

  letter_from : from_letter bytes ≡ at_letter
  letter_from =
      ap (λ b. behind is_size (behind_precision b)) point_from
      ∙ ap (behind is_size)
      (behind_precision_is at_sizes no_digit no_other_point parts.precision are.precision)
      ∙ behind-append is_size parts.sizes at_letter are.sizes no_size

  read : IsConversion parts kind (conversion_at bytes)
  unfolding conversion_at
  read = record {
    left = ap (list_any (λ b. b == minus)) flags_are;
    zeros = ap (list_any (λ b. b == zero_digit)) flags_are;
    width = ap (λ b. value_of (front is_ascii_digit b)) width_from
        ∙ ap value_of (front-append is_ascii_digit parts.width at_point are.width no_more_digit)
        ∙ value_is parts.width are.width;
    precision = ap precision_at point_from
        ∙ precision_is at_sizes no_digit no_other_point parts.precision are.precision;
    letter = ap letter_at letter_from ∙ are.letter;
    len = ap (λ b. length bytes - length (drop 1 b)) letter_from
        ∙ omega (arith, length-append (parts_text parts) rest);
  }

pub conversion_at-parts : ConversionsAreRead
conversion_at-parts parts kind rest are = read parts kind rest are
