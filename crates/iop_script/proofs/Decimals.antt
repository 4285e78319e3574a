-- The number that decimal digits are read as, and the digits that a number is written with.
use Rattle.std.proofs.Common.{◌≡◌, ℕ, zero, suc, ◌+◌, ◌-◌, ◌*◌, ◌^◌, ◌<◌, ◌≤◌, ◌==◌, nat_le, true, not, ◌&&◌, ◌||◌, Some, List, length, decimal, slice_index, refl, ap, arith}
use Rattle.std.specs.List.{list_all, fold}
use Rattle.std.specs.Char.{is_ascii_digit}
use Rattle.std.proofs.lemmas.Bool.{and_from, and_parts, ne_eqb, le-leb, leb-true, or_right, not_from_false}
use Rattle.std.proofs.lemmas.Fmt.{decimal_digit, decimal_nonempty, first_decimal, digits_decimal, digits_value-decimal}
use Rattle.std.proofs.lemmas.Str.Parse.{IsDigitsTest, FoldsDigits, IsNumeralModel, numerals_by_fold}
use Rattle.iop_script.specs.Texts.{is_decimal, value_of, number_of}

-- digits that are read from the first on, behind a number
abbrev read_behind : ℕ → List ℕ → ℕ
read_behind n digits = fold (λ n b. n * 10 + (b - 0x30)) n digits

digit_test : IsDigitsTest (λ digits. list_all is_ascii_digit digits ≡ true)
digit_test = record {
  empty = refl;
  parts = λ c cs all.
      let tests = and_parts (is_ascii_digit c) (list_all is_ascii_digit cs) all in
      let bounds = and_parts (nat_le 48 c) (nat_le c 57) tests.0 in
      ((leb-true 48 c bounds.0, leb-true c 57 bounds.1), tests.1);
  more = λ c cs range all.
      and_from (is_ascii_digit c) (list_all is_ascii_digit cs)
      (and_from (nat_le 48 c) (nat_le c 57) (le-leb 48 c range.0) (le-leb c 57 range.1)) all;
}

digit_fold : FoldsDigits read_behind
digit_fold = record { empty = λ n. refl; more = λ n c cs range. refl }

pub numerals : IsNumeralModel (λ digits. list_all is_ascii_digit digits ≡ true) value_of
numerals =
    numerals_by_fold (λ digits. list_all is_ascii_digit digits ≡ true) digit_test read_behind
    digit_fold

-- no zero before others
no_zero_before : (n : ℕ) → n < 2 ^ 64
    → (length (decimal n) == 1 || not (slice_index (decimal n) 0 == 0x30)) ≡ true
no_zero_before zero small =
    ap (λ (digits : List ℕ). length digits == 1 || not (slice_index digits 0 == 0x30))
    (decimal_digit 0 (omega arith))
no_zero_before (suc n) small =
    let first = first_decimal (suc n) (omega arith) small in
    or_right (length (decimal (suc n)) == 1) (not (slice_index (decimal (suc n)) 0 == 0x30))
    (not_from_false (slice_index (decimal (suc n)) 0 == 0x30)
    (ne_eqb (slice_index (decimal (suc n)) 0) 0x30 (λ e. omega (arith, first, e))))

decimal_is : (n : ℕ) → n < 2 ^ 64 → is_decimal (decimal n) ≡ true
unfolding is_decimal
decimal_is n small =
    let some = decimal_nonempty n small in
    and_from
    (not (length (decimal n) == 0)
    && (length (decimal n) == 1 || not (slice_index (decimal n) 0 == 0x30)))
    (list_all is_ascii_digit (decimal n))
    (and_from (not (length (decimal n) == 0))
    (length (decimal n) == 1 || not (slice_index (decimal n) 0 == 0x30))
    (not_from_false (length (decimal n) == 0)
    (ne_eqb (length (decimal n)) 0 (λ e. omega (arith, some, e))))
    (no_zero_before n small))
    (digits_decimal numerals n small)

number_is : (least most n : ℕ) (field : List ℕ) → is_decimal field ≡ true → value_of field ≡ n
    → least ≤ n → n ≤ most → number_of least most field ≡ Some n
unfolding number_of
number_is least most n field digits value low high =
    let least_is = le-leb least n low in
    let most_is = le-leb n most high in
    rw (digits, value, least_is, most_is) refl

-- a number that is written is read again
pub decimal_read : (least most n : ℕ) → n < 2 ^ 64 → least ≤ n → n ≤ most
    → number_of least most (decimal n) ≡ Some n
decimal_read least most n small low high =
    number_is least most n (decimal n) (decimal_is n small) (digits_value-decimal numerals n small)
    low high

pub decimal_digits : (n : ℕ) → n < 2 ^ 64 → list_all is_ascii_digit (decimal n) ≡ true
decimal_digits n small = digits_decimal numerals n small
