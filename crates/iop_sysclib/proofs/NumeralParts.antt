-- The parts of the texts that numbers are read from.
use Rattle.std.proofs.Common.{◌≡◌, ℕ, ◌+◌, ◌-◌, ◌<◌, ◌≤◌, nat_lt, Bool, true, false, ne_eqb, List, [], ◌∷◌, ◌++◌, length, drop, length-append, refl, ap, sym, ◌∙◌, arith, ⊎_elim}
use Rattle.std.specs.Prelude.{◌==◌, ◌&&◌, if◌then◌else◌, slice_index, ◌⊎◌}
use Rattle.std.specs.Char.{is_digit, digit_value}
use Rattle.std.specs.List.{list_all}
use Rattle.std.specs.Str.Parse.{digits_value, starts_with_minus, without_leading_sign}
use Rattle.std.proofs.lemmas.Bool.{and_parts, ltb-true, ltb-false}
use Rattle.std.proofs.lemmas.Bool.Decides.{nat_tests}
use Rattle.iop_printf.proofs.Fronts.{Stops, front-append, behind-append}
use Rattle.iop_sysclib.specs.Numerals.{is_base, is_space, base_of, without_prefix, held_word, reading_of}
use Rattle.iop_sysclib.proofs.Readings.{Parts, reading-number}

-- a digit of any base is no byte below `0`
digit_high : (b : Bool) (d base : ℕ) → nat_lt d 48 ≡ b → base ≤ 36 → is_digit d base ≡ true
    → 48 ≤ d
digit_high true d base low most is =
    let past : digit_value d ≡ 36 = rw low refl in
    let below = ltb-true (digit_value d) base is in
    absurd (omega (arith, past, below))
digit_high false d base low most is = ltb-false d 48 low

high_is_no_space : (d : ℕ) → 48 ≤ d → is_space d ≡ false
high_is_no_space d high = grind (arith, nat_tests, high)

stops : (base : ℕ) (rest : List ℕ) → is_digit (slice_index rest 0) base ≡ false
    → Stops (λ b. is_digit b base) rest
stops base [] is = tt
stops base (x ∷ rest) is = is

pub by_prefix : (b prefix : Bool) (bytes : List ℕ) → (b ≡ true → prefix ≡ false)
    → (if b && prefix then drop 2 bytes else bytes) ≡ bytes
by_prefix true true bytes plain = let none = plain refl in absurd (cc none)
by_prefix true false bytes plain = refl
by_prefix false prefix bytes plain = refl

-- what a sign leaves
pub record Signs (sign number : List ℕ) : Type 0 where
  pub stops_space : Stops is_space (sign ++ number)
  pub unsigned : number ≡ without_leading_sign (sign ++ number)
  pub minus : starts_with_minus sign ≡ starts_with_minus (sign ++ number)

pub no_sign : (number : List ℕ) → 48 ≤ slice_index number 0 → Signs [] number
no_sign [] high = absurd (omega (arith, high))
no_sign (d ∷ ds) high =
    let minus : (d == 45) ≡ false = ne_eqb d 45 (omega (arith, high)) in
    let plus : (d == 43) ≡ false = ne_eqb d 43 (omega (arith, high)) in
    record {
      stops_space = high_is_no_space d high;
      unsigned = rw (minus, plus) refl;
      minus = sym minus;
    }

pub signs : (sign number : List ℕ) → (sign ≡ [] → Signs [] number)
    → (sign ≡ []) ⊎ ((sign ≡ 0x2B ∷ []) ⊎ (sign ≡ 0x2D ∷ [])) → Signs sign number
signs sign number bare is =
    ⊎_elim (λ none. rw none (bare none))
    (λ some. ⊎_elim
    (λ plus. rw plus (record { stops_space = refl; unsigned = refl; minus = refl }))
    (λ minus. rw minus (record { stops_space = refl; unsigned = refl; minus = refl }))
    some) is

pub first_digit : (base : ℕ) (digits rest : List ℕ)
    → list_all (λ b. is_digit b base) digits ≡ true → 0 < length digits
    → is_digit (slice_index (digits ++ rest) 0) base ≡ true
first_digit base [] rest are some = absurd (omega (arith, some))
first_digit base (d ∷ ds) rest are some =
    (and_parts (is_digit d base) (list_all (λ b. is_digit b base) ds) are).0

pub first_high : (base : ℕ) (digits rest : List ℕ) → base ≤ 36
    → list_all (λ b. is_digit b base) digits ≡ true → 0 < length digits
    → 48 ≤ slice_index (digits ++ rest) 0
first_high base digits rest most are some =
    let d = slice_index (digits ++ rest) 0 in
    digit_high (nat_lt d 48) d base refl most (first_digit base digits rest are some)

-- white space, a sign or none, and a number of a base, behind which none of its digits stands
pub record IsSplit (base told : ℕ) (spaces sign unsigned digits rest : List ℕ) : Type 0 where
  pub is_white : list_all is_space spaces ≡ true
  pub by_sign : Signs sign unsigned
  pub told_is : told ≡ base_of base unsigned
  pub number_is : digits ++ rest ≡ without_prefix told unsigned
  pub are_digits : list_all (λ b. is_digit b told) digits ≡ true
  pub ends : is_digit (slice_index rest 0) told ≡ false

pub parts_of : (base told : ℕ) (spaces sign unsigned digits rest : List ℕ)
    → IsSplit base told spaces sign unsigned digits rest
    → Parts base (spaces ++ (sign ++ unsigned)) told (sign ++ unsigned) unsigned (digits ++ rest)
    digits rest
parts_of base told spaces sign unsigned digits rest is =
    let test = λ (b : ℕ). is_digit b told in
    let ends = stops told rest is.ends in
    let signed = sign ++ unsigned in
    record {
      signed_is = sym (behind-append is_space spaces signed is.is_white is.by_sign.stops_space);
      unsigned_is = is.by_sign.unsigned;
      told_is = is.told_is;
      number_is = is.number_is;
      digits_is = sym (front-append test digits rest is.are_digits ends);
      left_is = sym (behind-append test digits rest is.are_digits ends);
    }

-- how many bytes are read
pub read_length : (spaces sign unsigned rest : List ℕ) (n : ℕ) → length unsigned ≡ n + length rest
    → length (spaces ++ (sign ++ unsigned)) - length rest ≡ length spaces + (length sign + n)
read_length spaces sign unsigned rest n long =
    omega (
      arith,
      long,
      length-append spaces (sign ++ unsigned),
      length-append sign unsigned,
    )

-- the number of a split text that has a digit
pub split_number : (base told : ℕ) (spaces sign unsigned digits rest : List ℕ) (n : ℕ)
    → IsSplit base told spaces sign unsigned digits rest → is_base base ≡ true → 0 < length digits
    → length unsigned ≡ n + length rest
    → reading_of base (spaces ++ (sign ++ unsigned)) ≡ record {
      word = held_word (starts_with_minus sign) (digits_value told digits);
      len = length spaces + (length sign + n);
    }
split_number base told spaces sign unsigned digits rest n is a_base some long =
    let text = spaces ++ (sign ++ unsigned) in
    let word = held_word (starts_with_minus sign) (digits_value told digits) in
    reading-number base text told (sign ++ unsigned) unsigned (digits ++ rest) digits rest
    (parts_of base told spaces sign unsigned digits rest is) a_base
    (ne_eqb (length digits) 0 (omega (arith, some))) (starts_with_minus sign) word
    is.by_sign.minus refl
    ∙ ap (λ k. record { word = word; len = k }) (read_length spaces sign unsigned rest n long)
