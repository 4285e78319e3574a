-- What is read of the parts of a number's text.
use Rattle.std.proofs.Common.{◌≡◌, ℕ, zero, suc, ◌-◌, ◌==◌, nat_lt, Bool, true, false, cond, Some, None, List, length, eqb-true, refl, ap, ◌∙◌, arith}
use Rattle.std.specs.Char.{is_digit}
use Rattle.std.specs.Str.Parse.{digits_value, starts_with_minus, without_leading_sign}
use Rattle.std.proofs.lemmas.Bool.{lt-ltb, le-ltb}
use Rattle.iop_printf.specs.Conversions.{front, behind}
use Rattle.iop_sysclib.specs.Numerals.{is_base, is_space, base_of, without_prefix, held_word, reading_of}

-- the parts of a text that is read in a base
pub record Parts (base : ℕ) (text : List ℕ) (told : ℕ) (signed unsigned number digits left : List ℕ)
    : Type 0 where
  pub signed_is : signed ≡ behind is_space text
  pub unsigned_is : unsigned ≡ without_leading_sign signed
  pub told_is : told ≡ base_of base unsigned
  pub number_is : number ≡ without_prefix told unsigned
  pub digits_is : digits ≡ front (λ b. is_digit b told) number
  pub left_is : left ≡ behind (λ b. is_digit b told) number

reading_by : (base : ℕ) (text : List ℕ) (told : ℕ) (signed unsigned number digits left : List ℕ)
    → Parts base text told signed unsigned number digits left → is_base base ≡ true
    → reading_of base text ≡ cond (nat_lt 0 (length digits)) (record {
      word = held_word (starts_with_minus signed) (digits_value told digits);
      len = length text - length left;
    }) (record { word = 0; len = 0 })
unfolding reading_of
reading_by base text told signed unsigned number digits left parts is =
    let left_is = parts.left_is in
    let digits_is = parts.digits_is in
    let number_is = parts.number_is in
    let told_is = parts.told_is in
    let unsigned_is = parts.unsigned_is in
    let signed_is = parts.signed_is in
    rw (left_is, digits_is, number_is, told_is, unsigned_is, signed_is, is) refl

has_none : (n : ℕ) → (n == 0) ≡ true → nat_lt 0 n ≡ false
has_none n is = let same : n ≡ 0 = eqb-true n 0 is in le-ltb 0 n (omega arith)

has_some : (n : ℕ) → (n == 0) ≡ false → nat_lt 0 n ≡ true
has_some zero is = cc
has_some (suc n) is = lt-ltb 0 (suc n) (omega arith)

module _ (base : ℕ) (text : List ℕ) (told : ℕ) (signed unsigned number digits left : List ℕ)
    (parts : Parts base text told signed unsigned number digits left) (is : is_base base ≡ true)
  where
    -- there is no digit
    pub reading-nothing : (length digits == 0) ≡ true
        → reading_of base text ≡ record { word = 0; len = 0 }
    reading-nothing none =
        let test = has_none (length digits) none in
        reading_by base text told signed unsigned number digits left parts is ∙ rw test refl

    pub reading-number : (length digits == 0) ≡ false → (minus : Bool) (word : ℕ)
        → minus ≡ starts_with_minus signed → word ≡ held_word minus (digits_value told digits)
        → reading_of base text ≡ record { word = word; len = length text - length left }
    reading-number some minus word minus_is word_is =
        let test = has_some (length digits) some in
        let same = word_is ∙ ap (λ b. held_word b (digits_value told digits)) minus_is in
        reading_by base text told signed unsigned number digits left parts is
        ∙ rw (test, same) refl

-- the base that is told where numbers have it
pub record IsTold (base told : ℕ) (unsigned : List ℕ) : Type 0 where
  pub a_base : is_base base ≡ true
  pub told_is : told ≡ base_of base unsigned

told_by : (base told : ℕ) (unsigned : List ℕ) (b : Bool) → is_base base ≡ b
    → Some told ≡ cond b (Some (base_of base unsigned)) None → IsTold base told unsigned
told_by base told unsigned true test is = record { a_base = test; told_is = cc }
told_by base told unsigned false test is = absurd (cc is)

pub is_told : (base told : ℕ) (unsigned : List ℕ)
    → Some told ≡ cond (is_base base) (Some (base_of base unsigned)) None
    → IsTold base told unsigned
is_told base told unsigned is = told_by base told unsigned (is_base base) refl is
