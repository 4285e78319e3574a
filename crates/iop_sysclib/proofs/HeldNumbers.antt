-- Numbers that are held at a limit.
use Rattle.std.proofs.Common.{◌≡◌, ℕ, zero, suc, ◌+◌, ◌-◌, ◌*◌, ◌%◌, ◌^◌, ◌<◌, ◌≤◌, min, true, false, List, length, take, get_or, refl, ap, sym, ◌∙◌, arith, ⊎_elim}
use Rattle.std.specs.Char.{digit_value}
use Rattle.std.specs.Str.Parse.{digits_value}
use Rattle.std.proofs.Math.Nat.{mul-le-mul_right, mul-le-mul_left}
use Rattle.std.proofs.lemmas.Bool.{cases_lt}
use Rattle.std.proofs.lemmas.Int.Digits.{digits_value_more}
use Rattle.iop_base.specs.Numbers.{wrapped}
use Rattle.iop_sysclib.specs.NumeralLaws.{MagnitudesAreHeld}
use Rattle.iop_sysclib.specs.Numerals.{held_word}

-- to hold a number before a digit is read changes nothing of what is held behind it
held_step : (limit n base digit : ℕ) → 1 ≤ base
    → min limit (min limit n * base + digit) ≡ min limit (n * base + digit)
held_step limit n base digit some =
    ⊎_elim (λ less. let is : min limit n ≡ n = omega (arith, less) in rw is refl)
    (λ most.
    let is : min limit n ≡ limit = omega (arith, most) in
    let high = mul-le-mul_right base most in
    let far = mul-le-mul_left limit some in
    rw is (omega (arith, high, far)))
    (cases_lt n limit)

pub held_more : (limit base value : ℕ) (digits : List ℕ) (i : ℕ) → 1 ≤ base → i < length digits
    → value ≡ min limit (digits_value base (take i digits))
    → min (value * base + digit_value (get_or digits i 0)) limit
    ≡ min limit (digits_value base (take (i + 1) digits))
held_more limit base value digits i some inside is =
    let before = digits_value base (take i digits) in
    let digit = digit_value (get_or digits i 0) in
    let turned : min (value * base + digit) limit ≡ min limit (value * base + digit) = omega arith in
    turned ∙ ap (λ v. min limit (v * base + digit)) is
    ∙ held_step limit before base digit some
    ∙ ap (min limit) (sym (digits_value_more base digits i inside))

pub held_positive : (n : ℕ) → min (min 0x80000000 n) 0x7FFFFFFF ≡ held_word false n
held_positive n = omega arith

pub held_negative : (n word : ℕ) → word < 2 ^ 32
    → (word + min 0x80000000 n) % 2 ^ 32 ≡ 0 → word ≡ held_word true n
held_negative zero word small is = omega arith
held_negative (suc n) word small is = omega arith

-- beyond the lower limit, and up to it
held_far : (n : ℕ) → 2 ^ 31 < n → held_word true n ≡ 0x80000000
held_far zero far = omega (arith, far)
held_far (suc n) far = omega (arith, far)

held_near : (n : ℕ) → n ≤ 2 ^ 31 → held_word true n ≡ wrapped (2 ^ 32 - n)
held_near zero near = refl
held_near (suc n) near = omega (arith, near)

pub magnitudes_are_held : MagnitudesAreHeld
magnitudes_are_held magnitude = record {
  greatest = λ far. omega (arith, far);
  positive = λ near. omega (arith, near);
  least = λ far. held_far magnitude far;
  negative = λ near. held_near magnitude near;
}
