-- What reading a number of a base answers.
use Rattle.std.proofs.Common.{◌≡◌, ◌∙◌, ℕ, ◌^◌, ◌<◌, ◌≤◌, ◌&&◌, nat_le, Bool, true, false, cond, Option, Some, None, IfSome, Result, Ok, Err, List, [], ◌∷◌, length, refl, sym, ap, subst, ltb-true, leb-true, arith}
use Rattle.std.specs.Bool.{then_some}
use Rattle.std.specs.List.{list_all}
use Rattle.std.specs.Char.{is_digit, digit_value}
use Rattle.std.specs.Str.Parse.{AllDigits, IsNumeral, ParsesUnsigned, digits_value, without_leading_plus}
use Rattle.std.proofs.lemmas.Str.Parse.{without_leading_plus_none}
use Rattle.clap.proofs.WalkLemmas.{both}
use Rattle.iop_options.specs.Numbers.{is_numeral, number_of}

all_digits : (base : ℕ) (ds : List ℕ) → list_all (λ d. is_digit d base) ds ≡ true → AllDigits base ds
all_digits base [] e = tt
all_digits base (d ∷ ds) e =
    let parts = both _ _ e in
    (ltb-true _ _ parts.0, all_digits base ds parts.1)

-- no digit is a plus
no_plus : (base : ℕ) (ds : List ℕ) → base ≤ 36 → list_all (λ d. is_digit d base) ds ≡ true
    → 0 < length ds → without_leading_plus ds ≡ ds
no_plus base [] low e some = absurd (omega arith)
no_plus base (d ∷ ds) low e some = without_leading_plus_none (d ∷ ds) (λ plus.
    let is_plus : d ≡ 43 = plus in
    let small : digit_value d < base = ltb-true _ _ (both _ _ e).0 in
    let seen : digit_value 43 < base = subst (λ n. digit_value n < base) is_plus small in
    absurd (omega (arith, seen)))

-- what was read, if it lies in the bounds
abbrev pub in_bounds : {E : Type 0} → (least most : ℕ) → Result ℕ E → Option ℕ
in_bounds least most (Ok n) = then_some (nat_le least n && nat_le n most) n
in_bounds least most (Err e) = None

picked : (b : Bool) (n : ℕ) → cond b (Some n) None ≡ then_some b n
picked true n = refl
picked false n = refl

not_and : (b : Bool) → (b && false) ≡ false
not_and true = refl
not_and false = refl

-- of a text of digits, a number is what was read of it in the bounds
pub number_read : {E : Type 0} (base least most : ℕ) (text : List ℕ) (read : Result ℕ E)
    → ParsesUnsigned 64 base text read → is_numeral base text ≡ true → base ≤ 36 → most < 2 ^ 64
    → number_of base least most text ≡ in_bounds least most read
unfolding number_of
number_read {E = E} base least most text read parsed numeral low fits = by read parsed
  where
    parts : (nat_le 1 (length text) ≡ true) × (list_all (λ d. is_digit d base) text ≡ true)
    parts = both (nat_le 1 (length text)) (list_all (λ d. is_digit d base) text) numeral

    same : without_leading_plus text ≡ text
    same = no_plus base text low parts.1 (leb-true 1 (length text) parts.0)

    too_large : ¬ (IsNumeral base (without_leading_plus text)
        × (digits_value base (without_leading_plus text) < 2 ^ 64))
        → (b : Bool) → nat_le (digits_value base text) most ≡ b → b ≡ false
    too_large never false e = refl
    too_large never true e =
        let inside = leb-true (digits_value base text) most e in
        absurd (subst (λ t. ¬ (IsNumeral base t × (digits_value base t < 2 ^ 64))) same never
        ((leb-true 1 (length text) parts.0, all_digits base text parts.1), omega arith))

    by : (r : Result ℕ E) → ParsesUnsigned 64 base text r
        → number_of base least most text ≡ in_bounds least most r
    by (Ok n) p =
        ap (λ b. cond (b && nat_le least (digits_value base text)
        && nat_le (digits_value base text) most) (Some (digits_value base text)) None) numeral
        ∙ picked (nat_le least (digits_value base text) && nat_le (digits_value base text) most)
        (digits_value base text)
        ∙ ap (λ m. then_some (nat_le least m && nat_le m most) m)
        (sym (p.1 ∙ ap (digits_value base) same))
    by (Err e) p =
        ap (λ b. cond (is_numeral base text && nat_le least (digits_value base text) && b)
        (Some (digits_value base text)) None)
        (too_large p (nat_le (digits_value base text) most) refl)
        ∙ ap (λ b. cond b (Some (digits_value base text)) None)
        (not_and (is_numeral base text && nat_le least (digits_value base text)))

-- a number is from the least to the most that is asked for
pub number_between : (base least most : ℕ) (text : List ℕ)
    → IfSome (number_of base least most text) (λ n. (least ≤ n) × (n ≤ most))
unfolding number_of
number_between base least most text = go (is_numeral base text)
    (nat_le least (digits_value base text)) (nat_le (digits_value base text) most) refl refl
  where
    go : (a b c : Bool) → nat_le least (digits_value base text) ≡ b
        → nat_le (digits_value base text) most ≡ c
        → IfSome (cond (a && b && c) (Some (digits_value base text)) None)
        (λ n. (least ≤ n) × (n ≤ most))
    go false b c e f = tt
    go true false c e f = tt
    go true true false e f = tt
    go true true true e f =
        (leb-true least (digits_value base text) e, leb-true (digits_value base text) most f)

pub number_within : (base least most : ℕ) (text : List ℕ)
    → IfSome (number_of base least most text) (λ n. n ≤ most)
number_within base least most text =
    go (number_of base least most text) (number_between base least most text)
  where
    go : (o : Option ℕ) → IfSome o (λ n. (least ≤ n) × (n ≤ most)) → IfSome o (λ n. n ≤ most)
    go None h = tt
    go (Some n) h = h.1
