-- Texts that spaces fill up to a width.
use Rattle.std.proofs.Common.{◌≡◌, ℕ, ◌+◌, ◌-◌, ◌≤◌, max, Bool, true, false, cond, Option, Some, None, unwrap_or, List, [], ◌++◌, length, take, take_all, replicate, ap, sym, ◌∙◌, append-nil, ⊎_elim, arith}
use Rattle.std.proofs.lemmas.Bool.{cases_lt}
use Rattle.std.proofs.lemmas.List.{length-append, length-replicate, length-take}
use Rattle.iop_printf.proofs.Cutting.{cut_then, cut_front}
use Rattle.iop_printf.specs.Conversions.{zero_digit}
use Rattle.iop_printf.specs.Texts.{padded, string_front}
use Rattle.iop_printf.specs.declared.conversion.Conversion.{Conversion}

-- a text with zeros between its sign and its digits
module _ (n padding zeros : ℕ) (c : Conversion) (old middle new sign digits : List ℕ)
    (fills : padding ≡ c.width - (length sign + zeros + length digits)) where
  abbrev text : List ℕ
  text = sign ++ replicate zeros zero_digit ++ digits

  fills_text : padding ≡ c.width - length text
  fills_text =
      let filled = sign ++ replicate zeros zero_digit in
      let long : length sign + zeros + length digits ≡ length text =
      omega (
        arith,
        length-append filled digits,
        length-append sign (replicate zeros zero_digit),
        length-replicate zeros zero_digit,
      ) in
      fills ∙ ap (λ m. c.width - m) long

  pub padded_left : c.left ≡ true → middle ≡ take n (old ++ text)
      → new ≡ take n (middle ++ replicate padding 0x20) → new ≡ take n (old ++ padded c text)
  padded_left left first second =
      rw (left, ← fills_text)
      (cut_then n old middle new text (replicate padding 0x20) first second)

  pub padded_right : c.left ≡ false → middle ≡ take n (old ++ replicate padding 0x20)
      → new ≡ take n (middle ++ text) → new ≡ take n (old ++ padded c text)
  padded_right right first second =
      rw (right, ← fills_text)
      (cut_then n old middle new (replicate padding 0x20) text first second)

-- a text of its width or longer
module _ (c : Conversion) (text : List ℕ) (full : c.width ≤ length text) where
  abbrev spaces : List ℕ
  spaces = replicate (c.width - length text) 0x20

  no_spaces : spaces ≡ []
  no_spaces =
      let count : c.width - length text ≡ 0 = omega (arith, full) in
      ap (λ k. replicate k 0x20) count

  by_side : (left : Bool) → cond left (text ++ spaces) (spaces ++ text) ≡ text
  by_side true = ap (λ s. text ++ s) no_spaces ∙ append-nil text
  by_side false = ap (λ s. s ++ text) no_spaces

  pub padded_full : padded c text ≡ text
  padded_full = by_side c.left

-- a string of which no more is read than shows or counts for the width
module _ (n most : ℕ) (c : Conversion) (old string : List ℕ) where
  read_enough : most ≡ max c.width n
      → take n (old ++ padded c (take most string)) ≡ take n (old ++ padded c string)
  read_enough is =
      ⊎_elim
      (λ more. let front = take most string in
      let long = length-take most string in
      let enough : n ≤ most = omega (arith, is) in
      ap (λ t. take n (old ++ t)) (padded_full c front (omega (arith, is, long, more)))
      ∙ cut_front n most old string enough
      ∙ ap (λ t. take n (old ++ t)) (sym (padded_full c string (omega (arith, is, more)))))
      (λ whole. ap (λ t. take n (old ++ padded c t)) (take_all most string whole))
      (cases_lt most (length string))

  pub padded_string : (precision : Option ℕ) → most ≡ unwrap_or precision (max c.width n)
      → take n (old ++ padded c (take most string))
      ≡ take n (old ++ padded c (string_front precision string))
  padded_string None is = read_enough is
  padded_string (Some p) is = ap (λ m. take n (old ++ padded c (take m string))) is
