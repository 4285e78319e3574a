-- The digits of a number, from the last one on.
use Rattle.std.proofs.Common.{◌≡◌, ℕ, suc, ◌+◌, ◌/◌, ◌%◌, ◌==◌, ◌<◌, ◌≢◌, Bool, true, false, cond, List, ◌∷◌, length, set, drop, ap, sym, ◌∙◌, arith}
use Rattle.std.proofs.lemmas.Bool.Decides.{nat_tests}
use Rattle.std.proofs.lemmas.List.{drop-set}
use Rattle.std.specs.Fmt.{digit_glyph, digits_onto}

-- one digit more, put before those that are written
pub digits_more : (k start base n : ℕ) (upper : Bool) (glyphs : List ℕ) → start ≡ k + 1
    → k < length glyphs
    → digits_onto start base upper n (drop start glyphs)
    ≡ cond (n / base == 0) (drop k (set glyphs k (digit_glyph upper (n % base))))
    (digits_onto k base upper (n / base) (drop k (set glyphs k (digit_glyph upper (n % base)))))
digits_more k start base n upper glyphs next inside =
    let glyph = digit_glyph upper (n % base) in
    let more : k + 1 ≡ suc k = omega arith in
    let written = drop-set glyphs k glyph inside ∙ ap (λ m. glyph ∷ drop m glyphs) more in
    rw (next, more)
    (ap (λ t. cond (n / base == 0) t (digits_onto k base upper (n / base) t)) (sym written))

module _ (k start base n glyph : ℕ) (upper : Bool) (glyphs all : List ℕ) (next : start ≡ k + 1)
    (inside : k < length glyphs) (is_glyph : glyph ≡ digit_glyph upper (n % base))
    (rest : digits_onto start base upper n (drop start glyphs) ≡ all) where
  at_glyph : cond (n / base == 0) (drop k (set glyphs k glyph))
      (digits_onto k base upper (n / base) (drop k (set glyphs k glyph))) ≡ all
  at_glyph = rw is_glyph (sym (digits_more k start base n upper glyphs next inside) ∙ rest)

  -- others are left
  pub digits_go_on : n / base ≢ 0
      → digits_onto k base upper (n / base) (drop k (set glyphs k glyph)) ≡ all
  digits_go_on more =
      let test : (n / base == 0) ≡ false = grind (arith, nat_tests, more) in
      rw test at at_glyph

  -- it was the last
  pub digits_end : n / base ≡ 0 → drop k (set glyphs k glyph) ≡ all
  digits_end none =
      let test : (n / base == 0) ≡ true = grind (arith, nat_tests, none) in
      rw test at at_glyph
