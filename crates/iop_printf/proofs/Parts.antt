-- The text of a format, part by part.
use Rattle.std.proofs.Common.{◌≡◌, ℕ, zero, suc, ◌+◌, List, [], ◌∷◌, ◌++◌, take, drop, refl, ap, sym, ◌∙◌}
use Rattle.iop_printf.proofs.Cutting.{cut_twice}
use Rattle.iop_printf.specs.Arguments.{Arguments}
use Rattle.iop_printf.specs.Formatting.{part_at, text_from}

module _ (ram : List ℕ) (arguments : Arguments) where
  -- the bytes that belong to the conversion before
  pub passes : (taken passed : ℕ) (rest : List ℕ)
      → text_from ram arguments taken passed rest
      ≡ text_from ram arguments taken 0 (drop passed rest)
  passes taken zero rest = refl
  passes taken (suc passed) [] = refl
  passes taken (suc passed) (byte ∷ rest) = passes taken passed rest

  -- the text goes on behind a part
  pub part_more : (n taken byte len count : ℕ) (rest text text' : List ℕ)
      → text' ≡ take n (text ++ (part_at ram arguments taken byte rest).text)
      → len ≡ (part_at ram arguments taken byte rest).len
      → count ≡ (part_at ram arguments taken byte rest).arguments
      → take n (text' ++ text_from ram arguments (taken + count) 0 (drop len rest))
      ≡ take n (text ++ text_from ram arguments taken 0 (byte ∷ rest))
  part_more n taken byte len count rest text text' is_text is_len is_count =
      let part = part_at ram arguments taken byte rest in
      rw (is_text, is_len, is_count)
      (cut_twice n text part.text (text_from ram arguments (taken + part.arguments) 0 (drop part.len rest))
      ∙ ap (λ t. take n (text ++ (part.text ++ t))) (sym (passes (taken + part.arguments) part.len rest)))
