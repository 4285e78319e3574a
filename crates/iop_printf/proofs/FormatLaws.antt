-- The laws of formatted text.
use Rattle.std.proofs.Common.{◌≡◌, ℕ, ◌+◌, ◌==◌, Bool, true, false, not, List, [], ◌∷◌, ◌++◌, take, refl, ap, arith}
use Rattle.std.specs.List.{list_all}
use Rattle.std.proofs.lemmas.Bool.{and_parts}
use Rattle.std.proofs.lemmas.List.{length-take}
use Rattle.iop_printf.proofs.Parts.{passes}
use Rattle.iop_printf.specs.Arguments.{Arguments, argument}
use Rattle.iop_printf.specs.Conversions.{percent, conversion_at}
use Rattle.iop_printf.specs.Formatting.{part_at, text_from, format_text}
use Rattle.iop_printf.specs.Laws.{text_behind_percent, TextsAreShort, PlainFormatsStay, FormatsGoOn}
use Rattle.iop_printf.specs.Texts.{string_at, conversion_text, conversion_arguments}

pub format_text-short : TextsAreShort
unfolding format_text
format_text-short ram fmt registers sp =
    let arguments : Arguments = record { registers = registers; sp = sp } in
    omega (arith, length-take 4096 (text_from ram arguments 0 0 (string_at ram fmt)))

module _ (ram : List ℕ) (arguments : Arguments) where
  not_percent : (b : Bool) → not b ≡ true → b ≡ false
  not_percent true e = absurd (cc e)
  not_percent false e = refl

  plain_part : (taken byte : ℕ) (rest : List ℕ) → not (byte == percent) ≡ true
      → part_at ram arguments taken byte rest ≡ record { text = byte ∷ []; len = 0; arguments = 0 }
  unfolding part_at
  plain_part taken byte rest plain = rw (not_percent (byte == percent) plain) refl

  plain_text : (taken : ℕ) (xs : List ℕ) → list_all (λ b. not (b == percent)) xs ≡ true
      → text_from ram arguments taken 0 xs ≡ xs
  plain_text taken [] plain = refl
  plain_text taken (byte ∷ rest) plain =
      let both = and_parts (not (byte == percent)) (list_all (λ b. not (b == percent)) rest) plain in
      rw (plain_part taken byte rest both.0)
      (ap (λ t. byte ∷ t) (plain_text (taken + 0) rest both.1))

module _ (ram : List ℕ) (arguments : Arguments) where
  percent_part : (taken : ℕ) (rest : List ℕ)
      → text_from ram arguments taken 0 (percent ∷ rest)
      ≡ text_behind_percent ram arguments taken rest
  unfolding part_at
  percent_part taken rest =
      let c = conversion_at rest in
      ap (λ t. conversion_text ram c (take c.len rest) (argument ram arguments taken) ++ t)
      (passes ram arguments (taken + conversion_arguments c) c.len rest)

  goes_on : (taken : ℕ) (plain rest : List ℕ) → list_all (λ b. not (b == percent)) plain ≡ true
      → text_from ram arguments taken 0 (plain ++ percent ∷ rest)
      ≡ plain ++ text_behind_percent ram arguments taken rest
  goes_on taken [] rest is_plain = percent_part taken rest
  goes_on taken (byte ∷ plain) rest is_plain =
      let both =
      and_parts (not (byte == percent)) (list_all (λ b. not (b == percent)) plain) is_plain in
      let same : taken + 0 ≡ taken = omega arith in
      rw (plain_part ram arguments taken byte (plain ++ percent ∷ rest) both.0, same)
      (ap (λ t. byte ∷ t) (goes_on taken plain rest both.1))

pub text_from-goes_on : FormatsGoOn
text_from-goes_on ram arguments taken plain rest is_plain =
    goes_on ram arguments taken plain rest is_plain

pub format_text-plain : PlainFormatsStay
unfolding format_text
format_text-plain ram fmt registers sp plain =
    ap (λ t. take 4096 t)
    (plain_text ram (record { registers = registers; sp = sp }) 0 (string_at ram fmt) plain)
