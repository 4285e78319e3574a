use Rattle.std.proofs.Common.{◌-◌, ◌==◌, length, ap, sym, ◌∙◌}
use Rattle.std.proofs.lemmas.List.{length-drop}
use Rattle.std.specs.Char.{is_ascii_digit}
use Rattle.std.specs.List.{list_any}
use Rattle.iop_printf.specs.Conversions.{minus, zero_digit, is_size, front, behind, value_of, precision_at, behind_precision, letter_at, conversion_at}
use Rattle.iop_printf.proofs.Conversions.{same_conversion}
use Rattle.iop_printf.proofs.reading.conversion_at.Goals as goal

pub returns-clause-conversion : goal.returns-clause-conversion
unfolding conversion_at
returns-clause-conversion c =
    let bytes = c.args.bytes.now in
    let behind_flags = c.split_flags.ensures.rest in
    let behind_width = c.split_digits.ensures.rest ∙ ap (behind is_ascii_digit) behind_flags in
    let from_letter =
    c.behind_sizes-rest.ensures.rest
    ∙ ap (behind is_size) (c.split_precision-precision.ensures.rest ∙ ap behind_precision behind_width) in
    same_conversion _ _ _ _ _ _ _ _ _ _ _ _
    (c.has.ensures ∙ ap (list_any (λ b. b == minus)) c.split_flags.ensures.flags)
    (c.has-2.ensures ∙ ap (list_any (λ b. b == zero_digit)) c.split_flags.ensures.flags)
    (c.value_of.ensures
    ∙ ap value_of (c.split_digits.ensures.digits ∙ ap (front is_ascii_digit) behind_flags))
    (c.split_precision-precision.ensures.precision ∙ ap precision_at behind_width)
    (c.letter_at.ensures ∙ ap letter_at from_letter)
    (ap (λ n. length bytes - n)
    (c.saturating_sub.ensures ∙ ap (λ t. length t - 1) from_letter ∙ sym (length-drop 1 _)))
