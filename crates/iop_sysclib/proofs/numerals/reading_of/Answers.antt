use Rattle.std.proofs.Common.{sym, ◌∙◌}
use Rattle.iop_sysclib.proofs.Readings.{is_told, reading-nothing, reading-number}
use Rattle.iop_sysclib.proofs.numerals.reading_of.Goals as goal

pub returns-then-is_empty-clause-reading : goal.returns-then-is_empty-clause-reading
returns-then-is_empty-clause-reading c =
    let unsigned = c.without_sign-unsigned.result.now in
    let is = is_told c.args.base c.in-Some.told unsigned (sym c.in-Some.is ∙ c.told.ensures) in
    sym (reading-nothing c.args.base c.args.text.now c.in-Some.told
    c.behind_space-signed.result.now unsigned c.without_prefix.result.now
    c.split_digits.result.0.now c.split_digits.result.1.now (record {
      signed_is = c.behind_space-signed.ensures.rest;
      unsigned_is = c.without_sign-unsigned.ensures.rest;
      told_is = is.told_is;
      number_is = c.without_prefix.ensures.rest;
      digits_is = c.split_digits.ensures.digits;
      left_is = c.split_digits.ensures.rest;
    }) is.a_base (sym c.is_empty.ensures ∙ c.if-is_empty.true))

pub returns-clause-reading : goal.returns-clause-reading
returns-clause-reading c =
    let unsigned = c.without_sign-unsigned.result.now in
    let is = is_told c.args.base c.in-Some.told unsigned (sym c.in-Some.is ∙ c.told.ensures) in
    sym (reading-number c.args.base c.args.text.now c.in-Some.told
    c.behind_space-signed.result.now unsigned c.without_prefix.result.now
    c.split_digits.result.0.now c.split_digits.result.1.now (record {
      signed_is = c.behind_space-signed.ensures.rest;
      unsigned_is = c.without_sign-unsigned.ensures.rest;
      told_is = is.told_is;
      number_is = c.without_prefix.ensures.rest;
      digits_is = c.split_digits.ensures.digits;
      left_is = c.split_digits.ensures.rest;
    }) is.a_base (sym c.is_empty.ensures ∙ c.if-is_empty.false) c.starts_with_minus.result
    c.signed_word.result c.starts_with_minus.ensures c.signed_word.ensures)
