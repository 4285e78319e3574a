use Rattle.std.proofs.Common.{◌≡◌, ◌∙◌, ℕ, ◌≤◌, Option, IfSome, ap, sym, subst, arith}
use Rattle.std.specs.Bool.{then_some}
use Rattle.iop_options.specs.Numbers.{number_of}
use Rattle.iop_options.proofs.NumberLemmas.{in_bounds, number_read, number_within}
use Rattle.iop_options.proofs.numbers.number_of.Goals as goal

pub returns-in-Ok : goal.returns-in-Ok
returns-in-Ok c =
    let read = number_read c.args.base c.args.least c.args.most c.args.text.now
    c.from_str_radix.result c.from_str_radix.ensures.value
    (sym c.is_numeral.ensures ∙ c.if-not-is_numeral.false) c.requires.high (omega arith) in
    let value : c.then_some.result
    ≡ number_of c.args.base c.args.least c.args.most c.args.text.now =
    c.then_some.ensures ∙ ap (λ b. then_some b c.in-Ok.number) c.is_within.ensures
    ∙ sym (read ∙ ap (in_bounds c.args.least c.args.most) c.in-Ok.is) in
    record {
      value = value;
      within = subst (λ (o : Option ℕ). IfSome o (λ n. n ≤ c.args.most)) (sym value)
          (number_within c.args.base c.args.least c.args.most c.args.text.now);
    }

pub returns-in-Err-clause-value : goal.returns-in-Err-clause-value
returns-in-Err-clause-value c =
    let read = number_read c.args.base c.args.least c.args.most c.args.text.now
    c.from_str_radix.result c.from_str_radix.ensures.value
    (sym c.is_numeral.ensures ∙ c.if-not-is_numeral.false) c.requires.high (omega arith) in
    sym (read ∙ ap (in_bounds c.args.least c.args.most) c.in-Err.is)
