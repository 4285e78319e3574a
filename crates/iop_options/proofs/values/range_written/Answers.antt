use Rattle.std.proofs.Common.{◌∙◌, sym, lit<}
use Rattle.std.proofs.lemmas.Str.Pattern.{split_once_first}
use Rattle.iop_options.proofs.ValueLemmas.{dump_of-uncut}
use Rattle.iop_options.proofs.values.range_written.Goals as goal

pub returns-in_err-from : goal.returns-in_err-from
returns-in_err-from c =
    let first = split_once_first 58 c.args.text.now c.split_once.result
    c.split_once.ensures.cases (lit< tt) in
    let none = rw c.in_err-from.was at first in
    c.from_residual.ensures ∙ sym (dump_of-uncut _ c.args.text.now none)
