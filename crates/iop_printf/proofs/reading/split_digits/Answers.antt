use Rattle.std.proofs.Common.{length, unwrap_or, take, ap, ◌∙◌}
use Rattle.std.specs.Char.{is_ascii_digit}
use Rattle.std.specs.List.{list_all}
use Rattle.iop_printf.proofs.Fronts.{front_passes}
use Rattle.iop_printf.proofs.reading.split_digits.Goals as goal

pub returns-clause-all : goal.returns-clause-all
returns-clause-all c =
    let bytes = c.args.bytes.now in
    ap (list_all is_ascii_digit)
    (c.split_at.ensures.front
    ∙ ap (λ n. take n bytes)
    (c.unwrap_or.ensures ∙ ap (λ e. unwrap_or e (length bytes)) c.end_of_digits.ensures.first))
    ∙ front_passes is_ascii_digit bytes
