use Rattle.std.proofs.Common.{◌≡◌, ◌++◌, List, ℕ, ap, sym, ◌∙◌, arith}
use Rattle.std.proofs.lemmas.Grind.{common_steps}
use Rattle.iop_trace.proofs.Digits.{bytes_digits, when_ok}
use Rattle.iop_trace.proofs.dump.append_byte_digits.Goals as goal

pub returns-clause-bytes : goal.returns-clause-bytes
returns-clause-bytes c =
    let hex = c.encode_to_slice in
    let written = when_ok hex.result (hex.ensures.fits.1 (grind (arith, common_steps)))
    hex.ensures.written in
    c.append.ensures.bytes
    ∙ ap (λ (digits : List ℕ). c.args.text.now.items ++ digits)
    (written
    ∙ sym (bytes_digits c.args.bytes.now (λ i. omega (arith, c.type_inv.bytes i))))
