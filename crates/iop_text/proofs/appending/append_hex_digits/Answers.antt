use Rattle.std.proofs.Common.{◌≡◌, ◌-◌, ◌*◌, arith, append_assoc}
use Rattle.iop_text.proofs.Digits.{hex_digits_all, hex_digits_more}
use Rattle.iop_text.proofs.appending.append_hex_digits.Goals as goal

pub loop-place-preserved : goal.loop-place-preserved
loop-place-preserved g c =
    let below = c.loop-place-test.true in
    let more = hex_digits_more c.args.digits c.loop-place.place c.args.word below in record {
      bytes = rw (more, ← append_assoc) (cc);
      long = omega arith;
    }

pub returns-clause-bytes : goal.returns-clause-bytes
returns-clause-bytes g c =
    let last : c.loop-place.place ≡ c.args.digits = omega arith in
    let low = 4 * c.args.digits - 4 * c.args.digits in
    rw (hex_digits_all c.args.digits c.args.word low (omega arith))
    (rw last at c.loop-place.invariant.bytes)
