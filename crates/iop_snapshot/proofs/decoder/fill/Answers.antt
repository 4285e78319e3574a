use Rattle.std.proofs.Common.{◌∙◌, ap, drop, arith}
use Rattle.std.proofs.lemmas.List.{length-set}
use Rattle.iop_base.specs.Numbers.{number_at}
use Rattle.iop_snapshot.proofs.Bytes.{little_from-number_at}
use Rattle.iop_snapshot.proofs.Filling.{widths_more, size_more, filled_more, filled_last, drop_more_size}
use Rattle.iop_snapshot.proofs.decoder.fill.Goals as goal

pub loop-index-preserved : goal.loop-index-preserved
loop-index-preserved c =
    let ws = c.args.widths.now in
    let k = c.loop-index.index in
    let rest = c.loop-index.rest.now in
    let values = c.loop-index.values in
    let kept = c.loop-index.invariant in
    let inside = c.loop-index-test.true in
    let width = c.from-width.ensures in
    let behind = c.split_at.ensures.back ∙ ap (λ n. drop n rest) width in
    let number = c.read_uint.ensures ∙ little_from-number_at 0 c.from-width.result rest
    ∙ ap (number_at rest 0) width in
    record {
      as_many = rw length-set kept.as_many;
      widths = (widths_more ws k inside kept.widths).1;
      filled = rw behind (filled_more ws k inside c.args.bytes.now values rest c.read_uint.result
          (omega arith) number kept.filled);
      behind = rw behind (kept.behind ∙ drop_more_size ws k inside rest);
      room = omega (arith, size_more ws k inside);
    }

pub returns-clause-numbers : goal.returns-clause-numbers
returns-clause-numbers c =
    filled_last c.args.widths.now c.args.bytes.now c.loop-index.values c.loop-index.rest.now
    c.loop-index.index c.loop-index-test.false (omega arith) c.loop-index.invariant.filled
