use Rattle.std.proofs.Common.{arith, subst, List, ℕ, drop, ◌+◌, ◌<◌, length}
use Rattle.iop_snapshot.specs.Items.{spell_item}
use Rattle.iop_snapshot.specs.Writing.{place_of}
use Rattle.iop_snapshot.proofs.Filling.{as_many, widths_more, fits_more, spell_more, spell_last}
use Rattle.iop_snapshot.proofs.Sending.{Continues, continues_then, continues_exit, continues_last}
use Rattle.iop_snapshot.proofs.encoder.Encoder.item.Goals as goal

pub number-requires-clause-fits : goal.number-requires-clause-fits
number-requires-clause-fits g c =
    let many = as_many c.args.widths.now c.args.values.now c.requires.fits in
    (fits_more c.args.widths.now c.loop-index.index c.loop-index-test.true c.args.values.now
    (omega arith) c.loop-index.invariant.fits).0

pub returns-in_err-number : goal.returns-in_err-number
returns-in_err-number g c =
    let ws = c.args.widths.now in
    let numbers = c.args.values.now in
    let k = c.loop-index.index in
    let many = as_many ws numbers c.requires.fits in
    let there : k < length numbers = omega arith in
    let start = place_of g.S.Sink.told c.args.self.now in
    let place = place_of g.S.Sink.told c.loop-index.self in
    let goes_on = subst (λ (l : List ℕ). Continues (spell_item ws numbers) l start place)
    (spell_more ws k c.loop-index-test.true numbers there) c.loop-index.invariant.goes_on in
    continues_exit c.from_residual.result (spell_item (drop (k + 1) ws) (drop (k + 1) numbers))
    c.from_residual.ensures.0 goes_on c.in_err-number.ensures

pub loop-index-preserved : goal.loop-index-preserved
loop-index-preserved g c =
    let ws = c.args.widths.now in
    let numbers = c.args.values.now in
    let k = c.loop-index.index in
    let inside = c.loop-index-test.true in
    let many = as_many ws numbers c.requires.fits in
    let there : k < length numbers = omega arith in
    let start = place_of g.S.Sink.told c.args.self.now in
    let place = place_of g.S.Sink.told c.loop-index.self in
    let goes_on = subst (λ (l : List ℕ). Continues (spell_item ws numbers) l start place)
    (spell_more ws k inside numbers there) c.loop-index.invariant.goes_on in
    record {
      widths = (widths_more ws k inside c.loop-index.invariant.widths).1;
      fits = (fits_more ws k inside numbers there c.loop-index.invariant.fits).1;
      goes_on = continues_then goes_on c.in_ok-number.ensures;
    }

pub returns : goal.returns
returns g c =
    continues_last c.loop-index.invariant.goes_on
    (spell_last c.args.widths.now c.args.values.now c.loop-index.index c.loop-index-test.false)
