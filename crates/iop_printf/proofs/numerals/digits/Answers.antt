use Rattle.std.proofs.Common.{◌≡◌, ◌+◌, ◌-◌, refl, arith}
use Rattle.std.specs.Fmt.{digits}
use Rattle.std.proofs.lemmas.List.{length-set}
use Rattle.iop_printf.proofs.Digits.{digits_go_on}
use Rattle.iop_printf.proofs.numerals.digits.Goals as goal

pub loop-start-init : goal.loop-start-init
unfolding digits
loop-start-init c = record { room = omega arith; long = refl; rest = refl }

pub loop-start-preserved : goal.loop-start-preserved
loop-start-preserved c =
    let start = c.loop-start.start in
    let glyphs = c.loop-start.glyphs in
    let glyph = c.digit_glyph.result in
    let next : start ≡ start - 1 + 1 = omega arith in record {
      room = omega arith;
      long = omega (arith, length-set glyphs (start - 1) glyph, c.loop-start.invariant.long);
      rest = digits_go_on (start - 1) start c.args.base c.loop-start.left glyph c.args.upper glyphs
          _ next (omega arith) c.digit_glyph.ensures c.loop-start.invariant.rest
          c.if-left-eq0.false;
    }
