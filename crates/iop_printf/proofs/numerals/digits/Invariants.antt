use Rattle.std.proofs.Common.{◌≡◌, ◌≤◌, length, drop}
use Rattle.std.specs.Fmt.{digits, digits_onto}
use Rattle.iop_printf.specs.declared.numerals.TheConstants.{NUMERAL_ROOM}
use Rattle.iop_printf.proofs.numerals.digits.Given as goal

abbrev pub invariant-loop-start : goal.invariant-loop-start
invariant-loop-start l = record {
  room : l.start ≤ NUMERAL_ROOM;
  long : length l.glyphs ≡ NUMERAL_ROOM;
  rest : digits_onto l.start l.base l.upper l.left (drop l.start l.glyphs)
      ≡ digits l.base l.upper l.number;
}

abbrev pub decreases-loop-start : goal.decreases-loop-start
decreases-loop-start l = l.start
