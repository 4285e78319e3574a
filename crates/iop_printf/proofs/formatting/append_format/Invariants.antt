use Rattle.std.proofs.Common.{◌≡◌, ◌+◌, ◌≤◌, ◌++◌, length, take}
use Rattle.iop_printf.specs.Formatting.{text_from}
use Rattle.iop_printf.specs.declared.TheConstants.{LONGEST}
use Rattle.iop_printf.proofs.formatting.append_format.Given as goal

abbrev pub invariant-loop-byte : goal.invariant-loop-byte
invariant-loop-byte l = record {
  text : take LONGEST (l.text.items ++ text_from l.ram l.arguments l.taken 0 l.left)
      ≡ take LONGEST (text_from l.ram l.arguments 0 0 l.format);
  short : length l.text.items ≤ LONGEST;
  few : l.taken + length l.left ≤ length l.format;
}

abbrev pub decreases-loop-byte : goal.decreases-loop-byte
decreases-loop-byte l = length l.left
